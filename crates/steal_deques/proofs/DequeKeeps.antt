-- Each step keeps the rule of a deque, and what it tells is true.
--
-- Who pushes or pops is the owner, so its view is the one that the balance speaks of. A theft adds
-- to what some thief stole what it takes from the paths. A share that is lent or taken back changes
-- two views and no path.
use Rattle.std.proofs.Common.{◌≡◌, ◌≢◌, ℕ, zero, suc, ◌<◌, ◌≤◌, Bool, true, false}
use Rattle.std.proofs.Common.{List, [], ◌∷◌, ◌++◌, length, set, All, sum_by, refl, sym}
use Rattle.std.proofs.Common.{ap, ◌∙◌, subst, inr, ⊎_elim, length-append, arith}
use Rattle.std.proofs.lemmas.Bool.{false≢true}
use Rattle.std.proofs.lemmas.List.Elements.{All-nil, All-cons, All-push, All-head, All-tail}
use Rattle.std.proofs.lemmas.List.Sums.{sum_by-append, sum_by-cons}
use mathlib.Core.Option.{some, some-injective, some-ne-none}
use lib.ListN.{get_elem?}
use Rattle.crossbeam_deque.specs.Tasks.{Pushes, Takes, Pops, Finds, FindsFew, Forks, Merges}
use Rattle.atomic_table.proofs.Lists.{set_here, set_else, at_longer}
use Rattle.order_symmetry.specs.Ranked.{RankedOrders}
use Rattle.shared_words.specs.Views.{EachView}
use Rattle.shared_words.proofs.Views.{in_range, one_view, each_set, each_split}
use Rattle.shared_words.proofs.Views.{each_join, sum_set, sum_split, sum_join, sum_alone, two_of}
use Rattle.steal_deques.specs.declared.rule.DequeView.{DequeView}
use Rattle.steal_deques.specs.Deque.{DequeOwner, Balances, WasEmpty}
use Rattle.steal_deques.specs.Views.{owner_view, unopened_view, spent_view}
use Rattle.steal_deques.specs.Views.{view_after_push, view_after_pop, view_after_steal}
use Rattle.steal_deques.specs.Views.{lender_view, lent_view, both_views}
use Rattle.steal_deques.specs.Rule.{IsInTree, shares_of, stolen_by, Fits, OpenedBy, Opened, Kept}
use Rattle.steal_deques.specs.Rule.{ViewWasEmpty, ViewHadFew}

-- the owner's own facts, at its place
owner-fits : (place : ℕ) (v : DequeView) → v.opened ≡ true → v.owns ≡ true →
    Fits place v.ranked place v
owner-fits place v opened owns = record {
  opened = opened;
  owner = λ _. refl;
  ranked = λ no_owner. absurd (false≢true (sym no_owner ∙ owns));
  spent = λ no_owner. absurd (false≢true (sym no_owner ∙ owns));
}

-- an end that is opened is one of an opened deque
is-opened : (paths : List (List ℕ)) (views : List DequeView) (place : ℕ) (v : DequeView) →
    v.opened ≡ true → Kept paths views → get_elem? views place ≡ some v → Opened paths views
is-opened paths views place v opened kept here =
    ⊎_elim
    (λ (new : (views ≡ unopened_view ∷ []) × (paths ≡ [])).
    unopened place (subst (λ l. get_elem? l place ≡ some v) new.0 here))
    (λ old. old)
    kept
  where
    unopened : (place : ℕ) → get_elem? (unopened_view ∷ []) place ≡ some v → Opened paths views
    unopened zero e =
        absurd (false≢true (ap (λ (u : DequeView). u.opened) (some-injective unopened_view v e)
        ∙ opened))
    unopened (suc rest) e = absurd (some-ne-none v (sym e))

-- the owner's view is the one that the rule speaks of
by-owner : (paths : List (List ℕ)) (views : List DequeView) (place : ℕ) (v : DequeView) →
    v.opened ≡ true → v.owns ≡ true → Kept paths views → get_elem? views place ≡ some v →
    OpenedBy place v paths views
by-owner paths views place v opened owns kept here =
    let old = is-opened paths views place v opened kept here in
    let same = (old.2.each place v here).owner owns in
    let is = one_view views old.0 place old.1 v old.2.here here same in
    subst (λ (x : ℕ × DequeView). OpenedBy x.0 x.1 paths views)
    (λ i. (sym same i, sym is i)) old.2

all-front : (P : List ℕ → Type 0) (xs ys : List (List ℕ)) → All P (xs ++ ys) → All P xs
all-front P [] ys all = All-nil P
all-front P (x ∷ xs) ys all =
    All-cons P x xs (All-head P x (xs ++ ys) all) (all-front P xs ys (All-tail P x (xs ++ ys) all))

all-back : (P : List ℕ → Type 0) (xs ys : List (List ℕ)) → All P (xs ++ ys) → All P ys
all-back P [] ys all = all
all-back P (x ∷ xs) ys all = all-back P xs ys (All-tail P x (xs ++ ys) all)

pub pushes : (place : ℕ) (v : DequeView) (path : List ℕ) → v.opened ≡ true → v.owns ≡ true →
    IsInTree v.ranked path →
    Pushes Kept place v (path ∷ []) (λ new. new ≡ view_after_push v (path ∷ []))
pushes place v path opened owns inside paths views kept here =
    let rule = by-owner paths views place v opened owns kept here in
    let new = view_after_push v (path ∷ []) in (
      new,
      inr (
        place,
        new,
        record {
          here = set_here views place new (in_range views place v here);
          owns = owns;
          shares = omega (arith, rule.shares, sum_set shares_of views place v new here);
          each = each_set (Fits place v.ranked) views place new rule.each
              (owner-fits place new opened owns);
          balance = λ h. omega (
            arith,
            rule.balance h,
            sum_set (stolen_by h) views place v new here,
            sum_by-append h v.pushed (path ∷ []),
            sum_by-append h paths (path ∷ []),
          );
          tree = All-push (IsInTree v.ranked) paths path rule.tree inside;
        },
      ),
      refl,
    )

count-of : (paths : List (List ℕ)) → sum_by (λ _. 1) paths ≡ length paths
count-of [] = refl
count-of (x ∷ paths) = omega (arith, sum_by-cons (λ _. 1) x paths, count-of paths)

pub pops : (place : ℕ) (v : DequeView) → v.opened ≡ true → v.owns ≡ true →
    Pops Kept place v (λ taken new. (new ≡ view_after_pop v taken)
    × All (IsInTree v.ranked) taken × (length new.popped ≤ length new.pushed))
pops place v opened owns path paths views kept here =
    let taken = path ∷ [] in
    let rule = by-owner (paths ++ taken) views place v opened owns kept here in
    let new = view_after_pop v taken in (
      new,
      inr (
        place,
        new,
        record {
          here = set_here views place new (in_range views place v here);
          owns = owns;
          shares = omega (arith, rule.shares, sum_set shares_of views place v new here);
          each = each_set (Fits place v.ranked) views place new rule.each
              (owner-fits place new opened owns);
          balance = λ h. omega (
            arith,
            rule.balance h,
            sum_set (stolen_by h) views place v new here,
            sum_by-append h v.popped taken,
            sum_by-append h paths taken,
          );
          tree = all-front (IsInTree v.ranked) paths taken rule.tree;
        },
      ),
      (
        refl,
        all-back (IsInTree v.ranked) paths taken rule.tree,
        omega (
          arith,
          rule.balance (λ _. 1),
          count-of v.pushed,
          count-of v.popped,
          count-of (paths ++ taken),
          length-append paths taken,
          length-append v.popped taken,
        ),
      ),
    )

pub finds : (place : ℕ) (v : DequeView) → v.opened ≡ true → Finds Kept place v (ViewWasEmpty v)
finds place v opened views kept here = record {
  views = views;
  place = place;
  here = here;
  rule = is-opened [] views place v opened kept here;
}

pub finds_few : (place : ℕ) (v : DequeView) → v.opened ≡ true →
    FindsFew Kept 1 place v (ViewHadFew v)
finds_few place v opened paths views few kept here = (
  paths,
  few,
  record {
    views = views;
    place = place;
    here = here;
    rule = is-opened paths views place v opened kept here;
  },
)

-- a thief takes the first path
pub steals : (place : ℕ) (v : DequeView) → v.opened ≡ true → v.owns ≡ false → 0 < v.shares →
    Takes Kept place v 1 (λ taken new. (new ≡ view_after_steal v taken)
    × All (IsInTree v.ranked) taken)
steals place v opened no_owner has taken paths views _ _ kept here =
    let old = is-opened (taken ++ paths) views place v opened kept here in
    let home = old.0 in
    let own = old.1 in
    let rule = old.2 in
    let fit = rule.each place v here in
    let orders : v.ranked ≡ own.ranked = fit.ranked no_owner has in
    let apart : home ≢ place = λ same.
    absurd (false≢true (sym no_owner ∙ ap (λ (u : DequeView). u.owns)
    (sym (one_view views place home v own here rule.here same)) ∙ rule.owns)) in
    let new = view_after_steal v taken in
    let new_fits : Fits home own.ranked place new = record {
      opened = opened;
      owner = λ owns. absurd (false≢true (sym no_owner ∙ owns));
      ranked = fit.ranked;
      spent = λ _ empty. absurd (omega arith);
    } in (
      new,
      inr (
        home,
        own,
        record {
          here = set_else views place home new apart ∙ rule.here;
          owns = rule.owns;
          shares = omega (arith, rule.shares, sum_set shares_of views place v new here);
          each = each_set (Fits home own.ranked) views place new rule.each new_fits;
          balance = λ h. omega (
            arith,
            rule.balance h,
            sum_set (stolen_by h) views place v new here,
            sum_by-append h v.stolen taken,
            sum_by-append h taken paths,
          );
          tree = all-back (IsInTree own.ranked) taken paths rule.tree;
        },
      ),
      (
        refl,
        subst (λ ranked. All (IsInTree ranked) taken) (sym orders)
            (all-front (IsInTree own.ranked) taken paths rule.tree),
      ),
    )

-- a deque is opened
pub opens : (place : ℕ) (v : DequeView) (ranked : RankedOrders) (all : ℕ) → v.opened ≡ false →
    Forks Kept place v (owner_view ranked all all [] [] []) spent_view
opens place v ranked all unopened paths views kept here =
    ⊎_elim
    (λ (new : (views ≡ unopened_view ∷ []) × (paths ≡ [])).
    inr (subst (λ l. Opened l (set views place own ++ spent_view ∷ [])) (sym new.1)
    (subst (λ l. Opened [] (set l place own ++ spent_view ∷ [])) (sym new.0)
    (alone place (subst (λ l. get_elem? l place ≡ some v) new.0 here)))))
    (λ (old : Opened paths views).
    absurd (false≢true (sym unopened ∙ (old.2.each place v here).opened)))
    kept
  where
    own : DequeView
    own = owner_view ranked all all [] [] []

    fits : EachView (Fits 0 ranked) (own ∷ spent_view ∷ [])
    fits zero u e = subst (Fits 0 ranked 0) (some-injective own u e) (owner-fits 0 own refl refl)
    fits (suc zero) u e = subst (Fits 0 ranked 1) (some-injective spent_view u e) record {
      opened = refl;
      owner = λ owns. absurd (false≢true owns);
      ranked = λ _ has. absurd (omega arith);
      spent = λ _ _. refl;
    }
    fits (suc (suc rest)) u e = absurd (some-ne-none u (sym e))

    begun : Opened [] (own ∷ spent_view ∷ [])
    begun = (
      0,
      own,
      record {
        here = refl;
        owns = refl;
        shares = omega arith;
        each = fits;
        balance = λ h. omega arith;
        tree = All-nil (IsInTree ranked);
      },
    )

    alone : (place : ℕ) → get_elem? (unopened_view ∷ []) place ≡ some v →
        Opened [] (set (unopened_view ∷ []) place own ++ spent_view ∷ [])
    alone zero e = begun
    alone (suc rest) e = absurd (some-ne-none v (sym e))

-- the owner lends a share
pub lends : (place : ℕ) (v : DequeView) → v.opened ≡ true → v.owns ≡ true → 1 ≤ v.shares →
    Forks Kept place v (lender_view v) (lent_view v)
lends place v opened owns has paths views kept here =
    let rule = by-owner paths views place v opened owns kept here in
    let own = lender_view v in
    let thief = lent_view v in
    let thief_fits : (last : ℕ) → Fits place v.ranked last thief = λ last. record {
      opened = refl;
      owner = λ e. absurd (false≢true e);
      ranked = λ _ _. refl;
      spent = λ _ _. refl;
    } in
    inr (
      place,
      own,
      record {
        here = at_longer (set views place own) (thief ∷ []) place own
            (set_here views place own (in_range views place v here));
        owns = owns;
        shares = omega (arith, rule.shares, sum_split shares_of views place v own thief here);
        each = each_split (Fits place v.ranked) views place own thief rule.each
            (owner-fits place own opened owns) thief_fits;
        balance = λ h. omega (
          arith,
          rule.balance h,
          sum_split (stolen_by h) views place v own thief here,
        );
        tree = rule.tree;
      },
    )

-- the owner takes back a thief
pub takes_back : (place : ℕ) (v : DequeView) (other : ℕ) (w : DequeView) → v.opened ≡ true →
    v.owns ≡ true → Merges Kept place v other w (both_views v w) spent_view
takes_back place v other w opened owns paths views kept here apart there =
    let rule = by-owner paths views place v opened owns kept here in
    let own = both_views v w in
    let spent_fits : Fits place v.ranked other spent_view = record {
      opened = refl;
      owner = λ e. absurd (false≢true e);
      ranked = λ _ has. absurd (omega arith);
      spent = λ _ _. refl;
    } in
    inr (
      place,
      own,
      record {
        here = set_else (set views place own) other place spent_view (λ e. apart (sym e))
            ∙ set_here views place own (in_range views place v here);
        owns = owns;
        shares = omega (
          arith,
          rule.shares,
          sum_join shares_of views place other v w own spent_view here there,
        );
        each = each_join (Fits place v.ranked) views place other own spent_view rule.each
            (owner-fits place own opened owns) spent_fits;
        balance = λ h. omega (
          arith,
          rule.balance h,
          sum_join (stolen_by h) views place other v w own spent_view here there,
          sum_by-append h v.stolen w.stolen,
        );
        tree = rule.tree;
      },
    )

-- the owner that has all shares knows all that was stolen
pub settles : (owner : DequeOwner) → owner.shares ≡ owner.all → WasEmpty owner →
    Balances owner.pushed owner.popped owner.stolen []
settles owner whole empty h =
    omega (
      arith,
      rule.balance h,
      sum_alone (stolen_by h) empty.views empty.place own empty.here nothing_else,
    )
  where
    own : DequeView
    own = owner_view owner.ranked owner.all owner.shares owner.pushed owner.popped owner.stolen

    rule : OpenedBy empty.place own [] empty.views
    rule = by-owner [] empty.views empty.place own refl refl (inr empty.rule) empty.here

    not_owner : (b : Bool) → b ≢ true → b ≡ false
    not_owner true isnt = absurd (isnt refl)
    not_owner false isnt = refl

    nothing_else : EachView (λ other u. other ≢ empty.place → stolen_by h u ≡ 0) empty.views
    nothing_else other u there apart =
        let fit = rule.each other u there in
        let two = two_of shares_of empty.views empty.place other own u empty.here there apart in
        ap (sum_by h) (fit.spent (not_owner u.owns (λ owns. apart (fit.owner owns)))
        (omega (arith, rule.shares, whole)))
