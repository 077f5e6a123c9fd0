-- Each step keeps the rule of the least loss, and what it tells is true.
--
-- The word only falls, and falls to a loss that is published in the same step. So it stays below
-- all that any seat knew, and stays one of the losses that seats with shares published.
use Rattle.std.proofs.Common.{◌≡◌, ◌⊎◌, ℕ, ◌<◌, ◌≤◌, List, [], ◌∷◌, ◌++◌, set}
use Rattle.std.proofs.Common.{min, All, Contains, slice_index, slice_set, refl, sym, ap, ◌∙◌, subst}
use Rattle.std.proofs.Common.{inl, inr, ⊎_elim, le_trans, arith}
use Rattle.std.proofs.lemmas.List.Elements.{All-nil, All-push, All-append, All-weaker}
use Rattle.std.proofs.lemmas.List.Elements.{Contains-push, Contains-append_left}
use Rattle.std.proofs.lemmas.List.Elements.{Contains-append_right}
use mathlib.Core.Option.{none, some, some-injective}
use mathlib.Core.Logic.{dite}
use native.Mathlib.Decide.{dec_le}
use lib.ListN.{get_elem?}
use Rattle.atomic_table.specs.Table.{Me, step, keeps, Allows, Splits, Joins, Final, Seen}
use Rattle.shared_words.specs.declared.best_rule.BestView.{BestView}
use Rattle.shared_words.specs.declared.best_rule.BestKey.{BestKey}
use Rattle.shared_words.specs.BestRule.{spent_view, kept_view, given_view, both_views}
use Rattle.shared_words.specs.BestRule.{view_after_look, view_after_publish, shares_of, Fits, Stems}
use Rattle.shared_words.specs.BestRule.{LeastIs, Least, Told, Looked, Published}
use Rattle.shared_words.proofs.Views.{each_set, each_split, each_join, some_here, some_set}
use Rattle.shared_words.proofs.Views.{some_split, some_join, some_alone, stood_there}
use Rattle.shared_words.proofs.Views.{sum_set, sum_split, sum_join, two_of}

-- a step on the word, by what it does to the word and to the seat's view
on-the-word : (key : BestKey) (slots place : ℕ) (me : Me ℕ BestView) (f : ℕ → ℕ)
    (then : ℕ → Me ℕ BestView → Type 0) →
    ((word : ℕ) (views : List BestView) → LeastIs key word views →
    get_elem? views place ≡ some me.0 →
    (new : BestView) × LeastIs key (f word) (set views place new) × then word (new, me.1)) →
    Allows (Least key) slots place me 0 f then
on-the-word key slots place me f then move s kept _ here _ =
    let found : slice_index s.words 0 ≡ kept.word = ap (λ words. slice_index words 0) kept.words in
    let words : slice_set s.words 0 (f (slice_index s.words 0)) ≡ f kept.word ∷ [] =
    subst (λ words. slice_set words 0 (f (slice_index words 0)) ≡ f kept.word ∷ [])
    (sym kept.words) refl in
    let moved = move kept.word s.views kept.rule here in (
      moved.0,
      keeps,
      tt,
      record { word = f kept.word; words = words; rule = moved.1 },
      subst (λ word. then word (moved.0, me.1)) (sym found) moved.2,
    )

told : (start word : ℕ) (v : BestView) → 0 < v.shares → Fits start word v → Told v word
told start word v some_shares fit = ((fit.seen some_shares).0, fit.published)

pub looks : (key : BestKey) (slots place : ℕ) (v : BestView) (held : List (ℕ × ℕ)) → 0 < v.shares →
    Allows (Least key) slots place (v, held) 0 (λ n. n) (Looked (step slots 0 0 0 none) (v, held))
looks key slots place v held some_shares =
    on-the-word key slots place (v, held) (λ n. n) (Looked (step slots 0 0 0 none) (v, held))
    (λ word views rule here.
    let fit = rule.each place v here in
    let new = view_after_look v word in
    let new_fits : Fits key.start word new = record {
      published = fit.published;
      seen = λ _. (omega arith, le_trans (fit.seen some_shares).0 (fit.seen some_shares).1);
      spent = fit.spent;
    } in (
      new,
      record {
        shares = omega (arith, sum_set shares_of views place v new here, rule.shares);
        each = each_set (λ _. Fits key.start word) views place new rule.each new_fits;
        stems = ⊎_elim inl
            (λ has. inr (some_set (λ u. Contains u.mine word) views place v new here (λ c. c) has))
            rule.stems;
      },
      (told key.start word v some_shares fit, refl),
    ))

-- a view that fits a word fits a lower one
lower : (start word less : ℕ) (v : BestView) → less ≤ word → Fits start word v → Fits start less v
lower start word less v below fit = record {
  published = All-weaker (λ x. word ≤ x) (λ x. less ≤ x) (λ x fits. le_trans below fits) v.mine
      fit.published;
  seen = λ some_shares. (le_trans below (fit.seen some_shares).0, (fit.seen some_shares).1);
  spent = fit.spent;
}

-- the lesser of the word and of what is published stems from the seats
stems-lower : (start word loss : ℕ) (views : List BestView) (place : ℕ) (v new : BestView) →
    get_elem? views place ≡ some v → new.mine ≡ v.mine ++ loss ∷ [] → Stems start word views →
    Stems start (min word loss) (set views place new)
stems-lower start word loss views place v new here mine stems =
    dite (dec_le word loss)
    (λ le. let same : min word loss ≡ word = omega arith in
    subst (λ n. Stems start n (set views place new)) (sym same)
    (⊎_elim inl
    (λ has. inr (some_set (λ u. Contains u.mine word) views place v new here
    (λ c. subst (λ l. Contains l word) (sym mine)
    (Contains-append_left v.mine (loss ∷ []) word c)) has))
    stems))
    (λ gt. let same : min word loss ≡ loss = omega arith in
    subst (λ n. Stems start n (set views place new)) (sym same)
    (inr (some_here (λ u. Contains u.mine loss) views place v new here
    (subst (λ l. Contains l loss) (sym mine) (Contains-push v.mine loss)))))

pub publishes : (key : BestKey) (slots place loss : ℕ) (v : BestView) (held : List (ℕ × ℕ)) →
    0 < v.shares →
    Allows (Least key) slots place (v, held) 0 (λ n. min n loss)
    (Published (step slots 0 loss 0 none) (v, held))
publishes key slots place loss v held some_shares =
    on-the-word key slots place (v, held) (λ n. min n loss)
    (Published (step slots 0 loss 0 none) (v, held))
    (λ word views rule here.
    let fit = rule.each place v here in
    let new = view_after_publish v loss word in
    let below : min word loss ≤ word = omega arith in
    let seen = fit.seen some_shares in
    let new_fits : Fits key.start (min word loss) new = record {
      published = All-push (λ x. min word loss ≤ x) v.mine loss
          (lower key.start word (min word loss) v below fit).published (omega arith);
      seen = λ _. (omega arith, omega arith);
      spent = λ empty. absurd (omega arith);
    } in (
      new,
      record {
        shares = omega (arith, sum_set shares_of views place v new here, rule.shares);
        each = each_set (λ _. Fits key.start (min word loss)) views place new
            (λ other u there. lower key.start word (min word loss) u below
            (rule.each other u there)) new_fits;
        stems = stems-lower key.start word loss views place v new here refl rule.stems;
      },
      (told key.start word v some_shares fit, refl),
    ))

pub splits : (key : BestKey) (place : ℕ) (v : BestView) → 2 ≤ v.shares →
    Splits (Least key) place v (kept_view v) (given_view v)
splits key place v two s kept here =
    let views = s.views in
    let rule = kept.rule in
    let fit = rule.each place v here in
    let seen : (kept.word ≤ v.seen) × (v.seen ≤ key.start) = fit.seen (omega arith) in
    let left : Fits key.start kept.word (kept_view v) = record {
      published = fit.published;
      seen = λ _. seen;
      spent = λ none. absurd (omega arith);
    } in
    let right : Fits key.start kept.word (given_view v) = record {
      published = All-nil (λ x. kept.word ≤ x);
      seen = λ _. seen;
      spent = λ _. refl;
    } in
    record {
      word = kept.word;
      words = kept.words;
      rule = record {
        shares = omega (
          arith,
          rule.shares,
          sum_split shares_of views place v (kept_view v) (given_view v) here,
        );
        each = each_split (λ _. Fits key.start kept.word) views place (kept_view v) (given_view v)
            rule.each left (λ _. right);
        stems = ⊎_elim inl
            (λ has. inr (some_split (λ u. Contains u.mine kept.word) views place v (kept_view v)
            (given_view v) here (λ c. c) has))
            rule.stems;
      };
    }

pub joins : (key : BestKey) (place : ℕ) (v : BestView) (other : ℕ) (w : BestView) →
    0 < v.shares → 0 < w.shares →
    Joins (Least key) place v other w (both_views v w) spent_view
joins key place v other w some_shares some_too s kept here apart there =
    let views = s.views in
    let rule = kept.rule in
    let word = kept.word in
    let both = both_views v w in
    let fit = rule.each place v here in
    let fit_too = rule.each other w (stood_there views place other both w apart there) in
    let seen = fit.seen some_shares in
    let seen_too = fit_too.seen some_too in
    let both_fits : Fits key.start word both = record {
      published = All-append (λ x. word ≤ x) v.mine w.mine fit.published fit_too.published;
      seen = λ _. (omega arith, omega arith);
      spent = λ none. absurd (omega arith);
    } in
    let spent_fits : Fits key.start word spent_view = record {
      published = All-nil (λ x. word ≤ x);
      seen = λ some. absurd (omega arith);
      spent = λ _. refl;
    } in
    record {
      word = word;
      words = kept.words;
      rule = record {
        shares = omega (
          arith,
          rule.shares,
          sum_join shares_of views place other v w both spent_view here there,
        );
        each = each_join (λ _. Fits key.start word) views place other both spent_view rule.each
            both_fits spent_fits;
        stems = ⊎_elim inl
            (λ has. inr (some_join (λ u. Contains u.mine word) views place other v w both spent_view
            here apart there (Contains-append_left v.mine w.mine word)
            (Contains-append_right v.mine w.mine word) has))
            rule.stems;
      };
    }

-- what the word is, at the end
pub record ClosesAt (key : BestKey) (v : BestView) (word : ℕ) : Type 0 where
  pub from : (word ≡ key.start) ⊎ Contains v.mine word
  pub seen : word ≤ v.seen
  pub mine : All (λ loss. word ≤ loss) v.mine

-- the seat that has all shares knows all that was published
pub closes : (key : BestKey) (place : ℕ) (v : BestView) (words slots : List ℕ) (word : ℕ) →
    Final (Seen (Least key) place v) words slots → get_elem? words 0 ≡ some word →
    0 < v.shares → v.shares ≡ key.shares → ClosesAt key v word
closes key place v words slots word final read some_shares all =
    subst (ClosesAt key v) is record {
      from = ⊎_elim inl
          (λ has. inr (some_alone (λ u. Contains u.mine kept.word) final.0.views place v here
          nothing_else has))
          rule.stems;
      seen = (fit.seen some_shares).0;
      mine = fit.published;
    }
  where
    kept : Least key final.0
    kept = final.1.0

    rule : LeastIs key kept.word final.0.views
    rule = kept.rule

    here : get_elem? final.0.views place ≡ some v
    here = final.1.1

    fit : Fits key.start kept.word v
    fit = rule.each place v here

    is : kept.word ≡ word
    is = some-injective kept.word word
        (ap (λ l. get_elem? l 0) (sym kept.words ∙ final.2) ∙ read)

    nothing_else : (other : ℕ) (u : BestView) → get_elem? final.0.views other ≡ some u →
        ¬ (other ≡ place) → ¬ Contains u.mine kept.word
    nothing_else other u there apart has =
        let two = two_of shares_of final.0.views place other v u here there apart in
        let empty : u.mine ≡ [] = (rule.each other u there).spent (omega (arith, rule.shares)) in
        let in_empty : Contains [] kept.word = subst (λ l. Contains l kept.word) empty has in
        let lt = in_empty.1 in omega arith
