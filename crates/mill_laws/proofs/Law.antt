-- Where a log refutes a loss, each word from the empty path loses at least that.
--
-- By how many numbers still lead to a leaf, from none up: each word at a recorded path loses at
-- least the bound. Of one length the records that aren't dominated come first.
--   Split: the first number of the word leads to a child, recorded too, as the log is complete.
--   Leaf: the word ends here, and the record says what it loses.
--   Priced: by weak duality the word loses more than the bound less one.
--   Dominated: the word is carried to the path that the record names, where it loses no more. There
--   the log has a record that isn't dominated, so that the word there loses at least the bound.
-- The empty path is recorded, as the log is complete.
use Rattle.std.proofs.Common.{ℕ, zero, suc, ◌+◌, ◌*◌, ◌<◌, ◌≤◌, ◌≡◌, ◌⊎◌, max, eqb, int_lt, Bool}
use Rattle.std.proofs.Common.{true, false, ◌&&◌, ◌||◌, not, List, [], ◌∷◌, ◌++◌, length, ℤ, pos}
use Rattle.std.proofs.Common.{◌-ℤ◌, ◌*ℤ◌, ◌≤ℤ◌, refl, sym, ◌∙◌, arith, inl, inr, subst}
use Rattle.std.proofs.Common.{eqb-true, leb-true, ltb-true, length-drop, append_assoc}
use Rattle.std.proofs.Common.{append-nil}
use Rattle.std.proofs.lemmas.Int.{ints}
use Rattle.std.specs.List.{AllByRecursion}
use Rattle.list_laws.specs.Sets.{same_list}
use Rattle.mill_model.specs.Plan.{loss}
use Rattle.mill_model.specs.Rank.{starts_class_in}
use Rattle.mill_model.specs.Tree.{later_orders, next_new, in_tree}
use Rattle.mill_model.specs.Prices.{valid, worth}
use Rattle.mill_model.specs.LiveKey.{same_live_key, dead_loss}
use Rattle.mill_model.specs.Log.{Task, sound, recorded, left_open, split_children, is_dominated}
use Rattle.mill_model.specs.Log.{is_settled, names_settled, Refutes}
use Rattle.mill_model.specs.declared.order.Order.{Order}
use Rattle.mill_model.specs.declared.closing.Entry.{Entry}
use Rattle.mill_model.specs.declared.closing.Closing.{Closing}
use Rattle.mill_model.specs.declared.closing.Closing.TheVariants.{Split, Leaf, Priced, Dominated}
use Rattle.list_laws.proofs.Times.{times-pos, times-among}
use Rattle.mill_laws.proofs.Groups.{next_new-append, numbers-below}
use Rattle.list_laws.proofs.Tests.{and-left, and-right}
use Rattle.list_laws.proofs.Among.{Among, Among-append_left, Among-append_right}
use Rattle.mill_laws.proofs.Duality.{weak-duality}
use Rattle.mill_laws.proofs.Paths.{Word, step-word, first-child}
use Rattle.list_laws.proofs.Times.{same_list-eq, same_list-refl}

-- The test of lists of numbers is right.

-- A path with its record.

abbrev pub Has : List ℕ → Closing → List Entry → Type 0
Has p c [] = ⊥
Has p c (e ∷ log) = ((p ≡ e.path) × (c ≡ e.closing)) ⊎ Has p c log

pub has-recorded : (p : List ℕ) (log : List Entry) → Among p (recorded log) →
    (c : Closing) × Has p c log
has-recorded p [] h = absurd h
has-recorded p (e ∷ log) (inl h) = (e.closing, inl (h, refl))
has-recorded p (e ∷ log) (inr h) = let r = has-recorded p log h in (r.0, inr r.1)

pub recorded-has : (p : List ℕ) (c : Closing) (log : List Entry) → Has p c log →
    Among p (recorded log)
recorded-has p c [] h = absurd h
recorded-has p c (e ∷ log) (inl h) = inl h.0
recorded-has p c (e ∷ log) (inr h) = inr (recorded-has p c log h)

-- what holds of each record holds of it
pub has-all : (P : List ℕ → Closing → Type 0) (p : List ℕ) (c : Closing) (log : List Entry) →
    Has p c log → AllByRecursion (λ e. P e.path e.closing) log → P p c
has-all P p c [] h a = absurd h
has-all P p c (e ∷ log) (inl h) a = rw (h.0, h.1) a.0
has-all P p c (e ∷ log) (inr h) a = has-all P p c log h a.1

-- what it leaves to other records
pub open-child : (task : Task) (child p : List ℕ) (c : Closing) (log : List Entry) → Has p c log →
    Among child (left_open task p c) → Among child (split_children task log)
open-child task child p c [] h a = absurd h
open-child task child p c (e ∷ log) (inl h) a =
    Among-append_left child (left_open task e.path e.closing) (split_children task log)
    (rw (← h.0, ← h.1) a)
open-child task child p c (e ∷ log) (inr h) a =
    Among-append_right child (left_open task e.path e.closing) (split_children task log)
    (open-child task child p c log h a)

-- a settled path has a record that isn't dominated
pub settled-has : (p : List ℕ) (log : List Entry) → is_settled log p ≡ true →
    (c : Closing) × Has p c log × (is_dominated c ≡ false)
settled-has p [] h = absurd (grind arith)
settled-has p (e ∷ log) h =
    cases (same_list p e.path && not (is_dominated e.closing)) refl (settled-has p log) h
  where
    cases : (b : Bool) → (same_list p e.path && not (is_dominated e.closing)) ≡ b →
        (is_settled log p ≡ true → (c : Closing) × Has p c log × (is_dominated c ≡ false)) →
        (b || is_settled log p) ≡ true →
        (c : Closing) × Has p c (e ∷ log) × (is_dominated c ≡ false)
    cases true q ih k = (
      e.closing,
      inl (same_list-eq p e.path (and-left (same_list p e.path) _ q), refl),
      grind (arith, and-right (same_list p e.path) (not (is_dominated e.closing)) q),
    )
    cases false q ih k = let r = ih k in (r.0, inr r.1, r.2)

-- What sound records say.

-- prices that are worth more than 60 * (bound - 1)
pub priced-law : (task : Task) (bound : ℕ) (path more : List ℕ) (prices : List ℤ) →
    Word task path more → sound task bound path (Priced prices) ≡ true →
    bound ≤ loss task.charge (path ++ more) task.ranked
priced-law task bound path more prices w h =
    let rest : List Order = later_orders task.ranked path in
    let one-each = eqb (length path + length prices) (length task.ranked) in
    let are-valid = valid task.mill task.charge rest prices in
    let value = worth task.mill task.charge task.ranked path prices in
    let both : (one-each && are-valid) ≡ true = and-left (one-each && are-valid) _ h in
    let long : length path + length prices ≡ length task.ranked =
    eqb-true _ _ (and-left one-each are-valid both) in
    let numbers : max (next_new path) (next_new more) ≤ length task.ranked =
    rw (← next_new-append path more) w.numbers in
    let rest-long = length-drop (length path) task.ranked in
    more-than bound (loss task.charge (path ++ more) task.ranked) value
    (and-right (one-each && are-valid) _ h)
    (weak-duality task.mill task.charge task.ranked path more prices
    (omega (arith, rest-long, w.long)) (omega (arith, rest-long)) (omega arith)
    (numbers-below (length task.ranked) more (omega arith)) (and-right one-each are-valid both)
    (λ s l. w.fits s))
  where
    more-than : (bound loss : ℕ) (v : ℤ) → int_lt (pos 60 *ℤ (pos bound -ℤ pos 1)) v ≡ true →
        v ≤ℤ pos (60 * loss) → bound ≤ loss
    more-than bound loss v h k = grind (arith, ints)

-- another path that dominates
pub record Dominates (task : Task) (path other : List ℕ) : Type 0 where
  pub tree : in_tree task.mill task.ranked other ≡ true
  pub same_length : length other ≡ length path
  pub starts : starts_class_in (length path) task.ranked ≡ true
  pub key : same_live_key task.mill task.ranked path other ≡ true
  pub dead : dead_loss task.mill task.charge task.ranked other
      ≤ dead_loss task.mill task.charge task.ranked path

pub dominated-facts : (task : Task) (bound : ℕ) (path other : List ℕ) →
    sound task bound path (Dominated other) ≡ true → Dominates task path other
dominated-facts task bound path other h =
    let tree = in_tree task.mill task.ranked other in
    let long = eqb (length other) (length path) in
    let start = starts_class_in (length path) task.ranked in
    let key = same_live_key task.mill task.ranked path other in
    let four = and-left (((tree && long) && start) && key) _ h in
    let three = and-left ((tree && long) && start) key four in
    let two = and-left (tree && long) start three in
    record {
      tree = and-left tree long two;
      same_length = eqb-true _ _ (and-right tree long two);
      starts = and-right (tree && long) start three;
      key = and-right ((tree && long) && start) key four;
      dead = leb-true _ _ (and-right (((tree && long) && start) && key) _ h);
    }

-- The law, where words can be carried to a path that dominates.

module _ (task : Task) (bound : ℕ) (log : List Entry) (refutes : Refutes task bound log)
    (carry : (path other more : List ℕ) → Word task path more → Dominates task path other →
    (more' : List ℕ) × Word task other more'
    × (loss task.charge (other ++ more') task.ranked ≤ loss task.charge (path ++ more) task.ranked))
  where
    -- words of d numbers at recorded paths
    abbrev pub Holds : ℕ → Type 0
    Holds d =
        (path more : List ℕ) → length more ≡ d → Word task path more → Among path (recorded log) →
        bound ≤ loss task.charge (path ++ more) task.ranked

    abbrev pub Deeper : List ℕ → Type 0
    Deeper more = (d : ℕ) → length more ≡ suc d → Holds d

    pub sound-at : (path : List ℕ) (c : Closing) → Has path c log → sound task bound path c ≡ true
    sound-at path c h = has-all (λ p c. sound task bound p c ≡ true) path c log h refutes.each_sound

    pub named-at : (path : List ℕ) (c : Closing) → Has path c log → names_settled log c ≡ true
    named-at path c h = has-all (λ p c. names_settled log c ≡ true) path c log h refutes.each_named

    -- the child of a split path is recorded
    pub child-recorded : (path : List ℕ) (g : ℕ) (more : List ℕ) → Word task path (g ∷ more) →
        Has path Split log → Among (path ++ g ∷ []) (recorded log)
    child-recorded path g more w h =
        let child : List ℕ = path ++ g ∷ [] in
        let child-open = open-child task child path Split log h (first-child task path g more w) in
        let counted = times-pos same_list same_list-refl child ([] ∷ split_children task log)
        (inr child-open) in
        times-among same_list same_list-eq child (recorded log) (rw refutes.complete counted)

    pub leaf-law : (path more : List ℕ) → Word task path more → Has path Leaf log →
        bound ≤ loss task.charge (path ++ more) task.ranked
    leaf-law path more w h =
        let full = eqb (length path) (length task.ranked) in
        let s = sound-at path Leaf h in
        let long : length path ≡ length task.ranked = eqb-true _ _ (and-left full _ s) in
        ends more (omega (arith, w.long)) (leb-true _ _ (and-right full _ s))
      where
        ends : (more : List ℕ) → length more ≡ 0 → bound ≤ loss task.charge path task.ranked →
            bound ≤ loss task.charge (path ++ more) task.ranked
        ends [] e l = rw append-nil l
        ends (g ∷ more) e l = absurd (omega arith)

    -- where the record is not dominated
    pub settled-law : (path more : List ℕ) (c : Closing) → Deeper more → Word task path more →
        Has path c log → is_dominated c ≡ false →
        bound ≤ loss task.charge (path ++ more) task.ranked
    settled-law path [] Split deeper w h n =
        let short : length path < length task.ranked = ltb-true _ _ (sound-at path Split h) in
        absurd (omega (arith, w.long))
    settled-law path (g ∷ more) Split deeper w h n =
        rw (← append_assoc path (g ∷ []) more) (deeper (length more) refl (path ++ g ∷ []) more refl
        (step-word task path g more w) (child-recorded path g more w h))
    settled-law path more Leaf deeper w h n = leaf-law path more w h
    settled-law path more (Priced prices) deeper w h n =
        priced-law task bound path more prices w (sound-at path (Priced prices) h)
    settled-law path more (Dominated other) deeper w h n = grind arith

    -- where it is
    pub dominated-law : (path more other : List ℕ) → Deeper more → Word task path more →
        Has path (Dominated other) log → bound ≤ loss task.charge (path ++ more) task.ranked
    dominated-law path more other deeper w h =
        let dominates = dominated-facts task bound path other (sound-at path (Dominated other) h) in
        let carried = carry path other more w dominates in
        let settled = settled-has other log (named-at path (Dominated other) h) in
        let same : length more ≡ length carried.0 =
        omega (arith, w.long, carried.1.long, dominates.same_length) in
        omega (
          arith,
          carried.2,
          settled-law other carried.0 settled.0 (λ d q. deeper d (same ∙ q)) carried.1 settled.1
              settled.2,
        )

    pub level : (d : ℕ) → ((e : ℕ) → d ≡ suc e → Holds e) → Holds d
    level d deeper path more e w a = let r = has-recorded path log a in cases r.0 r.1
      where
        down : Deeper more
        down d' q = deeper d' (sym e ∙ q)

        cases : (c : Closing) → Has path c log → bound ≤ loss task.charge (path ++ more) task.ranked
        cases Split h = settled-law path more Split down w h refl
        cases Leaf h = settled-law path more Leaf down w h refl
        cases (Priced prices) h = settled-law path more (Priced prices) down w h refl
        cases (Dominated other) h = dominated-law path more other down w h

    pub law : (d : ℕ) → Holds d
    law zero = level zero (λ e q. absurd (omega arith))
    law (suc d) = level (suc d) (λ e q. let k : d ≡ e = omega arith in subst Holds k (law d))

    pub words-law : (word : List ℕ) → Word task [] word → bound ≤ loss task.charge word task.ranked
    words-law word w =
        law (length word) [] word refl w (times-among same_list same_list-eq [] (recorded log)
        (rw refutes.complete (omega arith)))
