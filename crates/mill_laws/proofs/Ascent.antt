-- The ascent's prices are valid, and what they are worth is the sum of the groups' first least
-- slacks, at prices of zero, and of the prices.
--
-- What the ascent keeps as it sets one price after another: no price is negative, the later ones
-- are zero, and of each legal set the slack with a new slab is at least 0, and with a group at
-- least the group's first least slack. A new price is at most what any set with its order leaves.
-- At the end a group's least slack is at least the first one, and at most it, since prices that
-- aren't negative only lower slacks.
use Rattle.std.proofs.Common.{ℕ, zero, suc, ◌*◌, ◌<◌, ◌≤◌, ◌≡◌, Bool, true, false, cond, List, []}
use Rattle.std.proofs.Common.{◌∷◌, ◌++◌, map, length, get_or, set, replicate, flat_map, ℤ, pos}
use Rattle.std.proofs.Common.{◌+ℤ◌, ◌-ℤ◌, ◌≤ℤ◌, int_le, refl, ap, ◌∙◌, arith, inl, inr, length-set}
use Rattle.std.proofs.lemmas.Int.{ints}
use Rattle.std.specs.List.{AllByRecursion}
use Rattle.list_laws.specs.Sets.{chosen, int_sum, below}
use Rattle.mill_model.specs.Slab.{Mill, load, legal}
use Rattle.mill_model.specs.Plan.{slab}
use Rattle.mill_model.specs.Tree.{later_orders, next_new}
use Rattle.mill_model.specs.Prices.{slack, legal_sets, valid, least_slack, worth}
use Rattle.mill_model.specs.Bounds.{in_set, least_of, slacks, or_zero, no_prices, first_slack}
use Rattle.mill_model.specs.Bounds.{slacks_on, ascent_slacks, ascent, ascent_prices, ascent_worth}
use Rattle.mill_model.specs.declared.order.Order.{Order}
use Rattle.list_laws.proofs.Among.{Among, Among-append_left, Among-append_right, Among-unappend}
use Rattle.list_laws.proofs.Among.{Among-map, Among-unmap, all-from, among-below, below-lt}
use Rattle.list_laws.proofs.Sums.{int_total-cong}
use Rattle.list_laws.proofs.Tests.{either}
use Rattle.mill_laws.proofs.Least.{or_zero-le, or_zero-in}
use Rattle.mill_laws.proofs.Slacks.{among-slacks, from-slacks, least_slack-glb, least_slack-below}
use Rattle.mill_laws.proofs.Slacks.{slack-change, set-back}
use Rattle.list_laws.proofs.Among.{flat-among, flat-unamong}

-- Lists that are joined.

-- Prices that are not negative.

abbrev pub NotNegative : List ℤ → Type 0
NotNegative ys = AllByRecursion (λ y. pos 0 ≤ℤ y) ys

pub chosen-not-negative : (marks : List Bool) (ys : List ℤ) → NotNegative ys →
    pos 0 ≤ℤ int_sum (chosen marks ys)
chosen-not-negative [] ys h = omega (arith, ints)
chosen-not-negative (m ∷ marks) [] h = omega (arith, ints)
chosen-not-negative (true ∷ marks) (y ∷ ys) h =
    omega (arith, ints, h.0, chosen-not-negative marks ys h.1)
chosen-not-negative (false ∷ marks) (y ∷ ys) h = chosen-not-negative marks ys h.1

pub set-not-negative : (i : ℕ) (ys : List ℤ) (u : ℤ) → pos 0 ≤ℤ u → NotNegative ys →
    NotNegative (set ys i u)
set-not-negative i [] u h k = k
set-not-negative zero (y ∷ ys) u h k = (h, k.1)
set-not-negative (suc i) (y ∷ ys) u h k = (k.0, set-not-negative i ys u h k.1)

pub zeros-not-negative : (n : ℕ) → NotNegative (replicate n (pos 0))
zeros-not-negative zero = tt
zeros-not-negative (suc n) = (omega (arith, ints), zeros-not-negative n)

pub zeros-sum : (marks : List Bool) (n : ℕ) → int_sum (chosen marks (replicate n (pos 0))) ≡ pos 0
zeros-sum [] n = refl
zeros-sum (m ∷ marks) zero = refl
zeros-sum (true ∷ marks) (suc n) = omega (arith, ints, zeros-sum marks n)
zeros-sum (false ∷ marks) (suc n) = zeros-sum marks n

pub zeros-at : (j n : ℕ) → get_or (replicate n (pos 0)) j (pos 0) ≡ pos 0
zeros-at j zero = refl
zeros-at zero (suc n) = refl
zeros-at (suc j) (suc n) = zeros-at j n

pub zeros-length : (n : ℕ) → length (replicate n (pos 0)) ≡ n
zeros-length zero = refl
zeros-length (suc n) = ap suc (zeros-length n)

pub set-other : (i j : ℕ) (ys : List ℤ) (u : ℤ) → i < j →
    get_or (set ys i u) j (pos 0) ≡ get_or ys j (pos 0)
set-other i j [] u h = refl
set-other i zero (y ∷ ys) u h = absurd (omega arith)
set-other zero (suc j) (y ∷ ys) u h = refl
set-other (suc i) (suc j) (y ∷ ys) u h = set-other i j ys u (omega arith)

pub ascent-length : (mill : Mill) (charge : ℕ → ℕ) (ranked : List Order) (path : List ℕ) (i : ℕ) →
    length (ascent mill charge ranked path i) ≡ length (later_orders ranked path)
ascent-length mill charge ranked path zero = zeros-length (length (later_orders ranked path))
ascent-length mill charge ranked path (suc i) =
    length-set _ i _ ∙ ascent-length mill charge ranked path i

module _ (mill : Mill) (charge : ℕ → ℕ) (ranked : List Order) (path : List ℕ)
    (fits : (s : ℕ) → legal mill (slab s path ranked) ≡ true) where
  abbrev pub rest : List Order
  rest = later_orders ranked path

  abbrev pub group : ℕ → List Order
  group g = slab g path ranked

  -- the first i prices, and a group's least slack at prices of zero
  abbrev pub prices : ℕ → List ℤ
  prices i = ascent mill charge ranked path i

  abbrev pub z0 : ℕ → ℤ
  z0 g = first_slack mill charge ranked path g

  -- What the first i prices keep.
  pub record Kept (i : ℕ) : Type 0 where
    pub long : length (prices i) ≡ length rest
    pub new : (marks : List Bool) → Among marks (legal_sets mill [] rest) →
        pos 0 ≤ℤ slack charge [] rest (prices i) marks
    pub old : (g : ℕ) (marks : List Bool) → g < next_new path →
        Among marks (legal_sets mill (group g) rest) →
        z0 g ≤ℤ slack charge (group g) rest (prices i) marks
    pub not_negative : NotNegative (prices i)
    pub later : (j : ℕ) → i ≤ j → get_or (prices i) j (pos 0) ≡ pos 0

  pub zero-slack : (some : List Order) (marks : List Bool) →
      slack charge some rest (no_prices rest) marks
      ≡ pos (60 * charge (load (some ++ chosen marks rest)))
  zero-slack some marks = omega (arith, ints, zeros-sum marks (length rest))

  pub kept-first : Kept 0
  kept-first = record {
    long = ascent-length mill charge ranked path 0;
    new = λ marks h. omega (arith, ints, zero-slack [] marks);
    old =
        λ g marks l h.
        least_slack-below mill charge (group g) rest (fits g) (no_prices rest) marks h;
    not_negative = zeros-not-negative (length rest);
    later = λ j h. zeros-at j (length rest);
  }

  -- The next price: the least of the slacks of new slabs with order i, and of the slacks of groups
  -- with order i less the group's first least slack.

  abbrev pub firsts : ℕ → List ℤ
  firsts i = slacks mill charge [] rest (prices i) (in_set i)

  abbrev pub of_group : ℕ → ℕ → List ℤ
  of_group i g = map (λ s. s -ℤ z0 g) (slacks_on mill charge ranked path (prices i) i g)

  abbrev pub seconds : ℕ → List ℤ
  seconds i = flat_map (of_group i) (below (next_new path))

  abbrev pub price : ℕ → ℤ
  price i = or_zero (least_of (ascent_slacks mill charge ranked path (prices i) i))

  pub price-new : (i : ℕ) (marks : List Bool) → Among marks (legal_sets mill [] rest) →
      in_set i marks ≡ true → price i ≤ℤ slack charge [] rest (prices i) marks
  price-new i marks h t =
      or_zero-le (slack charge [] rest (prices i) marks) (firsts i ++ seconds i)
      (Among-append_left _ (firsts i) (seconds i)
      (among-slacks mill charge [] rest (prices i) (in_set i) marks h t))

  pub price-old : (i g : ℕ) (marks : List Bool) → g < next_new path →
      Among marks (legal_sets mill (group g) rest) → in_set i marks ≡ true →
      price i ≤ℤ (slack charge (group g) rest (prices i) marks -ℤ z0 g)
  price-old i g marks b h t =
      or_zero-le (slack charge (group g) rest (prices i) marks -ℤ z0 g) (firsts i ++ seconds i)
      (Among-append_right _ (firsts i) (seconds i) (flat-among (of_group i) _ g
      (below (next_new path)) (among-below g (next_new path) b)
      (Among-map (λ s. s -ℤ z0 g) (slack charge (group g) rest (prices i) marks)
      (slacks_on mill charge ranked path (prices i) i g)
      (among-slacks mill charge (group g) rest (prices i) (in_set i) marks h t))))

  pub price-not-negative : (i : ℕ) → Kept i → pos 0 ≤ℤ price i
  price-not-negative i k = least-of-all (firsts i ++ seconds i) (λ x h.
      elim (Among-unappend x (firsts i) (seconds i) h) [
        | inl a ↦ (let r = from-slacks mill charge [] rest (prices i) (in_set i) x a in
            rw r.3 (k.new r.0 r.1))
        | inr b ↦ (let f = flat-unamong (of_group i) x (below (next_new path)) b in
            let u = Among-unmap (λ s. s -ℤ z0 f.0) x
            (slacks_on mill charge ranked path (prices i) i f.0) f.2 in
            let r = from-slacks mill charge (group f.0) rest (prices i) (in_set i) u.0 u.1 in
            omega (arith, ints, u.2, r.3, k.old f.0 r.0 (below-lt f.0 (next_new path) f.1) r.1))
      ])
    where
      least-of-all : (xs : List ℤ) → ((x : ℤ) → Among x xs → pos 0 ≤ℤ x) →
          pos 0 ≤ℤ or_zero (least_of xs)
      least-of-all [] h = omega (arith, ints)
      least-of-all (x ∷ xs) h = h _ (or_zero-in x (x ∷ xs) (inl refl))

  pub kept-step : (i : ℕ) → i < length rest → Kept i → Kept (suc i)
  kept-step i l k = record {
    long = ascent-length mill charge ranked path (suc i);
    new = λ marks h. elim (either (in_set i marks)) [
      | inl t ↦ omega (arith, ints, rw t at (changed [] marks), price-new i marks h t)
      | inr f ↦ omega (arith, ints, rw f at (changed [] marks), k.new marks h)
    ];
    old = λ g marks b h. elim (either (in_set i marks)) [
      | inl t ↦ omega (arith, ints, rw t at (changed (group g) marks), price-old i g marks b h t)
      | inr f ↦ omega (arith, ints, rw f at (changed (group g) marks), k.old g marks b h)
    ];
    not_negative = set-not-negative i (prices i) (price i) (price-not-negative i k) k.not_negative;
    later = λ j h. set-other i j (prices i) (price i) h ∙ k.later j (omega arith);
  }
    where
      in-range : i < length (prices i)
      in-range = omega (arith, k.long)

      -- the price was zero before
      before : set (prices i) i (pos 0) ≡ prices i
      before = rw (k.later i (omega arith)) at (set-back i (prices i) in-range)

      changed : (some : List Order) (marks : List Bool) →
          slack charge some rest (prices (suc i)) marks
          ≡ slack charge some rest (prices i) marks -ℤ cond (in_set i marks) (price i) (pos 0)
      changed some marks =
          slack-change charge some rest i (prices i) in-range (price i) marks
          ∙ ap (λ ys. slack charge some rest ys marks -ℤ cond (in_set i marks) (price i) (pos 0))
          before

  pub kept : (i : ℕ) → i ≤ length rest → Kept i
  kept zero l = kept-first
  kept (suc i) l = kept-step i l (kept i (omega arith))

  -- At the end.

  pub ascent-valid : valid mill charge rest (ascent_prices mill charge ranked path) ≡ true
  ascent-valid =
      all-from (λ marks. int_le (pos 0) (slack charge [] rest
      (ascent_prices mill charge ranked path) marks)) (legal_sets mill [] rest)
      (λ marks h. to-test _ ((kept (length rest) (omega arith)).new marks h))
    where
      to-test : (x : ℤ) → pos 0 ≤ℤ x → int_le (pos 0) x ≡ true
      to-test x h = grind (arith, ints)

  pub least-stays : (g : ℕ) → g < next_new path →
      least_slack mill charge (group g) rest (ascent_prices mill charge ranked path) ≡ z0 g
  least-stays g l =
      let final = ascent_prices mill charge ranked path in
      let k = kept (length rest) (omega arith) in
      let least = least_slack mill charge (group g) rest final in
      let at-least : z0 g ≤ℤ least =
      least_slack-glb mill charge (group g) rest (fits g) final (z0 g)
      (λ marks h. k.old g marks l h) in
      let at-most : least ≤ℤ z0 g =
      least_slack-glb mill charge (group g) rest (fits g) (no_prices rest) least (λ marks h.
      omega (
        arith,
        ints,
        least_slack-below mill charge (group g) rest (fits g) final marks h,
        zero-slack (group g) marks,
        chosen-not-negative marks final k.not_negative,
      )) in
      omega (arith, ints)

  pub ascent-worth :
      worth mill charge ranked path (ascent_prices mill charge ranked path)
      ≡ ascent_worth mill charge ranked path
  ascent-worth =
      ap (λ t. t +ℤ int_sum (ascent_prices mill charge ranked path))
      (int_total-cong (next_new path) _ _ least-stays)
