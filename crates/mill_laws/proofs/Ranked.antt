-- A plan of the file's orders and the same plan of the ranked ones have the same slabs, but for the
-- order in which a slab's orders stand: a rank is made by putting in one placed order after
-- another, and wherever it goes in, each slab has the same load and the same colours.
use Rattle.std.proofs.Common.{ℕ, zero, suc, ◌+◌, ◌<◌, ◌≡◌, eqb, leb, ltb, Bool, true, false, cond}
use Rattle.std.proofs.Common.{◌&&◌, ◌||◌, List, [], ◌∷◌, map, length, drop, get_or, refl, sym, ap}
use Rattle.std.proofs.Common.{ap₂, ◌∙◌, arith, inl, inr, eq-eqb, eqb-true, lt-ltb}
use Rattle.std.proofs.Math.Seq.{drop-cons}
use Rattle.std.proofs.lemmas.Bool.Decides.{nat_tests}
use Rattle.std.proofs.lemmas.List.{length-map}
use Rattle.std.specs.List.{list_all}
use Rattle.list_laws.specs.Sets.{holds}
use Rattle.mill_model.specs.Slab.{Mill, load, colours, legal}
use Rattle.mill_model.specs.Plan.{slab, loss, numbers_each, legal_plan}
use Rattle.mill_model.specs.Rank.{Placed, is_before, put_in_rank, rank_from, rank, ranked_orders}
use Rattle.mill_model.specs.Rank.{plan_in_rank}
use Rattle.mill_model.specs.declared.order.Order.{Order}
use Rattle.list_laws.proofs.Tests.{and-left, and-right, either}
use Rattle.list_laws.proofs.Sums.{total-cong, each_below-at, each_below-from}
use Rattle.list_laws.proofs.Among.{all-map}
use Rattle.list_laws.proofs.Different.{different-same}
use Rattle.mill_model.proofs.Slabs.{colours_of}

pub put-length : (p : Placed) (placed : List Placed) →
    length (put_in_rank p placed) ≡ suc (length placed)
put-length p [] = refl
put-length p (x ∷ placed) = grind (arith, put-length p placed)

pub rank-length : (k : ℕ) (orders : List Order) → length (rank_from k orders) ≡ length orders
rank-length k [] = refl
rank-length k (o ∷ orders) =
    put-length (record { order = o; place = k }) (rank_from (suc k) orders)
    ∙ ap suc (rank-length (suc k) orders)

pub ranked-count : (orders : List Order) → length (ranked_orders orders) ≡ length orders
ranked-count orders = length-map (rank orders) _ ∙ rank-length 0 orders

-- the orders of slab s among placed ones
abbrev pub placed_slab : ℕ → List ℕ → List Placed → List Order
placed_slab s plan placed =
    slab s (map (λ p. get_or plan p.place 0) placed) (map (λ p. p.order) placed)

module _ (s : ℕ) (plan : List ℕ) where
  -- What an order adds to slab s, wherever it is put in.

  abbrev pub on_slab : Placed → Bool
  on_slab p = eqb s (get_or plan p.place 0)

  pub step-load : (b : Bool) (o : Order) (rest : List Order) →
      load (cond b (o ∷ rest) rest) ≡ cond b o.weight 0 + load rest
  step-load true o rest = refl
  step-load false o rest = omega arith

  pub step-colour : (c : ℕ) (b : Bool) (o : Order) (rest : List Order) →
      holds c (colours_of (cond b (o ∷ rest) rest))
      ≡ ((b && eqb c o.colour) || holds c (colours_of rest))
  step-colour c true o rest = refl
  step-colour c false o rest = refl

  pub put-load : (p : Placed) (placed : List Placed) →
      load (placed_slab s plan (put_in_rank p placed))
      ≡ cond (on_slab p) p.order.weight 0 + load (placed_slab s plan placed)
  put-load p [] = step-load (on_slab p) p.order []
  put-load p (x ∷ placed) = elim (either (is_before x.order p.order)) [
    | inl e ↦ rw e (omega (
      arith,
      put-load p placed,
      step-load (on_slab x) x.order (placed_slab s plan (put_in_rank p placed)),
      step-load (on_slab x) x.order (placed_slab s plan placed),
    ))
    | inr e ↦ rw e (step-load (on_slab p) p.order (placed_slab s plan (x ∷ placed)))
  ]

  pub put-colour : (c : ℕ) (p : Placed) (placed : List Placed) →
      holds c (colours_of (placed_slab s plan (put_in_rank p placed)))
      ≡ ((on_slab p && eqb c p.order.colour) || holds c (colours_of (placed_slab s plan placed)))
  put-colour c p [] = step-colour c (on_slab p) p.order []
  put-colour c p (x ∷ placed) = elim (either (is_before x.order p.order)) [
    | inl e ↦ rw e (grind (
      arith,
      put-colour c p placed,
      step-colour c (on_slab x) x.order (placed_slab s plan (put_in_rank p placed)),
      step-colour c (on_slab x) x.order (placed_slab s plan placed),
    ))
    | inr e ↦ rw e (step-colour c (on_slab p) p.order (placed_slab s plan (x ∷ placed)))
  ]

  -- Over the whole file, from a place k on.

  pub cons-slab : (k : ℕ) (o : Order) (orders : List Order) → k < length plan →
      slab s (drop k plan) (o ∷ orders)
      ≡ cond (eqb s (get_or plan k 0)) (o ∷ slab s (drop (suc k) plan) orders)
      (slab s (drop (suc k) plan) orders)
  cons-slab k o orders l = rw (drop-cons plan k 0 l) refl

  pub no-slab : (part : List ℕ) → slab s part [] ≡ []
  no-slab [] = refl
  no-slab (t ∷ part) = refl

  pub rank-load : (k : ℕ) (orders : List Order) → k + length orders ≡ length plan →
      load (placed_slab s plan (rank_from k orders)) ≡ load (slab s (drop k plan) orders)
  rank-load k [] e = rw (no-slab (drop k plan)) refl
  rank-load k (o ∷ orders) e =
      let b = eqb s (get_or plan k 0) in
      rw (cons-slab k o orders (omega arith)) (omega (
        arith,
        put-load (record { order = o; place = k }) (rank_from (suc k) orders),
        rank-load (suc k) orders (omega arith),
        step-load b o (slab s (drop (suc k) plan) orders),
      ))

  pub rank-colour : (c k : ℕ) (orders : List Order) → k + length orders ≡ length plan →
      holds c (colours_of (placed_slab s plan (rank_from k orders)))
      ≡ holds c (colours_of (slab s (drop k plan) orders))
  rank-colour c k [] e = rw (no-slab (drop k plan)) refl
  rank-colour c k (o ∷ orders) e =
      put-colour c (record { order = o; place = k }) (rank_from (suc k) orders)
      ∙ rw (
        cons-slab k o orders (omega arith),
        step-colour c (eqb s (get_or plan k 0)) o (slab s (drop (suc k) plan) orders),
        rank-colour c (suc k) orders (omega arith),
      ) refl

pub get-below : (n : ℕ) (plan : List ℕ) (k : ℕ) → 0 < n → list_all (λ s. ltb s n) plan ≡ true →
    get_or plan k 0 < n
get-below n [] k l h = l
get-below n (t ∷ plan) zero l h = grind (arith, nat_tests)
get-below n (t ∷ plan) (suc k) l h = get-below n plan k l (and-right (ltb t n) _ h)

-- So the plan in rank numbers each order, is legal where the plan is, and loses the same.

module _ (orders : List Order) (plan : List ℕ) (each : numbers_each plan orders ≡ true) where
  pub long : length plan ≡ length orders
  long = eqb-true _ _ (and-left (eqb (length plan) (length orders)) _ each)

  pub same-load : (s : ℕ) →
      load (slab s (plan_in_rank orders plan) (ranked_orders orders)) ≡ load (slab s plan orders)
  same-load s = rank-load s plan 0 orders (omega (arith, long))

  pub same-colours : (s : ℕ) →
      colours (slab s (plan_in_rank orders plan) (ranked_orders orders))
      ≡ colours (slab s plan orders)
  same-colours s =
      let ranked = colours_of (slab s (plan_in_rank orders plan) (ranked_orders orders)) in
      let filed = colours_of (slab s plan orders) in
      let same : (c : ℕ) → holds c ranked ≡ holds c filed =
      λ c. rank-colour s plan c 0 orders (omega (arith, long)) in
      different-same ranked filed same

  pub same-legal : (mill : Mill) (s : ℕ) →
      legal mill (slab s (plan_in_rank orders plan) (ranked_orders orders))
      ≡ legal mill (slab s plan orders)
  same-legal mill s =
      ap₂ (λ a b. leb a mill.largest && leb b mill.most_colours) (same-load s) (same-colours s)

  pub ranked-loss : (charge : ℕ → ℕ) →
      loss charge (plan_in_rank orders plan) (ranked_orders orders) ≡ loss charge plan orders
  ranked-loss charge =
      rw (ranked-count orders) (total-cong (length orders) _ _ (λ s l. ap charge (same-load s)))

  pub ranked-legal : (mill : Mill) → legal_plan mill plan orders ≡ true →
      legal_plan mill (plan_in_rank orders plan) (ranked_orders orders) ≡ true
  ranked-legal mill h =
      rw (ranked-count orders) (each_below-from (length orders) _ (λ s l. same-legal mill s
      ∙ each_below-at (length orders) (λ s. legal mill (slab s plan orders)) s h l))

  pub unranked-legal : (mill : Mill) →
      legal_plan mill (plan_in_rank orders plan) (ranked_orders orders) ≡ true →
      legal_plan mill plan orders ≡ true
  unranked-legal mill h =
      each_below-from (length orders) _ (λ s l. sym (same-legal mill s)
      ∙ each_below-at (length orders) (λ s.
      legal mill (slab s (plan_in_rank orders plan) (ranked_orders orders))) s
      (rw (ranked-count orders) at h) l)

  pub ranked-each : numbers_each (plan_in_rank orders plan) (ranked_orders orders) ≡ true
  ranked-each =
      let one-each : length (plan_in_rank orders plan) ≡ length (ranked_orders orders) =
      length-map (rank orders) _ ∙ sym (length-map (rank orders) _) in
      rw (eq-eqb _ _ one-each, ranked-count orders) (in-range orders refl)
    where
      in-range : (os : List Order) → os ≡ orders →
          list_all (λ s. ltb s (length orders)) (plan_in_rank orders plan) ≡ true
      in-range [] e = rw (← e) refl
      in-range (o ∷ os) e =
          let some : length orders ≡ suc (length os) = rw (← e) refl in
          all-map (λ s. ltb s (length orders)) (λ p. get_or plan p.place 0) (rank orders) (λ p.
          lt-ltb _ _ (get-below (length orders) plan p.place (omega arith)
          (and-right (eqb (length plan) (length orders)) _ each)))
