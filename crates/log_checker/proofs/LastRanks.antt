-- The last ranks of the colours, one order more at a time. Whether a colour comes from a rank k on
-- is then whether k is below one number, which is one more than the last rank of that colour.
use Rattle.std.proofs.Common.{ℕ, zero, suc, ◌<◌, ◌≤◌, ◌≡◌, ◌≢◌, Bool, true, false, ◌||◌, List, []}
use Rattle.std.proofs.Common.{◌∷◌, ◌++◌, length, take, drop, get_or, set, eqb, ltb, eqb-true}
use Rattle.std.proofs.Common.{eq-eqb, lt-ltb, le-ltb, refl, ap, ◌∙◌, arith, inl, inr}
use Rattle.std.proofs.lemmas.List.{get_or-set_same, get_or-set_other, drop_all}
use Rattle.std.proofs.lemmas.Bool.{cases_lt}
use Rattle.mill_model.specs.LiveKey.{has_colour}
use Rattle.mill_model.specs.declared.order.Order.{Order}
use Rattle.list_laws.proofs.Tests.{either}
use Rattle.log_checker.specs.Groups.{no_order}
use Rattle.log_checker.proofs.GroupsOfPath.{has-push}

-- the orders from a rank on, among the first
taken-more : (k i : ℕ) (orders : List Order) → i < length orders → k ≤ i →
    drop k (take (suc i) orders) ≡ drop k (take i orders) ++ get_or orders i no_order ∷ []
taken-more k i [] h l = absurd (omega arith)
taken-more zero zero (o ∷ orders) h l = refl
taken-more zero (suc i) (o ∷ orders) h l =
    ap (λ xs. o ∷ xs) (taken-more zero i orders (omega arith) (omega arith))
taken-more (suc k) zero (o ∷ orders) h l = absurd (omega arith)
taken-more (suc k) (suc i) (o ∷ orders) h l = taken-more k i orders (omega arith) (omega arith)

taken-none : (k i : ℕ) (orders : List Order) → i ≤ k → drop k (take i orders) ≡ []
taken-none k zero orders l = drop_all k [] (omega arith)
taken-none k (suc i) [] l = drop_all k [] (omega arith)
taken-none zero (suc i) (o ∷ orders) l = absurd (omega arith)
taken-none (suc k) (suc i) (o ∷ orders) l = taken-none k i orders (omega arith)

pub ends-none : (last : List ℕ) (orders : List Order) → ((c : ℕ) → get_or last c 0 ≡ 0) →
    (c k : ℕ) → has_colour (drop k (take 0 orders)) c ≡ ltb k (get_or last c 0)
ends-none last orders h c k =
    let e : drop k (take 0 orders) ≡ [] = taken-none k 0 orders (omega arith) in
    let z : ltb k 0 ≡ false = le-ltb k 0 (omega arith) in
    rw (e, h c, z) refl

pub ends-more : (last : List ℕ) (orders : List Order) (i : ℕ) → i < length orders →
    (get_or orders i no_order).colour < length last →
    ((c k : ℕ) → has_colour (drop k (take i orders)) c ≡ ltb k (get_or last c 0)) →
    (c k : ℕ) → has_colour (drop k (take (suc i) orders)) c
    ≡ ltb k (get_or (set last (get_or orders i no_order).colour (suc i)) c 0)
ends-more last orders i h n so c k = elim (cases_lt i k) [
  | inl l ↦ later l
  | inr l ↦ earlier l
]
  where
    its : ℕ
    its = (get_or orders i no_order).colour

    later : i < k → has_colour (drop k (take (suc i) orders)) c
        ≡ ltb k (get_or (set last its (suc i)) c 0)
    later l =
        let e : drop k (take (suc i) orders) ≡ [] = taken-none k (suc i) orders (omega arith) in
        let f : drop k (take i orders) ≡ [] = taken-none k i orders (omega arith) in
        let old : false ≡ ltb k (get_or last c 0) = rw f at (so c k) in
        rw e (elim (either (eqb c its)) [
          | inl q ↦ (let s : c ≡ its = eqb-true c its q in
              let z : ltb k (suc i) ≡ false = le-ltb k (suc i) (omega arith) in
              rw (s, get_or-set_same last its (suc i) 0 n, z) refl)
          | inr q ↦ (let d : c ≢ its = (λ s. never (eqb c its) (eq-eqb c its s) q) in
              rw (get_or-set_other last its c (suc i) 0 d) old)
        ])
      where
        never : (b : Bool) → b ≡ true → b ≡ false → ⊥
        never b t f = cc

    earlier : k ≤ i → has_colour (drop k (take (suc i) orders)) c
        ≡ ltb k (get_or (set last its (suc i)) c 0)
    earlier l =
        ap (λ xs. has_colour xs c) (taken-more k i orders h l)
        ∙ has-push (drop k (take i orders)) (get_or orders i no_order) c
        ∙ elim (either (eqb c its)) [
          | inl q ↦ (let s : c ≡ its = eqb-true c its q in
              let z : ltb k (suc i) ≡ true = lt-ltb k (suc i) (omega arith) in
              rw q (or-true (has_colour (drop k (take i orders)) c)
              ∙ rw (s, get_or-set_same last its (suc i) 0 n, z) refl))
          | inr q ↦ (let d : c ≢ its = (λ s. never (eqb c its) (eq-eqb c its s) q) in
              rw q (or-false (has_colour (drop k (take i orders)) c) ∙ so c k
              ∙ rw (get_or-set_other last its c (suc i) 0 d) refl))
        ]
      where
        never : (b : Bool) → b ≡ true → b ≡ false → ⊥
        never b t f = cc

        or-true : (b : Bool) → (b || (true || false)) ≡ true
        or-true true = refl
        or-true false = refl

        or-false : (b : Bool) → (b || (false || false)) ≡ b
        or-false true = refl
        or-false false = refl
