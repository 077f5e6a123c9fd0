-- How many colours stand beside each slab, pair by pair.
use Rattle.std.proofs.Common.{ℕ, zero, suc, ◌+◌, ◌<◌, ◌≤◌, ◌≡◌, Bool, cond, List, [], ◌∷◌, map}
use Rattle.std.proofs.Common.{length, take, get_or, set, eqb, sym, ◌∙◌, arith, inl, inr, eqb-true}
use Rattle.std.proofs.Common.{false-eqb, get_or-set_same, get_or-set_other}
use Rattle.std.specs.Prelude.{All}
use Rattle.std.proofs.lemmas.List.{length-set, get_or_default}
use Rattle.mill_model.specs.Slab.{colours}
use Rattle.mill_model.specs.declared.order.Order.{Order}
use Rattle.list_laws.proofs.Tests.{either}
use Rattle.list_laws.proofs.Different.{different-same}
use Rattle.plan_check.specs.Tallies.{colours_on, HasColoursOnce}

-- one more where a pair is a slab's
abbrev if_one : Bool → ℕ
if_one b = cond b 1 0

-- one more pair
count-more : (s : ℕ) (pairs : List (ℕ × ℕ)) (i : ℕ) (d : ℕ × ℕ) → i < length pairs →
    length (colours_on s (take (suc i) pairs))
    ≡ length (colours_on s (take i pairs)) + if_one (eqb s (get_or pairs i d).0)
count-more s [] i d l = absurd (omega arith)
count-more s (pair ∷ pairs) zero d l = elim (either (eqb s pair.0)) [
  | inl e ↦ rw e
  | inr e ↦ rw e
]
count-more s (pair ∷ pairs) (suc i) d l =
    let rest = count-more s pairs i d (omega arith) in
    elim (either (eqb s pair.0)) [
      | inl e ↦ rw e (omega (arith, rest))
      | inr e ↦ rw e rest
    ]

-- the counts of the n slabs over the first i pairs
pub record AreCounts (pairs : List (ℕ × ℕ)) (n i : ℕ) (counts : List ℕ) : Type 0 where
  pub count : length counts ≡ n
  pub each : (s : ℕ) → s < n → get_or counts s 0 ≡ length (colours_on s (take i pairs))
  pub small : (s : ℕ) → s < n → get_or counts s 0 ≤ i

-- a slab's count after a pair of slab t
count-set : (s t i before : ℕ) (counts : List ℕ) → t < length counts →
    get_or counts s 0 ≡ before → get_or counts s 0 ≤ i →
    (get_or (set counts t (get_or counts t 0 + 1)) s 0 ≡ before + if_one (eqb s t))
    × (get_or (set counts t (get_or counts t 0 + 1)) s 0 ≤ i + 1)
count-set s t i before counts within old small = elim (either (eqb s t)) [
  | inl e ↦ (let here : s ≡ t = eqb-true s t e in
      let new : get_or (set counts t (get_or counts t 0 + 1)) s 0 ≡ get_or counts s 0 + 1 =
      rw here (get_or-set_same counts t (get_or counts t 0 + 1) 0 within) in
      (rw e (omega (arith, new, old)), omega (arith, new)))
  | inr e ↦ (let new : get_or (set counts t (get_or counts t 0 + 1)) s 0 ≡ get_or counts s 0 =
      get_or-set_other counts t s _ 0 (λ q. false-eqb s t (sym e) q) in
      (rw e (omega (arith, new, old)), omega (arith, new)))
]

-- the next pair is counted, where its slab's count so far is read as `got`
pub counts-more : (pairs : List (ℕ × ℕ)) (n i : ℕ) (counts : List ℕ) (d : ℕ × ℕ) (got : ℕ) →
    All (λ pair. pair.0 < n) pairs → i < length pairs → AreCounts pairs n i counts →
    got ≡ get_or counts (get_or pairs i d).0 got →
    (got + 1 ≤ i + 1) × AreCounts pairs n (i + 1) (set counts (get_or pairs i d).0 (got + 1))
counts-more pairs n i counts d got below l before read =
    let t : ℕ = (get_or pairs i d).0 in
    let t-below : t < n = below i d l in
    let within : t < length counts = omega (arith, t-below, before.count) in
    let now : got ≡ get_or counts t 0 = read ∙ get_or_default counts t got 0 within in
    let next : i + 1 ≡ suc i = omega arith in
    let step : (s : ℕ) → s < n →
    (get_or (set counts t (get_or counts t 0 + 1)) s 0
    ≡ length (colours_on s (take i pairs)) + if_one (eqb s t))
    × (get_or (set counts t (get_or counts t 0 + 1)) s 0 ≤ i + 1) =
    λ s here. count-set s t i _ counts within (before.each s here) (before.small s here) in
    let most : get_or counts t 0 ≤ i = before.small t t-below in (
      omega (arith, now, most),
      rw now (record {
        count = length-set counts t _ ∙ before.count;
        each = λ s here. (step s here).0 ∙ rw next (sym (count-more s pairs i d l));
        small = λ s here. (step s here).1;
      }),
    )

-- what stands once beside a slab are as many as its colours
pub counted : (orders : List Order) (s : ℕ) (pairs : List (ℕ × ℕ)) →
    HasColoursOnce orders s pairs → length (colours_on s pairs) ≡ colours orders
counted orders s pairs has =
    sym has.once
    ∙ different-same (colours_on s pairs) (map (λ order. order.colour) orders) has.each
