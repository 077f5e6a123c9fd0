-- Where no set that is legal with a group holds order i, the group's least slack is that over the
-- sets without order i.
use Rattle.std.proofs.Common.{ℕ, ◌≡◌, ◌≤ℤ◌, Bool, true, false, not, List, [], ◌∷◌, length, ℤ, refl}
use Rattle.std.proofs.Common.{Some, None, ap, ◌∙◌, arith, inl, inr}
use Rattle.std.proofs.Common.{◌≤◌, ◌++◌}
use Rattle.std.proofs.lemmas.Int.{ints}
use Rattle.std.proofs.lemmas.List.{get_or_past}
use Rattle.list_laws.specs.Sets.{sets, chosen}
use Rattle.list_laws.proofs.Among.{Among-unfilter, sets-length}
use Rattle.list_laws.proofs.Among.{Among}
use Rattle.list_laws.proofs.Lists.{nothing}
use Rattle.list_laws.proofs.Tests.{either, clash}
use Rattle.mill_laws.proofs.Least.{or_zero-le, or_zero-in}
use Rattle.mill_laws.proofs.Slacks.{nothing-in, nothing-legal, among-slacks, from-slacks}
use Rattle.mill_laws.proofs.Slacks.{least_slack-glb, least_slack-below}
use Rattle.mill_model.specs.Slab.{Mill, legal}
use Rattle.mill_model.specs.Prices.{slack, legal_sets, least_slack}
use Rattle.mill_model.specs.Bounds.{in_set, slacks, least_of, least_on_with, least_on_without}
use Rattle.mill_model.specs.Bounds.{or_zero}
use Rattle.mill_model.specs.declared.order.Order.{Order}
use Rattle.column_price.proofs.SlacksKept.{same, some-least}

none-among : (x : ℤ) (xs : List ℤ) → least_of xs ≡ None → Among x xs → ⊥
none-among x [] e a = a
none-among x (y ∷ xs) e a = absurd (cc)

-- where the least over the sets with order i is missing, no legal set holds it
pub none-holds : (mill : Mill) (charge : ℕ → ℕ) (group rest : List Order) (prices : List ℤ)
    (i : ℕ) → least_on_with mill charge group rest prices i ≡ None → (marks : List Bool) →
    Among marks (legal_sets mill group rest) → in_set i marks ≡ true → ⊥
none-holds mill charge group rest prices i none marks l t =
    none-among (slack charge group rest prices marks)
    (slacks mill charge group rest prices (in_set i)) none
    (among-slacks mill charge group rest prices (in_set i) marks l t)

-- and none holds an order that isn't there
pub none-past : (mill : Mill) (group rest : List Order) (i : ℕ) → length rest ≤ i →
    (marks : List Bool) → Among marks (legal_sets mill group rest) → in_set i marks ≡ true → ⊥
none-past mill group rest i h marks l t =
    let n = sets-length (length rest) marks (Among-unfilter
    (λ set. legal mill (group ++ chosen set rest)) marks (sets (length rest)) l).0 in
    let p : in_set i marks ≡ false = get_or_past marks i false (omega (arith, n, h)) in
    clash (in_set i marks) t p

module _ (mill : Mill) (charge : ℕ → ℕ) (group rest : List Order) (fits : legal mill group ≡ true)
    (prices : List ℤ) (i : ℕ)
    (none : (marks : List Bool) → Among marks (legal_sets mill group rest) →
    in_set i marks ≡ true → ⊥) where
  abbrev lacks : List Bool → Bool
  lacks = λ set. not (in_set i set)

  abbrev without : ℤ
  without = or_zero (least_on_without mill charge group rest prices i)

  empty-among : Among (slack charge group rest prices (nothing (length rest)))
      (slacks mill charge group rest prices lacks)
  empty-among =
      among-slacks mill charge group rest prices lacks (nothing (length rest))
      (nothing-legal mill charge group rest fits) (rw (nothing-in i (length rest)) refl)

  pub without-any : least_on_without mill charge group rest prices i
      ≡ Some (least_slack mill charge group rest prices)
  without-any =
      let r = from-slacks mill charge group rest prices lacks without
      (or_zero-in (slack charge group rest prices (nothing (length rest)))
      (slacks mill charge group rest prices lacks) empty-among) in
      let low = least_slack-below mill charge group rest fits prices r.0 r.1 in
      let high : without ≤ℤ least_slack mill charge group rest prices =
      least_slack-glb mill charge group rest fits prices without (λ marks l.
      elim (either (in_set i marks)) [
        | inl t ↦ absurd (none marks l t)
        | inr f ↦ or_zero-le (slack charge group rest prices marks)
            (slacks mill charge group rest prices lacks)
            (among-slacks mill charge group rest prices lacks marks l (rw f refl))
      ]) in
      some-least (slack charge group rest prices (nothing (length rest)))
      (slacks mill charge group rest prices lacks) empty-among
      ∙ ap Some (same without (least_slack mill charge group rest prices) high (omega (
        arith,
        ints,
        low,
        r.3,
      )))
