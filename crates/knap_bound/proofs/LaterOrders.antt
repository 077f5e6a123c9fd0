-- The orders from a rank on: one after another, and within the limits of an instance.
use Rattle.std.proofs.Common.{ℕ, zero, suc, ◌+◌, ◌≡◌, List, [], ◌∷◌, Some, drop, length, ap}
use Rattle.std.proofs.Common.{◌∙◌, arith}
use Rattle.std.proofs.lemmas.List.{length-map, length-drop}
use Rattle.std.proofs.lemmas.List.Elements.{All-drop, All-map, All-from_recursion}
use Rattle.std.specs.List.{slice_get}
use Rattle.mill_model.specs.Charges.{ChargeTable, Reaches}
use Rattle.mill_model.specs.Instance.{IsOrder}
use Rattle.mill_model.specs.Rank.{Placed}
use Rattle.mill_model.specs.Slab.{Mill}
use Rattle.order_symmetry.specs.Ranked.{RankedOrders, IsRanked, orders_of}
use Rattle.order_symmetry.proofs.Limits.{few, largest-high, each-order}
use Rattle.knap_bound.specs.Later.{later_from}
use Rattle.knap_bound.specs.Knapsacks.{IsLater}

-- the order at a place is the first of those from there on
pub drop-from : {X : Type 0} (xs : List X) (k : ℕ) (x : X) → slice_get xs k ≡ Some x →
    drop k xs ≡ x ∷ drop (k + 1) xs
drop-from [] k x e = absurd (cc)
drop-from (y ∷ xs) zero x e = let same : y ≡ x = cc in ap (λ z. z ∷ xs) same
drop-from (y ∷ xs) (suc k) x e =
    let one : suc (k + 1) ≡ suc k + 1 = omega arith in
    drop-from xs k x e ∙ ap (λ n. x ∷ drop n (y ∷ xs)) one

pub later-limits : (ranked : RankedOrders) (known : IsRanked ranked) (table : ChargeTable)
    (from : ℕ) → Reaches table ranked.mill → IsLater (later_from ranked table from)
later-limits ranked known table from reach =
    let most : ranked.mill.most_colours ≡ known.problem.p =
    ap (λ (mill : Mill). mill.most_colours) known.is.mill in
    let n : length (orders_of ranked) ≡ length ranked.placed =
    length-map ranked.placed (λ x. x.order) in
    let d = length-drop from (orders_of ranked) in
    record {
      few = omega (arith, n, d, few ranked known);
      each =
          All-drop IsOrder from (orders_of ranked) (All-map IsOrder (λ (x : Placed). x.order)
          ranked.placed (All-from_recursion _ ranked.placed (each-order ranked known)));
      reach = reach;
      size = largest-high ranked known;
      some_colour = omega (arith, most, known.kept.within.p_low);
      few_colours = omega (arith, most, known.kept.within.p_high);
    }
