-- The key by which orders are sorted puts them in rank.
use Rattle.std.proofs.Common.{◌≡◌, ℕ, not, ◌&&◌, ◌||◌, ltb, eqb, refl, arith, ap, ◌∙◌}
use Rattle.std.specs.Ordering.{is_lt, nat_cmp, ordering_then}
use Rattle.std.specs.declared.cmp.Ordering.{Ordering}
use Rattle.std.specs.declared.cmp.Ordering.TheVariants.{Less, Equal, Greater}
use Rattle.std.proofs.lemmas.Bool.Decides.{nat_tests}
use Rattle.order_symmetry.specs.Numbered.{stands_before}
use Rattle.order_symmetry.specs.declared.numbered.Numbered.{Numbered}

then-assoc : (a b c : Ordering) →
    ordering_then (ordering_then a b) c ≡ ordering_then a (ordering_then b c)
then-assoc Less b c = refl
then-assoc Equal b c = refl
then-assoc Greater b c = refl

-- the first test decides, and the second where the first ties
then-less : (a b : ℕ) (o : Ordering) →
    is_lt (ordering_then (nat_cmp a b) o) ≡ (ltb a b || (eqb a b && is_lt o))
then-less a b o = grind (arith, nat_tests)

less : (a b : ℕ) → is_lt (nat_cmp a b) ≡ ltb a b
less a b = grind (arith, nat_tests)

-- by weight falling, then colour rising, then number rising
tests : (v w c d m n : ℕ) → (ltb w v || (eqb w v && (ltb c d || (eqb c d && ltb m n)))) ≡
    ((ltb w v || (eqb v w && ltb c d)) || (not (ltb v w || (eqb w v && ltb d c)) && ltb m n))
tests v w c d m n = grind (arith, nat_tests)

pub key-before : (a b : Numbered) → is_lt (ordering_then
    (ordering_then (nat_cmp b.order.weight a.order.weight) (nat_cmp a.order.colour b.order.colour))
    (nat_cmp a.number b.number)) ≡ stands_before a b
key-before a b =
    let by_weight = nat_cmp b.order.weight a.order.weight in
    let by_colour = nat_cmp a.order.colour b.order.colour in
    let by_number = nat_cmp a.number b.number in
    ap is_lt (then-assoc by_weight by_colour by_number) ∙ rw (
      then-less b.order.weight a.order.weight (ordering_then by_colour by_number),
      then-less a.order.colour b.order.colour by_number,
      less a.number b.number,
    ) (tests a.order.weight b.order.weight a.order.colour b.order.colour a.number b.number)
