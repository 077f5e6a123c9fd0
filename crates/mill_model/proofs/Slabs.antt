-- Loads, colours and what is legal, of orders and of the slabs of a plan.
use Rattle.std.proofs.Common.{ℕ, ◌+◌, ◌≤◌, ◌≡◌, ◌||◌, eqb, true, false, List, [], ◌∷◌, ◌++◌, map}
use Rattle.std.proofs.Common.{drop, refl, ap, ◌∙◌, arith, inl, inr, eq-eqb}
use Rattle.std.proofs.lemmas.Bool.Decides.{nat_tests}
use Rattle.std.proofs.lemmas.List.{map-append}
use Rattle.list_laws.specs.Sets.{holds, chosen}
use Rattle.list_laws.proofs.Tests.{or-left, or-right}
use Rattle.list_laws.proofs.Lists.{chosen-append}
use Rattle.list_laws.proofs.Among.{Among}
use Rattle.list_laws.proofs.Different.{different-mono, holds-append, Within-left}
use Rattle.mill_model.specs.Slab.{Mill, load, colours, legal}
use Rattle.mill_model.specs.Plan.{slab}
use Rattle.mill_model.specs.Tree.{later_orders}
use Rattle.mill_model.specs.LiveKey.{has_colour}
use Rattle.mill_model.specs.declared.order.Order.{Order}
use Rattle.std.proofs.lemmas.List.{length-map}

pub load-append : (xs ys : List Order) → load (xs ++ ys) ≡ load xs + load ys
load-append [] ys = omega arith
load-append (x ∷ xs) ys = omega (arith, load-append xs ys)

pub legal-less : (mill : Mill) (xs ys : List Order) → load xs ≤ load ys →
    colours xs ≤ colours ys → legal mill ys ≡ true → legal mill xs ≡ true
legal-less mill xs ys l c h = grind (arith, nat_tests)

-- the front of a legal list of orders is legal
pub legal-front : (mill : Mill) (xs ys : List Order) → legal mill (xs ++ ys) ≡ true →
    legal mill xs ≡ true
legal-front mill xs ys h =
    legal-less mill xs (xs ++ ys) (omega (arith, load-append xs ys)) (fewer xs ys) h
  where
    fewer : (xs ys : List Order) → colours xs ≤ colours (xs ++ ys)
    fewer xs ys =
        rw (map-append (λ o. o.colour) xs ys) (different-mono (map (λ o. o.colour) xs) _
        (Within-left (map (λ o. o.colour) xs) (map (λ o. o.colour) ys)))

pub legal-none : (mill : Mill) → legal mill [] ≡ true
legal-none mill = grind (arith, nat_tests)

pub among-load : (o : Order) (set : List Order) → Among o set → o.weight ≤ load set
among-load o [] h = absurd h
among-load o (p ∷ set) (inl e) = omega (arith, ap (λ x. x.weight) e)
among-load o (p ∷ set) (inr h) = omega (arith, among-load o set h)

abbrev pub colours_of : List Order → List ℕ
colours_of orders = map (λ o. o.colour) orders

pub among-colour : (o : Order) (set : List Order) → Among o set →
    holds o.colour (colours_of set) ≡ true
among-colour o [] h = absurd h
among-colour o (p ∷ set) (inl e) =
    or-left (eqb o.colour p.colour) _ (eq-eqb o.colour p.colour (ap (λ x. x.colour) e))
among-colour o (p ∷ set) (inr h) = or-right (eqb o.colour p.colour) _ (among-colour o set h)

-- orders may be joined in any order
pub colours-swap : (xs ys : List Order) → colours (xs ++ ys) ≤ colours (ys ++ xs)
colours-swap xs ys =
    rw (map-append (λ o. o.colour) xs ys, map-append (λ o. o.colour) ys xs)
    (different-mono (colours_of xs ++ colours_of ys) (colours_of ys ++ colours_of xs)
    (λ z h. grind (
      arith,
      holds-append z (colours_of xs) (colours_of ys),
      holds-append z (colours_of ys) (colours_of xs),
    )))

-- it sees of two groups which of its colours they have, and how many colours they have
pub joined-colours : (g r set : List Order) → colours g ≡ colours r →
    ((o : Order) → Among o set → has_colour g o.colour ≡ has_colour r o.colour) →
    colours (set ++ g) ≡ colours (set ++ r)
joined-colours g r [] e h = e
joined-colours g r (o ∷ set) e h =
    rw (seen o.colour set (h o (inl refl)), joined-colours g r set e (λ p i. h p (inr i)))
  where
    seen : (c : ℕ) (set : List Order) → has_colour g c ≡ has_colour r c →
        holds c (colours_of (set ++ g)) ≡ holds c (colours_of (set ++ r))
    seen c [] e = e
    seen c (p ∷ set) e = ap (λ b. eqb c p.colour || b) (seen c set e)

-- The slabs of a plan.

-- The orders of a slab are those of a path and those of what follows.
pub slab-append : (s : ℕ) (path more : List ℕ) (ranked : List Order) →
    slab s (path ++ more) ranked ≡ slab s path ranked ++ slab s more (later_orders ranked path)
slab-append s path more ranked =
    ap (λ marks. chosen marks ranked) (map-append (λ t. eqb s t) path more)
    ∙ chosen-append (map (λ t. eqb s t) path) (map (λ t. eqb s t) more) ranked
    ∙ ap (λ k. slab s path ranked ++ slab s more (drop k ranked)) (length-map path (λ t. eqb s t))

pub slab-unused : (s : ℕ) (plan : List ℕ) (orders : List Order) → holds s plan ≡ false →
    slab s plan orders ≡ []
slab-unused s [] orders h = refl
slab-unused s (t ∷ plan) [] h = refl
slab-unused s (t ∷ plan) (o ∷ orders) h = grind (arith, slab-unused s plan orders)
