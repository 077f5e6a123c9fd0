-- The laws of plans.
use Rattle.std.proofs.Common.{ℕ, ◌≤◌, ◌≡◌, ◌⊎◌, true, false, List, [], ◌∷◌, length, eqb}
use Rattle.std.proofs.Common.{refl, ap, ◌∙◌, arith, inl, inr}
use Rattle.std.proofs.lemmas.Bool.Decides.{nat_tests}
use Rattle.std.proofs.lemmas.List.{length-map}
use Rattle.std.proofs.lemmas.List.Elements.{recursion_from_All}
use Rattle.list_laws.specs.Sets.{holds, below, times}
use Rattle.mill_model.specs.Slab.{Mill, legal}
use Rattle.mill_model.specs.Plan.{slab}
use Rattle.mill_model.specs.Tree.{canonical}
use Rattle.mill_model.specs.declared.order.Order.{Order}
use Rattle.mill_laws.specs.PlanLaws.{CanonicalFormIsLegal, CanonicalFormLosesTheSame}
use Rattle.mill_laws.specs.PlanLaws.{CanonicalFormIsItsOwn, PlanInRankIsLegal}
use Rattle.mill_laws.specs.PlanLaws.{PlanInRankLosesTheSame, EachAloneIsLegal}
use Rattle.list_laws.proofs.Among.{Among, each-at}
use Rattle.list_laws.proofs.Tests.{either}
use Rattle.mill_laws.proofs.Canonical.{canonical-grows, canonical-fits, canonical-loss}
use Rattle.mill_laws.proofs.Canonical.{canonical-numbers}
use Rattle.mill_laws.proofs.Groups.{next_new-le}
use Rattle.mill_model.proofs.Slabs.{slab-unused, legal-none}
use Rattle.mill_laws.proofs.GrowingNumbers.{canonical-same}
use Rattle.mill_laws.proofs.Legal.{plan-long, plan-range, plan-fits, legal-from}
use Rattle.list_laws.proofs.Different.{holds-below-lt}
use Rattle.list_laws.proofs.Lists.{length-below}
use Rattle.list_laws.proofs.Times.{times-below}
use Rattle.mill_laws.proofs.Ranked.{ranked-each, ranked-legal, unranked-legal, ranked-loss}

-- Canonical forms.

pub canonical-form-is-legal : CanonicalFormIsLegal
canonical-form-is-legal mill orders plan h =
    let long = plan-long mill orders plan h in
    legal-from mill orders (canonical plan) (length-map plan _ ∙ long)
    (omega (
      arith,
      long,
      next_new-le (length plan) (canonical plan)
          (canonical-numbers plan orders),
    ))
    (canonical-fits plan orders mill (plan-fits mill orders plan h))

pub canonical-form-loses-the-same : CanonicalFormLosesTheSame
canonical-form-loses-the-same mill charge orders plan z h =
    canonical-loss plan orders charge z (plan-range mill orders plan h)
    (plan-long mill orders plan h)

pub canonical-form-is-its-own : CanonicalFormIsItsOwn
canonical-form-is-its-own plan = canonical-same (canonical plan) (canonical-grows plan)

-- In rank.

pub plan-in-rank-is-legal : PlanInRankIsLegal
plan-in-rank-is-legal mill orders plan each = (
  λ h. record {
    each = ranked-each orders plan each;
    slabs = ranked-legal orders plan each mill h.slabs;
  },
  λ h. record { each = each; slabs = unranked-legal orders plan each mill h.slabs },
)

pub plan-in-rank-loses-the-same : PlanInRankLosesTheSame
plan-in-rank-loses-the-same charge orders plan each = ranked-loss orders plan each charge

-- Each order on a slab of its own: a slab whose number stands once has one order.

pub slab-one : (s : ℕ) (plan : List ℕ) (orders : List Order) → times eqb s plan ≤ 1 →
    (slab s plan orders ≡ []) ⊎ ((o : Order) × Among o orders × (slab s plan orders ≡ o ∷ []))
slab-one s [] orders h = inl refl
slab-one s (t ∷ plan) [] h = inl refl
slab-one s (t ∷ plan) (o ∷ orders) h = elim (either (eqb s t)) [
  | inl e ↦ (let last : holds s plan ≡ false = never plan (grind arith) in
      inr (o, inl refl, rw e (ap (λ l. o ∷ l) (slab-unused s plan orders last))))
  | inr e ↦ elim (slab-one s plan orders (grind arith)) [
    | inl n ↦ inl (rw e n)
    | inr r ↦ inr (r.0, inr r.1, rw e r.2)
  ]
]
  where
    never : (plan : List ℕ) → times eqb s plan ≤ 0 → holds s plan ≡ false
    never [] h = refl
    never (t ∷ plan) h = grind (arith, never plan)

pub alone-is-legal : (mill : Mill) (o : Order) → 1 ≤ mill.most_colours →
    o.weight ≤ mill.largest → legal mill (o ∷ []) ≡ true
alone-is-legal mill o c w = grind (arith, nat_tests)

pub each-alone-is-legal : EachAloneIsLegal
each-alone-is-legal mill orders f =
    let n = length orders in
    legal-from mill orders (below n) (length-below n)
    (next_new-le n (below n) (λ s h. holds-below-lt s n h))
    (λ s. fits s (slab-one s (below n) orders (times-below s n)))
  where
    light : (o : Order) → Among o orders → o.weight ≤ mill.largest
    light o i =
        each-at (λ o. o.weight ≤ mill.largest) o orders
        (recursion_from_All (λ o. o.weight ≤ mill.largest) orders f.not_too_heavy) i

    fits : (s : ℕ) → (slab s (below (length orders)) orders ≡ [])
        ⊎ ((o : Order) × Among o orders × (slab s (below (length orders)) orders ≡ o ∷ [])) →
        legal mill (slab s (below (length orders)) orders) ≡ true
    fits s (inl e) = rw e (legal-none mill)
    fits s (inr r) = rw r.2 (alone-is-legal mill r.0 f.some_colour (light r.0 r.1))
