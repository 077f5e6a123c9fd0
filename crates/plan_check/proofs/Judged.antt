-- What is found of a plan, slab by slab, and the verdict on it.
use Rattle.std.proofs.Common.{ℕ, ◌*◌, ◌<◌, ◌≤◌, ◌≡◌, ◌↔◌, Bool, true, false, ◌&&◌, List, length}
use Rattle.std.proofs.Common.{leb, refl, sym, ap, ◌∙◌, arith, inl, inr}
use Rattle.std.proofs.lemmas.Bool.{lt-leb, cases_lt}
use Rattle.list_laws.specs.Sets.{total}
use Rattle.mill_model.specs.Slab.{Mill, load, colours, legal}
use Rattle.mill_model.specs.Plan.{numbers_each, slab, IsLegalPlan}
use Rattle.mill_model.specs.declared.order.Order.{Order}
use Rattle.list_laws.proofs.Tests.{clash, lowest-once}
use Rattle.list_laws.proofs.Sums.{each_below-at, each_below-from}
use Rattle.mill_model.specs.Plan.{IsPlanWithLoss}
use Rattle.plan_check.specs.Verdicts.{IsLowestWrong, IsHeavy, IsColourful}
use Rattle.plan_check.specs.declared.verdict.Verdict.{Verdict}
use Rattle.plan_check.specs.declared.verdict.Verdict.TheVariants.{Legal, Heavy, Colourful}

-- a slab that no size holds isn't legal
pub heavy-slab : (mill : Mill) (orders : List Order) → mill.largest < load orders →
    legal mill orders ≡ false
heavy-slab mill orders heavy =
    let a : leb (load orders) mill.largest ≡ false = lt-leb _ _ heavy in rw a

-- nor is one of too many colours
pub colourful-slab : (mill : Mill) (orders : List Order) → mill.most_colours < colours orders →
    legal mill orders ≡ false
colourful-slab mill orders many =
    let b : leb (colours orders) mill.most_colours ≡ false = lt-leb _ _ many in
    rw b (and-false (leb (load orders) mill.largest))
  where
    and-false : (a : Bool) → (a && false) ≡ false
    and-false true = refl
    and-false false = refl

-- the slabs below i are legal, and lose this
pub record IsSoFar (mill : Mill) (charge : ℕ → ℕ) (orders : List Order) (plan : List ℕ)
    (i lost : ℕ) : Type 0 where
  pub are_legal : (s : ℕ) → s < i → legal mill (slab s plan orders) ≡ true
  pub sum : lost ≡ total i (λ s. charge (load (slab s plan orders)))
  pub small : lost ≤ i * 100000000

-- all slabs are legal
pub legal-found : (mill : Mill) (charge : ℕ → ℕ) (orders : List Order) (plan : List ℕ) (lost : ℕ) →
    numbers_each plan orders ≡ true → IsSoFar mill charge orders plan (length orders) lost →
    IsPlanWithLoss mill charge orders plan lost
legal-found mill charge orders plan lost each all = record {
  legal = record {
    each = each;
    slabs = each_below-from (length orders) (λ s. legal mill (slab s plan orders)) all.are_legal;
  };
  loses = sym all.sum;
}

-- the one lowest slab that isn't legal
same-lowest : (mill : Mill) (orders : List Order) (plan : List ℕ) (s t : ℕ) →
    IsLowestWrong mill orders plan s → IsLowestWrong mill orders plan t → s ≡ t
same-lowest mill orders plan s t one other =
    lowest-once (λ u. legal mill (slab u plan orders) ≡ false) s t one.wrong
    (λ u l e. clash (legal mill (slab u plan orders)) (one.lowest u l) e) other.wrong
    (λ u l e. clash (legal mill (slab u plan orders)) (other.lowest u l) e)

-- a legal plan has none
none-wrong : (mill : Mill) (orders : List Order) (plan : List ℕ) (s : ℕ) →
    IsLegalPlan mill orders plan → IsLowestWrong mill orders plan s → ⊥
none-wrong mill orders plan s is lowest =
    clash (legal mill (slab s plan orders))
    (each_below-at (length orders) (λ s. legal mill (slab s plan orders)) s is.slabs lowest.below)
    lowest.wrong

-- a slab is found heavy, where those below it are legal
pub heavy-found : (mill : Mill) (charge : ℕ → ℕ) (orders : List Order) (plan : List ℕ)
    (i lost weight : ℕ) → IsSoFar mill charge orders plan i lost → i < length orders →
    weight ≡ load (slab i plan orders) → mill.largest < weight →
    IsHeavy mill orders plan i weight
heavy-found mill charge orders plan i lost weight before within weighs heavy = record {
  lowest_wrong = record {
    below = within;
    wrong = heavy-slab mill (slab i plan orders) (rw (← weighs) heavy);
    lowest = before.are_legal;
  };
  weighs = weighs;
  heavy = heavy;
}

-- a slab is found too colourful
pub colourful-found : (mill : Mill) (charge : ℕ → ℕ) (orders : List Order) (plan : List ℕ)
    (i lost count : ℕ) → IsSoFar mill charge orders plan i lost → i < length orders →
    load (slab i plan orders) ≤ mill.largest → count ≡ colours (slab i plan orders) →
    mill.most_colours < count → IsColourful mill orders plan i count
colourful-found mill charge orders plan i lost count before within light counts many = record {
  lowest_wrong = record {
    below = within;
    wrong = colourful-slab mill (slab i plan orders) (rw (← counts) many);
    lowest = before.are_legal;
  };
  light = light;
  counts = counts;
}

-- what the clauses on a verdict say
pub record IsJudged (mill : Mill) (charge : ℕ → ℕ) (orders : List Order) (plan : List ℕ)
    (verdict : Verdict) : Type 0 where
  pub is_legal : (lost : ℕ) → (verdict ≡ Legal lost) ↔ IsPlanWithLoss mill charge orders plan lost
  pub is_heavy : (s weight : ℕ) → (verdict ≡ Heavy s weight) ↔ IsHeavy mill orders plan s weight
  pub is_colourful : (s count : ℕ) → (verdict ≡ Colourful s count)
      ↔ IsColourful mill orders plan s count

-- a plan that is found legal is nothing else
pub legal-judged : (mill : Mill) (charge : ℕ → ℕ) (orders : List Order) (plan : List ℕ) (lost : ℕ) →
    IsPlanWithLoss mill charge orders plan lost → IsJudged mill charge orders plan (Legal lost)
legal-judged mill charge orders plan lost is = record {
  is_legal = λ other. (
    λ e. (let same : lost ≡ other = cc in rw (← same) is),
    λ has. ap Legal (sym is.loses ∙ has.loses),
  );
  is_heavy = λ s weight. (
    λ e. absurd (cc),
    λ has. absurd (none-wrong mill orders plan s is.legal has.lowest_wrong),
  );
  is_colourful = λ s count. (
    λ e. absurd (cc),
    λ has. absurd (none-wrong mill orders plan s is.legal has.lowest_wrong),
  );
}

-- one whose lowest wrong slab is found heavy is nothing else
pub heavy-judged : (mill : Mill) (charge : ℕ → ℕ) (orders : List Order) (plan : List ℕ)
    (s weight : ℕ) → IsHeavy mill orders plan s weight →
    IsJudged mill charge orders plan (Heavy s weight)
heavy-judged mill charge orders plan s weight is = record {
  is_legal = λ lost. (
    λ e. absurd (cc),
    λ has. absurd (none-wrong mill orders plan s has.legal is.lowest_wrong),
  );
  is_heavy = λ t other. (
    λ e. (let number : s ≡ t = cc in let same : weight ≡ other = cc in rw (← number, ← same) is),
    λ has. (let number : s ≡ t =
        same-lowest mill orders plan s t is.lowest_wrong has.lowest_wrong in
        let same : weight ≡ other =
        is.weighs ∙ ap (λ n. load (slab n plan orders)) number ∙ sym has.weighs in
        rw (number, same)),
  );
  is_colourful = λ t count. (
    λ e. absurd (cc),
    λ has. (let number : s ≡ t =
        same-lowest mill orders plan s t is.lowest_wrong has.lowest_wrong in
        let weighs : weight ≡ load (slab t plan orders) = rw (← number) is.weighs in
        absurd (omega (arith, weighs, is.heavy, has.light))),
  );
}

-- nor is one whose lowest wrong slab is found too colourful
pub colourful-judged : (mill : Mill) (charge : ℕ → ℕ) (orders : List Order) (plan : List ℕ)
    (s count : ℕ) → IsColourful mill orders plan s count →
    IsJudged mill charge orders plan (Colourful s count)
colourful-judged mill charge orders plan s count is = record {
  is_legal = λ lost. (
    λ e. absurd (cc),
    λ has. absurd (none-wrong mill orders plan s has.legal is.lowest_wrong),
  );
  is_heavy = λ t weight. (
    λ e. absurd (cc),
    λ has. (let number : s ≡ t =
        same-lowest mill orders plan s t is.lowest_wrong has.lowest_wrong in
        let light : load (slab t plan orders) ≤ mill.largest = rw (← number) is.light in
        absurd (omega (arith, has.weighs, has.heavy, light))),
  );
  is_colourful = λ t other. (
    λ e. (let number : s ≡ t = cc in let same : count ≡ other = cc in rw (← number, ← same) is),
    λ has. (let number : s ≡ t =
        same-lowest mill orders plan s t is.lowest_wrong has.lowest_wrong in
        let same : count ≡ other =
        is.counts ∙ ap (λ n. colours (slab n plan orders)) number ∙ sym has.counts in
        rw (number, same)),
  );
}
