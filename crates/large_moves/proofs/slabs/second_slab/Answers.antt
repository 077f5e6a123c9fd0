use Rattle.std.proofs.Common.{◌≡◌, ◌<◌, ℕ, true, length, arith, refl, Option, Some, None}
use Rattle.std.proofs.lemmas.Option.{IfSome_then}
use Rattle.std.specs.Option.{IfNone}
use Rattle.index_links.specs.Lists.{plan_of}
use Rattle.list_laws.specs.Sets.{holds}
use Rattle.index_links.proofs.Members.{plan-count}
use Rattle.large_moves.proofs.slabs.second_slab.Goals as goal

pub returns-then-a-b-clause-some : goal.returns-then-a-b-clause-some
returns-then-a-b-clause-some c = record {
  below = omega (arith, c.requires.second, plan-count c.args.links.now);
  two = λ l. refl;
  one = λ e. absurd (omega (arith, e, c.if-a-b.true));
}

pub returns-else-a-b-clause-some : goal.returns-else-a-b-clause-some
returns-else-a-b-clause-some c =
    IfSome_then c.free_slab.result c.free_slab.ensures.some (λ s found. record {
      below = omega (arith, found.0, plan-count c.args.links.now);
      two = λ l. absurd (omega (arith, l, c.if-a-b.false));
      one = λ e. found.1;
    })

pub returns-else-a-b-clause-none : goal.returns-else-a-b-clause-none
returns-else-a-b-clause-none c = go c.free_slab.result c.free_slab.ensures.none
  where
    go : (found : Option ℕ) →
        IfNone found ((s : ℕ) → s < length c.args.links.now →
        holds s (plan_of c.args.links.now) ≡ true) →
        IfNone found ((c.args.a ≡ c.args.b) × ((s : ℕ) → s < length (plan_of c.args.links.now) →
        holds s (plan_of c.args.links.now) ≡ true))
    go None h = (
      omega (arith, c.requires.rise, c.if-a-b.false),
      λ s l. h s (omega (arith, l, plan-count c.args.links.now)),
    )
    go (Some s) h = tt
