use Rattle.std.proofs.Common.{◌≡◌, ◌∙◌, ltb, slice_get, arith, rules}
use Rattle.std.proofs.lemmas.Grind.{common_steps}
use Rattle.std.proofs.lemmas.Option.{gets}
use Rattle.std.proofs.lemmas.List.Sorted.{IsPartitionPoint-from_clause, IsPartitionedBy-ltb}
use Rattle.loss_table.proofs.LeastSizes.{IsPart, not-falling, part-found, size_for-part, some-part}
use Rattle.loss_table.proofs.LeastSizes.{none-part}
use Rattle.loss_table.proofs.charging.size_for.Goals as goal

-- the place that the binary search finds
part : (c : goal.After-copied) →
    IsPart c.args.instance.now.sizes c.args.load c.partition_point.result
part c =
    let sizes = c.sizes-sizes.result.now in
    let point = IsPartitionPoint-from_clause (λ y. ltb y c.args.load) sizes _
    c.partition_point.ensures.partitioned
    (IsPartitionedBy-ltb (λ x. x) sizes c.args.load (not-falling sizes (search rules)))
    (λ a r q k. search rules) in
    rw (← c.sizes-sizes.ensures.is) (part-found sizes c.args.load _ c.partition_point.ensures.bound
    point)

-- what stands there
got : (c : goal.After-copied) →
    c.copied.result ≡ slice_get c.args.instance.now.sizes c.partition_point.result
got c = grind (arith, common_steps, gets)

pub returns-clause-is : goal.returns-clause-is
returns-clause-is c =
    got c ∙ size_for-part c.args.instance.now.sizes c.args.load c.partition_point.result
    c.sizes-sizes.ensures.kept.within.some_size (part c)

pub returns-clause-some : goal.returns-clause-some
returns-clause-some c =
    rw (got c) (some-part c.args.instance.now.sizes c.args.load c.partition_point.result
    c.sizes-sizes.ensures.kept.rise (part c))

pub returns-clause-none : goal.returns-clause-none
returns-clause-none c =
    rw (got c) (none-part c.args.instance.now.sizes c.args.load c.partition_point.result
    c.sizes-sizes.ensures.kept.within.some_size (part c))
