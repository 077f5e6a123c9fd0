use Rattle.std.proofs.Common.{◌≤◌, eqb, length, rules}
use Rattle.std.proofs.lemmas.List.Filters.{dedup_is}
use Rattle.mill_model.proofs.Sizes.{sorted_once, within_once}
use Rattle.mill_model.specs.Instance.{AreSizesOf}
use Rattle.mill_model.proofs.instance.Instance.new.Goals as goal

pub invariant_of-result : goal.invariant_of-result
invariant_of-result c =
    let is = dedup_is eqb _ _ c.dedup.ensures.filtered in
    let moved = c.sort_unstable.ensures.permutation in
    let sizes : AreSizesOf c.args.sizes.items c.dedup.new.self.items =
    sorted_once _ _ _ moved c.sort_unstable.ensures.sorted is in
    let short : length c.dedup.new.self.items ≤ length c.args.sizes.items = search rules in
    record {
      rise = sizes.rise;
      within = within_once _ _ _ _ _ _ moved is short sizes c.requires;
    }

pub returns-clause-sizes : goal.returns-clause-sizes
returns-clause-sizes c =
    sorted_once _ _ _ c.sort_unstable.ensures.permutation c.sort_unstable.ensures.sorted
    (dedup_is eqb _ _ c.dedup.ensures.filtered)
