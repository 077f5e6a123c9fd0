-- Size by size, load by load: the table has the charges of all loads so far.
use Rattle.std.proofs.Common.{◌≡◌, ◌+◌, ◌<◌, ◌≤◌, ◌∙◌, length, ◌-◌, ◌++◌, ◌∷◌, [], get_or, arith}
use Rattle.std.proofs.Common.{ap, rules}
use Rattle.mill_model.specs.Instance.{largest}
use Rattle.loss_table.proofs.LeastSizes.{largest-at, part-next}
use Rattle.loss_table.proofs.Filling.{load-step, charges-full, full-length}
use Rattle.loss_table.proofs.charging.loss_charges.Goals as goal

pub loop-load-preserved : goal.loop-load-preserved
loop-load-preserved c =
    let sizes = c.args.instance.now.sizes in
    let same = c.sizes-size-items.ensures.is in
    let kept = c.sizes-size-items.ensures.kept in
    let before = c.loop-size.invariant in
    let within : c.loop-size.size-index < length sizes = rw same at c.loop-size-test.true in
    let low : length c.loop-size.table.items ≤ c.loop-load.load = search rules in
    let enough : c.loop-load.load < get_or sizes c.loop-size.size-index 0 + 1 =
    rw same at c.loop-load-test.true in
    let pushed : c.push-in-loop-load.new.self.items ≡ c.loop-load.table.items
    ++ (get_or sizes c.loop-size.size-index 0 - c.loop-load.load) ∷ [] = search rules in
    load-step sizes c.loop-load.table.items _ c.loop-size.size-index _ c.loop-load.load kept.rise
    kept.within.each_size c.loop-load.invariant.0 c.loop-load.invariant.1 before.some before.part
    within low enough pushed

pub loop-size-preserved : goal.loop-size-preserved
loop-size-preserved c =
    let sizes = c.args.instance.now.sizes in
    let same = c.sizes-size-items.ensures.is in
    let before = c.loop-size.invariant in
    let within : c.loop-size.size-index < length sizes = rw same at c.loop-size-test.true in
    let past : get_or sizes c.loop-size.size-index 0 + 1 ≤ c.loop-load.load =
    rw same at c.loop-load-test.false in
    let at : c.loop-load.load ≤ get_or sizes c.loop-size.size-index 0 + 1 = search rules in
    let count : length c.loop-load.table.items ≡ get_or sizes c.loop-size.size-index 0 + 1 =
    omega (arith, c.loop-load.invariant.1) in
    let most : get_or sizes c.loop-size.size-index 0 ≤ largest sizes =
    largest-at sizes c.loop-size.size-index within in
    record {
      charges = c.loop-load.invariant.0;
      some = omega arith;
      part = rw count (part-next sizes _ c.loop-size.size-index
          c.sizes-size-items.ensures.kept.rise before.part within);
      most = omega arith;
    }

-- after the last size the table reaches the largest
full : (c : goal.After-from_list) →
    length c.loop-size.table.items ≡ largest c.args.instance.now.sizes + 1
full c =
    let sizes = c.args.instance.now.sizes in
    let end : c.loop-size.size-index ≡ length sizes = search rules in
    full-length sizes c.loop-size.table.items (rw end at c.loop-size.invariant.part)
    c.sizes-size-items.ensures.kept.within.some_size c.loop-size.invariant.most

pub returns : goal.returns
returns c = record {
  reach = ap length c.from_list.ensures ∙ full c;
  each = λ load. ap (λ table. get_or table load 0) c.from_list.ensures
      ∙ charges-full c.args.instance.now.sizes c.loop-size.table.items c.loop-size.invariant.charges
      (full c) load;
}
