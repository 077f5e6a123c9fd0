-- Run by run: the layers have the orders of the runs before `at`.
use Rattle.std.proofs.Common.{◌≡◌, [], ◌+◌, ◌*◌, length, get_or, pos, arith}
use Rattle.set_minima.specs.Cells.{cell}
use Rattle.knap_bound.specs.Items.{IsStretch, no_place}
use Rattle.knap_bound.specs.Packing.{let_to, others_of}
use Rattle.set_minima.proofs.CellNumbers.{near-wider}
use Rattle.knap_bound.proofs.ItemsLetIn.{stretch-from, before-end, none-let_in, all-let_in}
use Rattle.set_minima.proofs.WholeTables.{table-allowed}
use Rattle.mill_model.specs.Limits.{all_prices}
use Rattle.knap_bound.proofs.colour_layers.add_colours.Goals as goal

pub add_next-requires-clause-stretch : goal.add_next-requires-clause-stretch
add_next-requires-clause-stretch c =
    stretch-from c.args.packing.now.rest.now c.args.packing.now.items.now c.requires.packing.sorted
    c.loop-at.at
    c.run_end-end.result c.run_end-end.ensures.some c.run_end-end.ensures.ends
    (c.loop-at.invariant.border c.loop-at-test.true) c.run_end-end.ensures.alike
    c.run_end-end.ensures.other

pub loop-at-init : goal.loop-at-init
loop-at-init c = record {
  inside = omega arith;
  border = λ h s b. absurd (omega arith);
  best = λ p t b.
      table-allowed c.args.packing.now.rest.now c.args.packing.now.prices.now no_place
      (let_to c.args.packing.now c.args.out.now 0) [] t
      (length c.args.table.now) (λ l. cell c.args.tables.now (t * length c.args.table.now + l))
      (λ i h. none-let_in c.args.packing.now.rest.now c.args.packing.now.items.now c.args.out.now
      c.args.packing.now.skip i)
      (p t b);
  near = λ l. near-wider 0 (0 * (9 * all_prices))
      (get_or c.args.tables.now l (pos 0)) (omega arith) (c.requires.near l);
}

pub add_next-requires-clause-near : goal.add_next-requires-clause-near
add_next-requires-clause-near c l =
    near-wider (c.loop-at.at * (9 * all_prices)) 200000000000000000
    (get_or c.loop-at.tables l (pos 0))
    (omega (arith, c.requires.packing.few, c.requires.packing.sorted.count, c.loop-at-test.true))
    (c.loop-at.invariant.near l)

pub loop-at-preserved : goal.loop-at-preserved
loop-at-preserved c =
    let run : IsStretch c.args.packing.now.items.now c.loop-at.at c.run_end-end.result =
    stretch-from c.args.packing.now.rest.now c.args.packing.now.items.now c.requires.packing.sorted
    c.loop-at.at
    c.run_end-end.result c.run_end-end.ensures.some c.run_end-end.ensures.ends
    (c.loop-at.invariant.border c.loop-at-test.true) c.run_end-end.ensures.alike
    c.run_end-end.ensures.other in
    let w : length c.loop-at.table ≡ length c.args.table.now = c.loop-at.auto.table in
    let best = rw w at c.add_next.ensures.best in
    record {
      inside = c.run_end-end.ensures.ends;
      border = before-end c.args.packing.now.items.now c.loop-at.at c.run_end-end.result run;
      best = λ p. best (c.loop-at.invariant.best p);
      near = λ l.
          near-wider (c.loop-at.at * (9 * all_prices) + (9 * all_prices))
          (c.run_end-end.result * (9 * all_prices))
          (get_or c.add_next.new.tables l (pos 0)) (omega (arith, c.run_end-end.ensures.some))
          (c.add_next.ensures.near (c.loop-at.at * (9 * all_prices))
          c.loop-at.invariant.near l);
    }

pub returns-clause-best : goal.returns-clause-best
returns-clause-best c p t b =
    table-allowed c.args.packing.now.rest.now c.args.packing.now.prices.now
    (let_to c.args.packing.now c.args.out.now c.loop-at.at)
    (others_of c.args.packing.now c.args.out.now) [] t (length c.args.table.now)
    (λ l. cell c.loop-at.tables (t * length c.args.table.now + l))
    (λ i h. all-let_in c.args.packing.now.rest.now c.args.packing.now.items.now
    c.requires.packing.sorted
    c.args.out.now c.args.packing.now.skip c.loop-at.at i (omega (arith, c.loop-at-test.false)) h)
    (c.loop-at.invariant.best p t b)

pub returns-clause-near : goal.returns-clause-near
returns-clause-near c l =
    near-wider (c.loop-at.at * (9 * all_prices)) 200000000000000000
    (get_or c.loop-at.tables l (pos 0))
    (omega (
      arith,
      c.requires.packing.few,
      c.requires.packing.sorted.count,
      c.loop-at.invariant.inside,
    ))
    (c.loop-at.invariant.near l)
