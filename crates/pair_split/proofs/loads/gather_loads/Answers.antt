use Rattle.std.proofs.Common.{arith, inl, ◌∙◌}
use Rattle.pair_split.proofs.GatheredLoads.{bit-clear, loads-gathered}
use Rattle.pair_split.proofs.loads.gather_loads.Goals as goal

pub loop-first-init : goal.loop-first-init
loop-first-init c = record {
  gathers = (
    c.clear.new.words,
    bit-clear c.clear.new.words c.clear.ensures,
    record {
      kept = λ l h m. m;
      here = λ r l q h m. absurd (omega (arith, q.0));
      only = λ l h m. inl m;
    },
  );
  size = c.clear.auto.words ∙ c.requires.loads;
}

pub returns : goal.returns
returns c =
    loads-gathered c.args.layout.largest c.args.layout.p c.args.layout.words c.args.layout.few
    c.args.layout.wide c.args.table.now c.loop-first.invariant.gathers.0 c.loop-first.loads
    c.loop-first.first (omega (arith, c.loop-first.auto.first-end, c.loop-first-test.false))
    c.loop-first.invariant.gathers.1 c.loop-first.invariant.gathers.2
