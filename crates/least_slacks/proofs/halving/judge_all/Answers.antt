use Rattle.std.proofs.Common.{◌*◌, get_or, pos, arith}
use Rattle.mill_model.specs.Limits.{all_prices}
use Rattle.least_slacks.specs.Parts.{drift}
use Rattle.set_minima.proofs.CellNumbers.{near-wider}
use Rattle.least_slacks.proofs.halving.judge_all.Goals as goal

pub judge_keys-requires-clause-near : goal.judge_keys-requires-clause-near
judge_keys-requires-clause-near c l b =
    near-wider (9 * all_prices) (drift c.args.levels)
    (get_or c.fill_first.new.tables l (pos 0)) (omega (arith, c.requires.levels.0))
    (c.fill_first.ensures.near l b)
