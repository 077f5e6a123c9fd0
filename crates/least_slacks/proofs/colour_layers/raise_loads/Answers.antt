use Rattle.std.proofs.Common.{◌+◌, ◌-◌, ◌*◌, get_or, pos, arith}
use Rattle.set_minima.proofs.CellNumbers.{near-wider}
use Rattle.mill_model.specs.declared.prices.TheConstants.{MAX_PRICE}
use Rattle.least_slacks.proofs.colour_layers.raise_loads.Goals as goal

pub returns-then-run-clause-near : goal.returns-then-run-clause-near
returns-then-run-clause-near c n h l =
    near-wider (n + MAX_PRICE) (n + (c.args.run.1 - c.args.run.0) * MAX_PRICE)
    (get_or c.raise_by_order.new.tables l (pos 0)) (omega (arith, c.if-run.true))
    (c.raise_by_order.ensures.near n h l)
