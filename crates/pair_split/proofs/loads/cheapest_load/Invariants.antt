use Rattle.mill_model.specs.Charges.{charge_of}
use Rattle.pair_split.specs.Loads.{IsCheapest}
use Rattle.pair_split.proofs.loads.cheapest_load.Given as goal

abbrev pub invariant-loop-load : goal.invariant-loop-load
invariant-loop-load l =
    IsCheapest (charge_of l.charges) l.whole l.layout.largest l.load l.loads l.best
