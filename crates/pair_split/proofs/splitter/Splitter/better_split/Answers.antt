use Rattle.std.proofs.Common.{IfSome, subst}
use Rattle.mill_model.specs.Charges.{charge_of}
use Rattle.mill_model.specs.Slab.{Mill}
use Rattle.pair_split.specs.Splits.{IsCheapestSplit}
use Rattle.pair_split.proofs.splitter.Splitter.better_split.Goals as goal

pub returns-clause-split : goal.returns-clause-split
returns-clause-split c = subst (λ (mill : Mill). IfSome c.better_split_in.result (λ loss.
    IsCheapestSplit mill (charge_of c.args.charges.now) c.args.orders.now
    c.better_split_in.new.marks loss)) c.self.view_is c.better_split_in.ensures.split
