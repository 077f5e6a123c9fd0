use Rattle.pair_split.specs.Tables.{mill_in}
use Rattle.pair_split.proofs.WayBack.{tried-more}
use Rattle.pair_split.proofs.back.step_back.Goals as goal

pub loop-r-preserved : goal.loop-r-preserved
loop-r-preserved c =
    tried-more (mill_in c.args.layout) c.args.layout.few c.args.layout.words c.args.weight
    c.args.same c.args.at c.state_at.result c.args.table.now c.loop-r.r c.state_at.ensures.is
    c.state_at.ensures.few.0 c.state_at.ensures.few.1 c.loop-r.invariant c.in_default.ensures.none
