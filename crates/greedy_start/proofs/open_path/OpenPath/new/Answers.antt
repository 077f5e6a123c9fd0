use Rattle.greedy_start.proofs.Choices.{some-colour}
use Rattle.greedy_start.proofs.open_path.OpenPath.new.Goals as goal

pub invariant_of-result-clause-some_colour : goal.invariant_of-result-clause-some_colour
invariant_of-result-clause-some_colour c = some-colour c.args.ranked.now c.len-orders.ensures.kept
