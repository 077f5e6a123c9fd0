use Rattle.steal_workers.proofs.Ends.{lent-again}
use Rattle.steal_workers.proofs.round.end_round.Goals as goal

pub end_deques-requires-clause-lent : goal.end_deques-requires-clause-lent
end_deques-requires-clause-lent c =
    lent-again c.args.ends.items c.in_ok-owns.field-0.owns.items c.in_ok-owns.ensures.owns
    c.requires.lent
