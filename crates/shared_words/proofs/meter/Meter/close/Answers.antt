use Rattle.std.proofs.Common.{rules}
use Rattle.shared_words.proofs.MeterKeeps.{closes, ClosesAt}
use Rattle.shared_words.proofs.meter.Meter.close.Goals as goal

-- what the seat knows of the ticket word at the end
known : (c : goal.After-free) → ClosesAt c.seat.inside.seat.me.0 c.word-word.result
known c = closes _ _ _ _ _ _ c.close_with-closed.ensures.values.2 c.word-word.ensures (search rules)

pub returns-clause-each : goal.returns-clause-each
returns-clause-each c = search (rules, known c)

pub returns-clause-halted : goal.returns-clause-halted
returns-clause-halted c = search (rules, known c)
