use Rattle.std.proofs.Common.{rules}
use Rattle.shared_words.proofs.BestKeeps.{closes, ClosesAt}
use Rattle.shared_words.proofs.best.Best.close.Goals as goal

-- what the seat knows of the word at the end
known : (c : goal.After-free) →
    ClosesAt c.self.inside.table.shared.key c.seat.inside.seat.me.0 c.word-word.result
known c = closes _ _ _ _ _ _ c.close_with-closed.ensures.values.2 c.word-word.ensures
    c.seat.invariant.1 (search rules)

pub returns-clause-from : goal.returns-clause-from
returns-clause-from c = search (rules, known c)

pub returns-clause-seen : goal.returns-clause-seen
returns-clause-seen c = search (rules, known c)

pub returns-clause-start : goal.returns-clause-start
returns-clause-start c = search (rules, known c)

pub returns-clause-mine : goal.returns-clause-mine
returns-clause-mine c = search (rules, known c)
