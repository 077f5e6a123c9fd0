use Rattle.steal_deques.proofs.own.deque.Given as goal

-- the rule of the new deque is told its orders and its shares
abbrev pub ghosts-open : goal.ghosts-open
ghosts-open a = record { ranked = a.ranked.now; shares = a.shares }
