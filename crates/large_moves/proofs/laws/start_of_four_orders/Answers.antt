-- All is computed, and no possible start loses more than the greedy plan.
use Rattle.std.proofs.Common.{◌∷◌, [], arith, refl}
use Rattle.large_moves.proofs.laws.start_of_four_orders.Goals as goal

pub returns-clause-greedy : goal.returns-clause-greedy
returns-clause-greedy c = record {
  reached = (
    0 ∷ 0 ∷ 1 ∷ 1 ∷ [],
    record {
      is_legal = record { each = refl; slabs = refl };
      at_most = omega arith;
      closed = refl;
    },
    refl,
  );
  greatest = λ plan possible. possible.at_most;
}

pub returns-clause-not_greedy : goal.returns-clause-not_greedy
returns-clause-not_greedy c = λ possible. (let closed = possible.closed in absurd (cc))

pub returns-clause-moved : goal.returns-clause-moved
returns-clause-moved c = record {
  is_legal = record { each = refl; slabs = refl };
  at_most = omega arith;
  closed = refl;
}
