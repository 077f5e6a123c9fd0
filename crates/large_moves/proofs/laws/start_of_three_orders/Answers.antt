-- All is computed, and no possible start loses more than the greedy plan.
use Rattle.std.proofs.Common.{◌∷◌, [], arith, refl}
use Rattle.large_moves.proofs.laws.start_of_three_orders.Goals as goal

pub returns : goal.returns
returns c = record {
  reached = (
    0 ∷ 1 ∷ 0 ∷ [],
    record {
      is_legal = record { each = refl; slabs = refl };
      at_most = omega arith;
      closed = refl;
    },
    refl,
  );
  greatest = λ plan possible. possible.at_most;
}
