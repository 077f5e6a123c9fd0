-- The better of the two greedy plans.
use Rattle.std.specs.Prelude.{ℕ, cond, ltb, List}
use Rattle.mill_model.specs.Slab.{Mill}
use Rattle.mill_model.specs.Starts.{first_fit_path, best_fit_path, first_fit_loss, best_fit_loss}
use Rattle.mill_model.specs.declared.order.Order.{Order}

-- best fit's path where it loses less, else first fit's
abbrev pub better_path : Mill → (ℕ → ℕ) → List Order → List ℕ
better_path mill charge ranked =
    let better = ltb (best_fit_loss mill charge ranked) (first_fit_loss mill charge ranked) in
    cond better (best_fit_path mill charge ranked) (first_fit_path mill ranked)
