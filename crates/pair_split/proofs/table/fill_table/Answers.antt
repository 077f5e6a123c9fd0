use Rattle.std.proofs.Common.{◌≡◌, ℕ, ◌-◌, ◌*◌, ◌%◌, suc, length, arith}
use Rattle.pair_split.specs.Tables.{mill_in}
use Rattle.pair_split.proofs.WayBack.{table-moved}
use Rattle.pair_split.proofs.table.fill_table.Goals as goal

pub add_two-requires-clause-table : goal.add_two-requires-clause-table
add_two-requires-clause-table c =
    let top : ℕ = length c.args.orders.now - (length c.args.orders.now - c.args.from) % 2 in
    let e : top - 2 * c.loop-k.k ≡ suc (suc (top - 2 * c.loop-k.k - 2)) =
    omega (arith, c.loop-k-test.true) in
    table-moved (mill_in c.args.layout) c.args.layout.words c.args.orders.now _ _ c.loop-k.table e
    c.loop-k.invariant.table
