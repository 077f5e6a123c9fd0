use Rattle.std.proofs.Common.{◌≡◌, ◌≤◌, length, map, arith, rules}
use Rattle.std.proofs.lemmas.List.{length-map}
use Rattle.mill_model.specs.declared.order.TheConstants.{MAX_ORDERS}
use Rattle.order_symmetry.specs.Numbered.{placed_of}
use Rattle.order_symmetry.proofs.Limits.{few}
use Rattle.order_symmetry.proofs.ranked.Ranked.len.Goals as goal

short : (c : goal.After-len) → c.len.result ≤ MAX_ORDERS
short c =
    let items = c.self.inside.placed.items in
    let most : length (map placed_of items) ≤ MAX_ORDERS = few _ c.self.invariant in
    let long : c.len.result ≡ length items = search rules in
    let same : length (map placed_of items) ≡ length items = length-map items placed_of in
    omega arith

pub overflow_cast-result : goal.overflow_cast-result
overflow_cast-result c = let most = short c in search rules

pub returns-clause-few : goal.returns-clause-few
returns-clause-few c = short c
