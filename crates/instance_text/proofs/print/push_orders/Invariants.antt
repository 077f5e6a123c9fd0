use Rattle.std.proofs.Common.{◌≡◌, ◌++◌, take}
use Rattle.std.specs.Prelude.{string_bytes, flat_map}
use Rattle.instance_text.specs.Text.{order_line}
use Rattle.instance_text.proofs.print.push_orders.Given as goal

-- the orders so far were written
abbrev pub invariant-loop-order : goal.invariant-loop-order
invariant-loop-order l =
    string_bytes l.text ≡ string_bytes l.initial.text
    ++ flat_map order_line (take l.order-index l.orders)
