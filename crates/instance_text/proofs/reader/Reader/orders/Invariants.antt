use Rattle.instance_text.specs.Fields.{order_fields}
use Rattle.instance_text.specs.Text.{numbers_of_orders}
use Rattle.instance_text.specs.Reading.{Took}
use Rattle.instance_text.proofs.reader.Reader.orders.Given as goal

-- the orders so far were read
abbrev pub invariant-loop : goal.invariant-loop
invariant-loop l =
    Took (order_fields l.counter) (numbers_of_orders l.orders.items) l.fn.self l.self
