use Rattle.std.proofs.Common.{List, ℤ, subst}
use Rattle.column_price.specs.Served.{Serves}
use Rattle.column_price.proofs.slacks.LeastSlacks.new.Goals as goal

pub invariant_of-result : goal.invariant_of-result
invariant_of-result c = (
  c.tables_for.ensures.kept,
  c.requires.prices,
  subst (λ (ys : List ℤ). Serves (record {
    node = c.args.node.now;
    charges = c.args.charges.now;
    prices = ys;
  }) c.in_ok-tables.tables) c.deref.ensures.value c.in_ok-tables.ensures.serves,
)
