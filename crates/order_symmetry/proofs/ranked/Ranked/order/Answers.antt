use Rattle.std.proofs.Common.{◌<◌, length, arith, sym, subst}
use Rattle.std.proofs.lemmas.List.{length-map}
use Rattle.mill_model.specs.Instance.{IsOrder}
use Rattle.order_symmetry.specs.Numbered.{placed_of}
use Rattle.order_symmetry.specs.declared.numbered.Numbered.{Numbered}
use Rattle.order_symmetry.proofs.Limits.{each-get, each-order}
use Rattle.order_symmetry.proofs.Places.{order-at}
use Rattle.order_symmetry.proofs.ranked.Ranked.order.Goals as goal

within : (c : goal.After-result-1) → c.args.k < length c.self.inside.placed.items
within c =
    let below = rw (← c.self.view_is) at c.requires in
    omega (arith, below, length-map c.self.inside.placed.items placed_of)

pub returns-clause-is : goal.returns-clause-is
returns-clause-is c =
    rw (← c.self.view_is)
    (order-at c.self.inside.placed.items c.args.k c.index.result.now (within c) c.index.ensures)

pub returns-clause-limits : goal.returns-clause-limits
returns-clause-limits c =
    subst (λ (n : Numbered). IsOrder n.order) (sym c.index.ensures)
    (each-get (λ placed. IsOrder placed.order) c.self.inside.placed.items
    (each-order _ c.self.invariant) c.args.k c.index.result.now (within c))
