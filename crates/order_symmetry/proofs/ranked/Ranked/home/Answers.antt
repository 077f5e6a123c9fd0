use Rattle.std.proofs.Common.{◌<◌, length, map, arith, sym, subst}
use Rattle.std.proofs.lemmas.List.{length-map}
use Rattle.order_symmetry.specs.Numbered.{placed_of}
use Rattle.order_symmetry.specs.declared.numbered.Numbered.{Numbered}
use Rattle.order_symmetry.proofs.Limits.{each-get, each-home}
use Rattle.order_symmetry.proofs.Places.{place-at}
use Rattle.order_symmetry.proofs.ranked.Ranked.home.Goals as goal

within : (c : goal.After-index) → c.args.k < length c.self.inside.placed.items
within c =
    let below = rw (← c.self.view_is) at c.requires in
    omega (arith, below, length-map c.self.inside.placed.items placed_of)

pub returns-clause-is : goal.returns-clause-is
returns-clause-is c =
    rw (← c.self.view_is)
    (place-at c.self.inside.placed.items c.args.k c.index.result.now (within c) c.index.ensures)

pub returns-clause-within : goal.returns-clause-within
returns-clause-within c =
    let items = c.self.inside.placed.items in
    rw (← c.self.view_is)
    (subst (λ (n : Numbered). n.number < length (map placed_of items)) (sym c.index.ensures)
    (each-get (λ placed. placed.place < length (map placed_of items)) items
    (each-home _ c.self.invariant) c.args.k c.index.result.now (within c)))
