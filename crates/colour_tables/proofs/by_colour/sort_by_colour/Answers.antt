use Rattle.std.proofs.Common.{◌≡◌, ◌++◌, ◌∷◌, [], ap, sym, ◌∙◌, length, arith, rules}
use Rattle.std.proofs.lemmas.List.{take_all}
use Rattle.std.proofs.lemmas.List.Sorted.{IsNonDecreasingBy-from_sort_by_key}
use Rattle.set_minima.specs.Packs.{colour_at}
use Rattle.colour_tables.specs.declared.by_colour.Coloured.{Coloured}
use Rattle.colour_tables.proofs.SortedByColour.{coloured_from, coloured-from-length}
use Rattle.colour_tables.proofs.SortedByColour.{coloured-from-more}
use Rattle.colour_tables.proofs.SortedByColour.{sorted-orders}
use Rattle.colour_tables.proofs.by_colour.sort_by_colour.Goals as goal

pub loop-place-preserved : goal.loop-place-preserved
loop-place-preserved c =
    let e : c.push.new.self.items ≡ c.loop-place.sorted.items
    ++ record {
      place = c.loop-place.place;
      colour = colour_at c.args.rest.now c.loop-place.place;
    } ∷ [] = search rules in
    e ∙ ap (λ l. l ++ record {
      place = c.loop-place.place;
      colour = colour_at c.args.rest.now c.loop-place.place;
    } ∷ []) c.loop-place.invariant
    ∙ sym (coloured-from-more c.loop-place.place c.args.rest.now c.loop-place-test.true)

pub returns : goal.returns
returns c =
    let n : length (coloured_from 0 c.args.rest.now) ≡ length c.args.rest.now =
    coloured-from-length 0 c.args.rest.now in
    let all : c.loop-place.sorted.items ≡ coloured_from 0 c.args.rest.now =
    c.loop-place.invariant ∙ take_all c.loop-place.place (coloured_from 0 c.args.rest.now)
    (omega (arith, c.loop-place-test.false)) in
    sorted-orders c.args.rest.now c.sort_unstable_by_key.new.self.items
    (rw (← all) c.sort_unstable_by_key.ensures.permutation)
    (IsNonDecreasingBy-from_sort_by_key (λ (item : Coloured). item.colour)
    c.sort_unstable_by_key.new.self.items c.sort_unstable_by_key.ensures.sorted
    (λ a r q k. search rules))
