use Rattle.std.proofs.Common.{◌≡◌, ◌++◌, ◌∷◌, [], ap, sym, ◌∙◌, length, arith, rules}
use Rattle.std.proofs.lemmas.List.{take_all}
use Rattle.std.proofs.lemmas.List.Sorted.{IsNonDecreasingBy-from_sort_by_key}
use Rattle.set_minima.specs.Packs.{colour_at}
use Rattle.knap_bound.specs.declared.orders_by_colour.Item.{Item}
use Rattle.knap_bound.proofs.ItemsSorted.{items_from, items-from-length, items-from-more}
use Rattle.knap_bound.proofs.ItemsSorted.{sorted-items}
use Rattle.knap_bound.proofs.orders_by_colour.by_colour.Goals as goal

pub loop-place-preserved : goal.loop-place-preserved
loop-place-preserved c =
    let e : c.push.new.self.items ≡ c.loop-place.items.items
    ++ record {
      place = c.loop-place.place;
      colour = colour_at c.args.rest.now c.loop-place.place;
    } ∷ [] = search rules in
    e ∙ ap (λ l. l ++ record {
      place = c.loop-place.place;
      colour = colour_at c.args.rest.now c.loop-place.place;
    } ∷ []) c.loop-place.invariant
    ∙ sym (items-from-more c.loop-place.place c.args.rest.now c.loop-place-test.true)

pub returns : goal.returns
returns c =
    let n : length (items_from 0 c.args.rest.now) ≡ length c.args.rest.now =
    items-from-length 0 c.args.rest.now in
    let all : c.loop-place.items.items ≡ items_from 0 c.args.rest.now =
    c.loop-place.invariant ∙ take_all c.loop-place.place (items_from 0 c.args.rest.now)
    (omega (arith, c.loop-place-test.false)) in
    sorted-items c.args.rest.now c.sort_unstable_by_key.new.self.items
    (rw (← all) c.sort_unstable_by_key.ensures.permutation)
    (IsNonDecreasingBy-from_sort_by_key (λ (item : Item). item.colour)
    c.sort_unstable_by_key.new.self.items c.sort_unstable_by_key.ensures.sorted
    (λ a r q k. search rules))
