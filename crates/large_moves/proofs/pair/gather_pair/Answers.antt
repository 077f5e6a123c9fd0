use Rattle.std.proofs.Common.{◌≡◌, ◌<◌, ◌∙◌, All, length, sym, subst, take, ap, arith}
use Rattle.std.proofs.lemmas.List.{length-take-le}
use Rattle.index_links.specs.Lists.{places_where, plan_of}
use Rattle.index_links.proofs.Members.{plan-count}
use Rattle.mill_model.specs.Pairs.{one_of}
use Rattle.large_moves.specs.Moves.{orders_at}
use Rattle.large_moves.proofs.PairPlaces.{orders-there, places-within}
use Rattle.large_moves.proofs.pair.gather_pair.Goals as goal

pub gather-requires-clause-within : goal.gather-requires-clause-within
gather-requires-clause-within c =
    let long : length (plan_of c.args.links.now) ≡ length c.args.orders.now =
    plan-count c.args.links.now ∙ c.requires.same in
    subst (λ places. All (λ i. i < length c.args.orders.now) places)
    (sym c.places_of_pair-count.ensures.places)
    (subst (λ n. All (λ i. i < n)
    (places_where (one_of c.args.a c.args.b) 0 (plan_of c.args.links.now))) long
    (places-within (one_of c.args.a c.args.b) (plan_of c.args.links.now)))

pub returns-clause-items : goal.returns-clause-items
returns-clause-items c =
    let count = c.places_of_pair-count.result in
    let places = take c.places_of_pair-count.result c.places_of_pair-count.new.places in
    let room : length c.places_of_pair-count.new.places ≡ length c.args.orders.now =
    c.places_of_pair-count.auto.places ∙ c.requires.places in
    let many : length places ≡ count =
    length-take-le count c.places_of_pair-count.new.places
    (omega (arith, room, c.places_of_pair-count.ensures.within, c.requires.same)) in
    ap (λ n. take n c.gather.new.items) (sym many) ∙ c.gather.ensures
    ∙ ap (orders_at c.args.orders.now) c.places_of_pair-count.ensures.places
    ∙ orders-there (one_of c.args.a c.args.b) (plan_of c.args.links.now) c.args.orders.now
    (plan-count c.args.links.now ∙ c.requires.same)
