-- The pair as it was, and the split that was found for it.
use Rattle.std.proofs.Common.{ℕ, ◌≡◌, ◌<◌, ◌≤◌, ◌∙◌, Bool, true, List, All, length, sym, subst, ap}
use Rattle.std.proofs.Common.{arith}
use Rattle.mill_model.specs.Charges.{charge_of}
use Rattle.mill_model.specs.Pairs.{complement, one_of, pair_orders}
use Rattle.std.proofs.lemmas.List.{length-map}
use Rattle.mill_model.specs.Plan.{slab}
use Rattle.mill_model.specs.Slab.{load}
use Rattle.list_laws.specs.Sets.{chosen}
use Rattle.index_links.specs.Lists.{places_where, plan_of}
use Rattle.index_links.proofs.Members.{plan-count}
use Rattle.pair_split.specs.Splits.{grouped}
use Rattle.large_moves.specs.Laid.{StayElsewhere}
use Rattle.large_moves.specs.Moves.{put_at, split_plan}
use Rattle.large_moves.proofs.Betters.{chosen-length, grouped-chosen, move-betters, second-exists}
use Rattle.large_moves.proofs.Betters.{IsBetter, better-split, others-stay}
use Rattle.large_moves.proofs.Betters.{linked-length, plan-length, split-slabs}
use Rattle.large_moves.proofs.Loads.{loads-moved}
use Rattle.large_moves.proofs.PairPlaces.{orders-there, places-within, put-places}
use Rattle.large_moves.proofs.pair.resplit.Goals as goal
use Rattle.large_moves.proofs.pair.resplit.Goals.{After-lay}

pub better_split-requires-clause-few : goal.better_split-requires-clause-few
better_split-requires-clause-few c =
    let few : length (pair_orders c.args.orders.now.list.now (plan_of c.args.links.now)
    c.args.pair.first c.args.pair.second)
    ≤ length c.args.orders.now.list.now = chosen-length _ c.args.orders.now.list.now in
    subst (λ xs. length xs ≤ 1024) (sym c.requires.items) (omega (arith, few, c.requires.few))

pub better_split-requires-clause-together : goal.better_split-requires-clause-together
better_split-requires-clause-together c = subst (λ xs. grouped xs ≡ true) (sym c.requires.items)
    (grouped-chosen c.args.orders.now.list.now _ c.requires.together)

pub second_slab-requires-clause-second : goal.second_slab-requires-clause-second
second_slab-requires-clause-second c =
    let long = linked-length c.args.splitter.now c.args.orders.now.list.now c.args.links.now
    c.requires.legal in
    omega (arith, long, c.requires.second)

pub returns-in_default-second_slab-clause-closed :
    goal.returns-in_default-second_slab-clause-closed
returns-in_default-second_slab-clause-closed c =
    let better = better-split c.args.splitter.now (charge_of c.args.orders.now.charges.now)
    c.args.orders.now.list.now (plan_of c.args.links.now)
    c.args.pair.first c.args.pair.second c.args.pair.loss c.in-Some.field-0
    c.args.gathered.now.items.now c.better_split.new.marks c.requires.items c.in-Some.ensures.split
    c.in-Some.ensures.less in
    let none = c.in_default-second_slab.ensures.none in
    absurd (second-exists c.args.splitter.now (charge_of c.args.orders.now.charges.now)
    c.args.orders.now.charges.now.free c.args.orders.now.list.now (plan_of c.args.links.now)
    c.args.pair.first c.args.pair.second c.args.pair.loss
    c.requires.second c.requires.legal c.requires.loss c.better_split.new.marks better none.0
    none.1)

pub lay-requires-clause-within : goal.lay-requires-clause-within
lay-requires-clause-within c =
    subst (λ places. All (λ i. i < length c.args.links.now) places) (sym c.requires.places)
    (subst (λ n. All (λ i. i < n)
    (places_where (one_of c.args.pair.first c.args.pair.second) 0 (plan_of c.args.links.now)))
    (plan-count c.args.links.now)
    (places-within (one_of c.args.pair.first c.args.pair.second) (plan_of c.args.links.now)))

pub lay-requires-clause-marks : goal.lay-requires-clause-marks
lay-requires-clause-marks c =
    let kind : ℕ → Bool = one_of c.args.pair.first c.args.pair.second in
    let places = places_where kind 0 (plan_of c.args.links.now) in
    let there = orders-there kind (plan_of c.args.links.now) c.args.orders.now.list.now
    (plan-length c.args.splitter.now c.args.orders.now.list.now (plan_of c.args.links.now)
    c.requires.legal) in
    c.better_split.auto.marks ∙ c.requires.marks ∙ ap length (c.requires.items ∙ sym there)
    ∙ length-map places _ ∙ sym (ap length c.requires.places)

pub lay-requires-clause-first : goal.lay-requires-clause-first
lay-requires-clause-first c =
    let long = linked-length c.args.splitter.now c.args.orders.now.list.now c.args.links.now
    c.requires.legal in
    omega (arith, long, c.requires.rise, c.requires.second)

pub lay-requires-clause-second : goal.lay-requires-clause-second
lay-requires-clause-second c =
    let below = c.in-Some-second_slab.ensures.some.below in
    omega (arith, below, plan-count c.args.links.now)

pub part_loads-first-requires-clause-few : goal.part_loads-first-requires-clause-few
part_loads-first-requires-clause-few c =
    let few : length (pair_orders c.args.orders.now.list.now (plan_of c.args.links.now)
    c.args.pair.first c.args.pair.second)
    ≤ length c.args.orders.now.list.now = chosen-length _ c.args.orders.now.list.now in
    subst (λ xs. length xs ≤ 1024) (sym c.requires.items) (omega (arith, few, c.requires.few))

-- the plan once the orders of the pair were moved
new-plan : (c : After-lay) → plan_of c.lay.new.links
    ≡ split_plan (one_of c.args.pair.first c.args.pair.second) c.better_split.new.marks
    c.args.pair.first c.in-Some-second_slab.c (plan_of c.args.links.now)
new-plan c =
    c.lay.ensures.plan
    ∙ ap (λ places. put_at places c.better_split.new.marks c.args.pair.first
    c.in-Some-second_slab.c (plan_of c.args.links.now)) c.requires.places
    ∙ put-places (one_of c.args.pair.first c.args.pair.second) c.args.pair.first
    c.in-Some-second_slab.c c.better_split.new.marks (plan_of c.args.links.now)

better : (c : After-lay) → IsBetter c.args.splitter.now
    (charge_of c.args.orders.now.charges.now) c.args.orders.now.list.now (plan_of c.args.links.now)
    (plan_of c.lay.new.links)
better c =
    let split = better-split c.args.splitter.now (charge_of c.args.orders.now.charges.now)
    c.args.orders.now.list.now (plan_of c.args.links.now)
    c.args.pair.first c.args.pair.second c.args.pair.loss c.in-Some.field-0
    c.args.gathered.now.items.now c.better_split.new.marks c.requires.items c.in-Some.ensures.split
    c.in-Some.ensures.less in
    subst (λ new. IsBetter c.args.splitter.now (charge_of c.args.orders.now.charges.now)
    c.args.orders.now.list.now (plan_of c.args.links.now) new) (sym (new-plan c))
    (move-betters c.args.splitter.now (charge_of c.args.orders.now.charges.now)
    c.args.orders.now.charges.now.free
    c.args.orders.now.list.now (plan_of c.args.links.now) c.args.pair.first c.args.pair.second
    c.in-Some-second_slab.c c.args.pair.loss
    c.requires.rise c.requires.second c.requires.used c.requires.legal c.requires.loss
    c.better_split.new.marks split c.in-Some-second_slab.ensures.some)

stay : (c : After-lay) → StayElsewhere c.args.pair.first c.in-Some-second_slab.c
    (plan_of c.args.links.now)
    (plan_of c.lay.new.links)
stay c = subst (λ new. StayElsewhere c.args.pair.first c.in-Some-second_slab.c
    (plan_of c.args.links.now) new) (sym (new-plan c))
    (others-stay (plan_of c.args.links.now) c.better_split.new.marks
    c.args.pair.first c.args.pair.second c.in-Some-second_slab.c c.requires.rise
    c.in-Some-second_slab.ensures.some)

pub returns-clause-second : goal.returns-clause-second
returns-clause-second c =
    let long = plan-length c.args.splitter.now c.args.orders.now.list.now (plan_of c.args.links.now)
    c.requires.legal in
    let below = c.in-Some-second_slab.ensures.some.below in
    omega (arith, below, long)

pub returns-clause-stay : goal.returns-clause-stay
returns-clause-stay c = stay c

pub returns-clause-less : goal.returns-clause-less
returns-clause-less c = (better c).1

pub returns-clause-legal : goal.returns-clause-legal
returns-clause-legal c = (better c).0

pub returns-clause-loads : goal.returns-clause-loads
returns-clause-loads c =
    let orders = c.args.orders.now.list.now in
    let plan = plan_of c.args.links.now in
    let marks = c.better_split.new.marks in
    let long = plan-length c.args.splitter.now orders plan c.requires.legal in
    let below = c.in-Some-second_slab.ensures.some.below in
    let slabs = split-slabs orders plan c.args.pair.first c.args.pair.second
    c.in-Some-second_slab.c c.requires.rise c.requires.used long marks
    (c.better_split.auto.marks ∙ c.requires.marks ∙ ap length c.requires.items)
    c.in-Some-second_slab.ensures.some in
    let load_in = (λ (s : ℕ) (part : List Bool)
    (is : slab s (split_plan (one_of c.args.pair.first c.args.pair.second) marks
    c.args.pair.first c.in-Some-second_slab.c plan) orders
    ≡ chosen part (pair_orders orders plan c.args.pair.first c.args.pair.second)).
    ap (λ items. load (chosen part items)) c.requires.items ∙ ap load (sym is)
    ∙ ap (λ new. load (slab s new orders)) (sym (new-plan c))) in
    loads-moved orders plan (plan_of c.lay.new.links) c.args.loads.now c.args.pair.first
    c.in-Some-second_slab.c c.part_loads-first.result.0 c.part_loads-first.result.1
    c.requires.loads (omega (arith, c.requires.rise, c.requires.second))
    (omega (arith, below, long))
    (λ s m n. ap (λ chosen_marks. chosen chosen_marks orders) (stay c s m n))
    (c.part_loads-first.ensures.first ∙ load_in c.args.pair.first marks slabs.0)
    (c.part_loads-first.ensures.second
    ∙ load_in c.in-Some-second_slab.c (complement marks) slabs.1)
