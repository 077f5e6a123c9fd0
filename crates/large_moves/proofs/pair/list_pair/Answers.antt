use Rattle.std.proofs.Common.{◌≡◌, ◌≢◌, ◌∙◌, ◌++◌, eqb, length-append, sym, subst, ap, arith}
use Rattle.list_laws.specs.Sets.{SameTimes}
use Rattle.mill_model.specs.Pairs.{one_of}
use Rattle.index_links.specs.Lists.{list_at, places_where, plan_of}
use Rattle.index_links.proofs.Members.{list-few, list-places, lists-few, lists-places}
use Rattle.large_moves.proofs.pair.list_pair.Goals as goal

pub write_list-end-requires-clause-room : goal.write_list-end-requires-clause-room
write_list-end-requires-clause-room c =
    let few = list-few c.args.links.now c.requires.lists c.args.a
    (omega (arith, c.requires.rise, c.requires.second)) in
    omega (arith, few, c.requires.room)

pub write_list-requires-clause-room : goal.write_list-requires-clause-room
write_list-requires-clause-room c =
    let ne : c.args.a ≢ c.args.b = (λ e. absurd (omega (arith, e, c.if-a-b.true))) in
    let few = lists-few c.args.links.now c.requires.lists c.args.a c.args.b
    (omega (arith, c.requires.rise, c.requires.second)) c.requires.second ne in
    let both = length-append (list_at c.args.links.now c.args.a)
    (list_at c.args.links.now c.args.b) in
    omega (
      arith,
      few,
      both,
      c.requires.room,
      c.write_list-end.ensures.end,
      c.write_list-end.auto.places,
    )

pub returns-then-a-b-clause-places : goal.returns-then-a-b-clause-places
returns-then-a-b-clause-places c =
    let ne : c.args.a ≢ c.args.b = (λ e. absurd (omega (arith, e, c.if-a-b.true))) in
    let both = c.write_list.ensures.list
    ∙ ap (λ xs. xs ++ list_at c.args.links.now c.args.b) c.write_list-end.ensures.list in
    subst (λ xs. SameTimes eqb xs
    (places_where (one_of c.args.a c.args.b) 0 (plan_of c.args.links.now))) (sym both)
    (lists-places c.args.links.now c.requires.lists c.args.a c.args.b
    (omega (arith, c.requires.rise, c.requires.second)) c.requires.second ne)

pub returns-else-a-b-clause-places : goal.returns-else-a-b-clause-places
returns-else-a-b-clause-places c =
    let same : c.args.a ≡ c.args.b = omega (arith, c.requires.rise, c.if-a-b.false) in
    subst (λ xs. SameTimes eqb xs
    (places_where (one_of c.args.a c.args.b) 0 (plan_of c.args.links.now)))
    (sym c.write_list-end.ensures.list)
    (subst (λ b. SameTimes eqb (list_at c.args.links.now c.args.a)
    (places_where (one_of c.args.a b) 0 (plan_of c.args.links.now))) same
    (list-places c.args.links.now c.requires.lists c.args.a
    (omega (arith, c.requires.rise, c.requires.second))))
