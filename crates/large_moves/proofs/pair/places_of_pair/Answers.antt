use Rattle.std.proofs.Common.{◌≡◌, ◌∙◌, ◌++◌, drop, length, take, sym, ap, arith}
use Rattle.std.proofs.lemmas.List.{length-take-le}
use Rattle.std.proofs.Math.Seq.{take-append_seam}
use Rattle.mill_model.specs.Pairs.{one_of}
use Rattle.index_links.specs.Lists.{plan_of}
use Rattle.large_moves.proofs.PairPlaces.{sorted-places}
use Rattle.large_moves.proofs.pair.places_of_pair.Goals as goal

pub returns-clause-places : goal.returns-clause-places
returns-clause-places c =
    let written = take c.list_pair-count.result c.list_pair-count.new.places in
    let sorted = c.sort_places.new.places in
    let long : length sorted ≡ c.list_pair-count.result =
    c.sort_places.auto.places
    ∙ length-take-le c.list_pair-count.result c.list_pair-count.new.places
    (omega (
      arith,
      c.list_pair-count.ensures.within,
      c.list_pair-count.auto.places,
      c.requires.room,
    )) in
    ap (λ n. take n (sorted ++ drop c.list_pair-count.result c.list_pair-count.new.places))
    (sym long)
    ∙ take-append_seam sorted (drop c.list_pair-count.result c.list_pair-count.new.places)
    ∙ sorted-places (one_of c.args.a c.args.b) (plan_of c.args.links.now) written sorted
    c.list_pair-count.ensures.places c.sort_places.ensures.permutation
    c.sort_places.ensures.sorted
