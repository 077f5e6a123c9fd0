-- Order by order: a front of the list is written, and the next order is the one behind it.
use Rattle.std.proofs.Common.{◌-◌, ◌≡◌, ◌∙◌, ◌++◌, Some, length, sym, ap, arith}
use Rattle.std.proofs.Common.{take}
use Rattle.std.proofs.Math.Seq.{take-length}
use Rattle.std.specs.List.{slice_get}
use Rattle.std.proofs.lemmas.Option.{slice_get_within}
use Rattle.index_links.specs.Lists.{list_at}
use Rattle.index_links.proofs.Members.{at-place, past-end, written-more}
use Rattle.index_links.proofs.slab_links.SlabLinks.write_list.Goals as goal

pub next-next-requires : goal.next-next-requires
next-next-requires c = (at-place c.args.self.now c.loop-next.invariant.kept c.args.slab
    (c.loop-next.end - c.args.from) c.in-Some.order c.requires.slab
    (sym c.loop-next.invariant.next ∙ c.in-Some.is)).0

pub loop-next-smaller : goal.loop-next-smaller
loop-next-smaller c =
    let within = slice_get_within (list_at c.args.self.now c.args.slab)
    (c.loop-next.end - c.args.from) c.in-Some.order
    (sym c.loop-next.invariant.next ∙ c.in-Some.is) in
    omega (arith, within, c.loop-next.invariant.begun)

pub loop-next-preserved : goal.loop-next-preserved
loop-next-preserved c =
    let list = list_at c.args.self.now c.args.slab in
    let here : slice_get list (c.loop-next.end - c.args.from) ≡ Some c.in-Some.order =
    sym c.loop-next.invariant.next ∙ c.in-Some.is in
    let within = slice_get_within list (c.loop-next.end - c.args.from) c.in-Some.order here in
    let behind = at-place c.args.self.now c.loop-next.invariant.kept c.args.slab
    (c.loop-next.end - c.args.from) c.in-Some.order c.requires.slab here in
    record {
      next = c.next-next.ensures.is ∙ behind.1 ∙ ap (slice_get list) (omega (
        arith,
        c.loop-next.invariant.begun,
      ));
      begun = omega (arith, c.loop-next.invariant.begun);
      within = omega (arith, within, c.loop-next.invariant.begun);
      written = written-more list c.loop-next.places _ c.args.from c.loop-next.end c.in-Some.order
          c.loop-next.invariant.begun
          (omega (
            arith,
            within,
            c.loop-next.invariant.begun,
            c.requires.room,
            c.loop-next.auto.places,
          ))
          here c.loop-next.invariant.written;
      kept = c.loop-next.invariant.kept;
    }

pub returns-clause-end : goal.returns-clause-end
returns-clause-end c =
    let past = past-end (list_at c.args.self.now c.args.slab) (c.loop-next.end - c.args.from)
    (sym c.loop-next.invariant.next ∙ c.in_default.is) in
    omega (arith, past, c.loop-next.invariant.begun, c.loop-next.invariant.within)

pub returns-clause-list : goal.returns-clause-list
returns-clause-list c =
    let list = list_at c.args.self.now c.args.slab in
    let past = past-end list (c.loop-next.end - c.args.from)
    (sym c.loop-next.invariant.next ∙ c.in_default.is) in
    let whole : c.loop-next.end - c.args.from ≡ length list =
    omega (arith, past, c.loop-next.invariant.begun, c.loop-next.invariant.within) in
    c.loop-next.invariant.written
    ∙ ap (λ k. take c.args.from c.args.places.now ++ take k list) whole
    ∙ ap (λ xs. take c.args.from c.args.places.now ++ xs) (take-length list)
