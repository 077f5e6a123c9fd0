use Rattle.std.proofs.Common.{◌≡◌, ◌+◌, ◌∙◌, ◌∷◌, ◌++◌, [], length, length-append, rules, arith, ap}
use Rattle.std.proofs.Common.{sym, subst}
use Rattle.list_laws.specs.Sets.{holds}
use Rattle.std.proofs.lemmas.List.{get_or_default}
use Rattle.slab_rules.specs.OpenSlab.{Carries, empty_on}
use Rattle.colour_tables.specs.Leasts.{two_colours}
use Rattle.colour_tables.specs.Grouped.{AreKnown, group_at}
use Rattle.colour_tables.proofs.GroupsKnown.{one-more-known}
use Rattle.colour_tables.proofs.grouped.known_slabs.Goals as goal

pub loop-g-preserved : goal.loop-g-preserved
loop-g-preserved c =
    let groups = c.args.groups.now in
    let slabs = c.loop-g.slabs.items in
    let e : c.push.new.self.items ≡ c.loop-g.slabs.items ++ c.slab.result ∷ [] = search rules in
    let n : length c.loop-g.slabs.items ≡ c.loop-g.g = c.loop-g.invariant.count in
    let here : group_at c.args.groups.now (length c.loop-g.slabs.items) ≡ c.index-groups-g.result =
    subst (λ k. group_at c.args.groups.now k ≡ c.index-groups-g.result) (sym n)
    (get_or_default c.args.groups.now c.loop-g.g (empty_on (two_colours 0)) c.index-groups-g.result
    (search rules) ∙ sym c.index-groups-g.is) in
    record {
      count =
          ap length e ∙ length-append slabs (c.slab.result ∷ []) ∙ ap (λ k. k + 1) n;
      inside = omega (arith, c.loop-g-test.true);
      known =
          subst (λ xs. AreKnown c.args.tables.now groups xs) (sym e)
          (one-more-known c.args.tables.now groups slabs c.slab.result c.loop-g.invariant.known
          c.slab.ensures.known (λ group carries.
          let k = subst (λ slab. Carries slab group) here carries in
          c.slab.ensures.is group (record {
            weighs = sym (c.load.ensures.is ∙ k.weight);
            same = λ x. ap (holds x) c.colours.ensures.is ∙ k.each x;
          })));
    }
