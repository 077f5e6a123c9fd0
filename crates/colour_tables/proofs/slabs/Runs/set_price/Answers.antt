use Rattle.std.proofs.Common.{◌-◌, ◌≤◌, slice_index_or, ap, sym, subst, refl, length-set, SFits}
use Rattle.std.proofs.Common.{w64, to_z-of_z, rules}
use Rattle.colour_tables.specs.Items.{item_at}
use Rattle.colour_tables.specs.Owned.{IsInRun}
use Rattle.colour_tables.specs.declared.items.Item.{Item}
use Rattle.colour_tables.proofs.OneItemPriced.{default-is, part-repriced, part-small, in-one-run}
use Rattle.colour_tables.proofs.slabs.Runs.set_price.Goals as goal

pub returns-clause-is : goal.returns-clause-is
returns-clause-is c rest prices name present d runs once held in_run here at x h =
    let f : SFits w64 c.args.price = search rules in
    let xs = c.args.self.now.items.items in
    let r = c.index_mut.result.now in
    let i = c.args.at in
    let e = default-is xs i r c.requires.here c.index_mut.ensures.value in
    let ends = slice_index_or c.args.self.now.ends.items x (0, 0) in
    simp to_z-of_z (part-repriced xs i
    (record { place = r.place; weight = r.weight; price = c.args.price }) c.requires.here
    (ap (λ (t : Item). t.place) e) (ap (λ (t : Item). t.weight) e) ends.0 (ends.1 - ends.0)
    rest prices (name x) (item_at xs i).place (runs x h) here refl
    (in-one-run rest name present d x (item_at xs i).place (IsInRun c.args.self.now x i) once held h
    at (λ q. subst (λ z. IsInRun c.args.self.now z i) (sym q) in_run)))

pub returns-clause-safe : goal.returns-clause-safe
returns-clause-safe c x safe =
    let f : SFits w64 c.args.price = search rules in
    let xs = c.args.self.now.items.items in
    let r = c.index_mut.result.now in
    let i = c.args.at in
    let e = default-is xs i r c.requires.here c.index_mut.ensures.value in
    let ends = slice_index_or c.args.self.now.ends.items x (0, 0) in
    simp to_z-of_z (record {
      here = safe.here;
      order = safe.order;
      ends = subst (λ z. ends.1 ≤ z) (sym (length-set xs i _)) safe.ends;
      small = part-small xs i
          (record { place = r.place; weight = r.weight; price = c.args.price }) c.requires.here
          (ap (λ (t : Item). t.place) e) (ap (λ (t : Item). t.weight) e) c.requires.price
          ends.0 (ends.1 - ends.0) safe.small;
    })
