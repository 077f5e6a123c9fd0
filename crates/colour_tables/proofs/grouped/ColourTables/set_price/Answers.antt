use Rattle.std.proofs.Common.{◌∙◌, ◌+◌, false, refl, sym, ap}
use Rattle.list_laws.proofs.Tests.{clash}
use Rattle.colour_tables.proofs.GroupsKnown.{still-known}
use Rattle.colour_tables.proofs.grouped.ColourTables.set_price.Goals as goal

pub invariant_of-self : goal.invariant_of-self
invariant_of-self c =
    let t = c.self.inside in
    let i = c.self.invariant in
    let s = c.set_price.ensures in
    let r = c.ready_turn.ensures.turn in
    let wide = ap (λ n. n + 1) (sym s.largest) in
    record {
      count = i.count;
      groups_known =
          still-known t.tables c.set_price.new.self s.rest s.colours s.largest t.groups.now
          t.slabs.items i.groups_known;
      alone = s.alone ∙ r.alone ∙ wide;
      beside = s.beside ∙ r.beside ∙ wide;
      begun = λ e. absurd (clash false e refl);
      room = i.room ∙ wide;
    }
