use Rattle.std.proofs.Common.{arith, rules, ◌≡◌, ap, length, set, subst}
use Rattle.core_machine.specs.Core.{tail_of}
use Rattle.core_replay.specs.Lists.{DequeLists, list_at, lists_of, with_list}
use Rattle.core_replay.proofs.DequeChanges.{popped-front, none-there, lists-length}
use Rattle.core_replay.proofs.deques.Deques.pop_front.Goals as goal

pub returns-clause-rest : goal.returns-clause-rest
returns-clause-rest c =
    subst (λ (d : DequeLists).
    record {
      ranked = c.self.inside.ranked.now;
      lists = lists_of (set c.self.inside.deques.items c.from.result c.pop_front.new.self);
    } ≡ with_list d c.args.at (tail_of (list_at d c.args.at))) c.self.view_is
    (popped-front c.self.inside.ranked.now c.self.inside.deques.items c.args.at c.from.result
    (search rules) c.index_mut.result.now c.pop_front.new.self
    (omega (
      arith,
      c.requires,
      lists-length c.self.inside.deques.items,
      ap (λ (d : DequeLists). length d.lists) c.self.view_is,
    )) c.index_mut.ensures.value
    c.pop_front.result c.pop_front.ensures.items
    (none-there _ c.pop_front.result _ _ _ c.pop_front.ensures.cases
    (omega (arith, c.index_mut.result.now.ok.0)))).1
