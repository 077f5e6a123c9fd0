use Rattle.std.proofs.Common.{arith, rules, ◌≡◌, ap, length, set, subst}
use Rattle.search_step.specs.Moves.{last_of, front}
use Rattle.core_replay.specs.Lists.{DequeLists, list_at, lists_of, with_list}
use Rattle.core_replay.proofs.DequeChanges.{popped-back, none-there, lists-length}
use Rattle.core_replay.proofs.deques.Deques.pop_back.Goals as goal

pub returns-clause-is : goal.returns-clause-is
returns-clause-is c =
    subst (λ (d : DequeLists). c.pop_back.result ≡ last_of (list_at d c.args.at)) c.self.view_is
    (popped-back c.self.inside.ranked.now c.self.inside.deques.items c.args.at c.from.result
    (search rules) c.index_mut.result.now c.pop_back.new.self
    (omega (
      arith,
      c.requires,
      lists-length c.self.inside.deques.items,
      ap (λ (d : DequeLists). length d.lists) c.self.view_is,
    )) c.index_mut.ensures.value
    c.pop_back.result c.pop_back.ensures.items
    (none-there _ c.pop_back.result _ _ _ c.pop_back.ensures.cases
    (omega (arith, c.index_mut.result.now.ok.0)))).0

pub returns-clause-rest : goal.returns-clause-rest
returns-clause-rest c =
    subst (λ (d : DequeLists).
    record {
      ranked = c.self.inside.ranked.now;
      lists = lists_of (set c.self.inside.deques.items c.from.result c.pop_back.new.self);
    } ≡ with_list d c.args.at (front (list_at d c.args.at))) c.self.view_is
    (popped-back c.self.inside.ranked.now c.self.inside.deques.items c.args.at c.from.result
    (search rules) c.index_mut.result.now c.pop_back.new.self
    (omega (
      arith,
      c.requires,
      lists-length c.self.inside.deques.items,
      ap (λ (d : DequeLists). length d.lists) c.self.view_is,
    )) c.index_mut.ensures.value
    c.pop_back.result c.pop_back.ensures.items
    (none-there _ c.pop_back.result _ _ _ c.pop_back.ensures.cases
    (omega (arith, c.index_mut.result.now.ok.0)))).1
