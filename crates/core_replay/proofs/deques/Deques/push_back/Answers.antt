use Rattle.std.proofs.Common.{arith, rules, ◌≡◌, ◌++◌, ◌∷◌, [], ap, length, set, subst}
use Rattle.std.proofs.Common.{◌∙◌}
use Rattle.core_replay.specs.Lists.{DequeLists, list_at, lists_of, with_list}
use Rattle.core_replay.proofs.DequeChanges.{pushed-back, unchanged, lists-length}
use Rattle.core_replay.proofs.deques.Deques.push_back.Goals as goal
use Rattle.core_replay.proofs.deques.Deques.push_back.Goals.{in-Ok, in-Err}

pub returns : goal.returns
returns c = elim c.match-push_back.branch [
  | in-Ok w ↦ rw w.result-is (subst (λ (d : DequeLists).
      record {
        ranked = c.self.inside.ranked.now;
        lists = lists_of (set c.self.inside.deques.items c.from.result c.push_back.new.self);
      } ≡ with_list d c.args.at (list_at d c.args.at ++ c.args.path ∷ [])) c.self.view_is
      (pushed-back c.self.inside.ranked.now c.self.inside.deques.items c.args.at c.from.result
      (search rules) c.index_mut.result.now c.push_back.new.self
      (omega (
        arith,
        c.requires.at,
        lists-length c.self.inside.deques.items,
        ap (λ (d : DequeLists). length d.lists) c.self.view_is,
      ))
      c.index_mut.ensures.value c.args.path w.in-Ok.ensures.items))
  | in-Err w ↦ rw w.result-is (
    search rules,
    unchanged c.self.inside.ranked.now c.self.inside.deques.items c.args.at c.from.result
        (search rules) c.index_mut.result.now c.push_back.new.self
        (omega (
          arith,
          c.requires.at,
          lists-length c.self.inside.deques.items,
          ap (λ (d : DequeLists). length d.lists) c.self.view_is,
        ))
        c.index_mut.ensures.value w.in-Err.ensures.items ∙ c.self.view_is,
  )
]
