use Rattle.std.proofs.Common.{[], sym, ap, ◌∙◌}
use Rattle.std.proofs.lemmas.List.{append-nil}
use Rattle.mill_io.proofs.Fronts.{front-kept, kept-is-held}
use Rattle.mill_io.proofs.memory.MemSinkSink.write_all.Goals as goal
use Rattle.mill_io.proofs.memory.MemSinkSink.write_all.Goals.{
  else-not-is_listed-via-then-not-is_listed+else-keep,
  else-not-is_listed-via-else-not-is_listed,
}

pub returns-clause-err : goal.returns-clause-err
returns-clause-err c =
    let before = ap (λ store. store.kept) c.self.view_is in
    elim c.else-not-is_listed.branch [
      -- not all of the piece fits
      | else-not-is_listed-via-then-not-is_listed+else-keep w ↦
          front-kept _ _ _ _
          (ap (λ inside. inside.kept.items) w.self-inside-is ∙ rw before at w.keep.ensures.keeps)
      -- the write is listed
      | else-not-is_listed-via-else-not-is_listed w ↦
          front-kept _ _ _ 0
          (ap (λ inside. inside.kept.items) w.self-inside-is ∙ before ∙ sym (append-nil _))
    ]

pub returns-then-keep-clause-held : goal.returns-then-keep-clause-held
returns-then-keep-clause-held c =
    let before = ap (λ store. store.kept) c.self.view_is in
    kept-is-held _ _ _ (rw before at c.keep.ensures.keeps)

pub returns-clause-held : goal.returns-clause-held
returns-clause-held c =
    let before = ap (λ store. store.kept) c.self.view_is in
    elim c.else-not-is_listed.branch [
      -- not all of the piece fits
      | else-not-is_listed-via-then-not-is_listed+else-keep w ↦
          kept-is-held _ _ _
          (ap (λ inside. inside.kept.items) w.self-inside-is ∙ rw before at w.keep.ensures.keeps)
      -- the write is listed
      | else-not-is_listed-via-else-not-is_listed w ↦
          kept-is-held _ _ []
          (ap (λ inside. inside.kept.items) w.self-inside-is ∙ before ∙ sym (append-nil _))
    ]
