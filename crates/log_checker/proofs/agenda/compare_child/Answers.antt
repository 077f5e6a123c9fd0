use Rattle.std.proofs.Common.{◌≡◌, ◌⊎◌, ◌∷◌, [], ◌∙◌, length, take, drop, sym, rules, arith}
use Rattle.std.proofs.Common.{inl, inr}
use Rattle.std.proofs.lemmas.Bool.{cases_lt}
use Rattle.std.specs.Ordering.{ordering_then}
use Rattle.refute_log.specs.Rising.{path_order}
use Rattle.log_checker.proofs.ChildOrder.{order-by-front}
use Rattle.log_checker.proofs.agenda.compare_child.Goals as goal

pub returns : goal.returns
returns c =
    let parent = c.args.parent.now in
    let path = c.args.path.now in
    let n = c.min.result in
    let end : (n ≡ length parent) ⊎ (n ≡ length path) =
    elim (cases_lt (length path) (length parent)) [
      | inl l ↦ inr (omega (arith, c.min.ensures))
      | inr l ↦ inl (omega (arith, c.min.ensures))
    ] in
    let both : c.then.result
    ≡ ordering_then (path_order parent (take n path))
    (path_order (c.args.group ∷ []) (drop n path)) = search rules in
    both ∙ sym (order-by-front parent (c.args.group ∷ []) path n (omega (arith, c.min.ensures))
    (omega (arith, c.min.ensures)) end)
