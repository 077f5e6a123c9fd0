-- Group by group: each has what its load is charged, which is a small number.
use Rattle.std.proofs.Common.{◌≡◌, ◌+◌, ◌*◌, ◌∙◌, ◌++◌, ◌∷◌, [], ℕ, ℤ, pos, length}
use Rattle.std.proofs.Common.{length-append, All, get_or, subst}
use Rattle.std.proofs.Common.{ap, sym, arith, inl, inr, to_z, w64}
use Rattle.std.proofs.lemmas.Bool.{cases_lt}
use Rattle.std.proofs.lemmas.Int.{ints}
use Rattle.std.proofs.lemmas.List.{get_or_push, get_or_append_left}
use Rattle.std.proofs.lemmas.List.Elements.{All-push}
use Rattle.log_checker.specs.ByRules.{charge_by}
use Rattle.log_checker.specs.PathGroups.{group_of}
use Rattle.set_minima.specs.Cells.{IsSmall, slack_limit}
use Rattle.log_checker.proofs.priced.charges_of.Goals as goal

pub loop-g-preserved : goal.loop-g-preserved
loop-g-preserved c =
    let z : ℤ = to_z w64 (60 * c.charge_of.result) in
    let is : z ≡ pos (60 * c.charge_of.result) = omega (arith, ints, c.charge_of.ensures.small) in
    let items : c.push.new.self.items ≡ c.loop-g.slacks.items ++ z ∷ [] =
    c.in_ok-push.ensures.items in
    let long : length c.push.new.self.items ≡ c.loop-g.g + 1 =
    ap length items ∙ length-append c.loop-g.slacks.items (z ∷ [])
    ∙ ap (λ n. n + 1) c.loop-g.invariant.long in
    let small : IsSmall slack_limit z = (
      omega (arith, ints, is, c.charge_of.ensures.small),
      omega (
        arith,
        ints,
        is,
        c.charge_of.ensures.small,
      ),
    ) in
    let charged : ℕ → ℕ = λ g. charge_by c.args.path.now.rules.now
    (group_of c.args.path.now g).load in
    let new : z ≡ pos (60 * charged c.loop-g.g) =
    is ∙ ap (λ n. pos (60 * n)) c.charge_of.ensures.is in
    record {
      long = long;
      small = subst (All (IsSmall slack_limit)) (sym items)
          (All-push (IsSmall slack_limit) c.loop-g.slacks.items z c.loop-g.invariant.small
          small);
      each = λ g l. elim (cases_lt g c.loop-g.g) [
        | inl h ↦ ap (λ xs. get_or xs g (pos 0)) items
            ∙ get_or_append_left c.loop-g.slacks.items (z ∷ []) (pos 0) g
            (omega (arith, c.loop-g.invariant.long))
            ∙ c.loop-g.invariant.each g h
        | inr h ↦ (let e : c.loop-g.g ≡ g = omega arith in
            ap (λ xs. get_or xs g (pos 0)) items
            ∙ get_or_push c.loop-g.slacks.items z (pos 0) g (c.loop-g.invariant.long ∙ e)
            ∙ subst (λ k. z ≡ pos (60 * charged k)) e new)
      ];
    }
