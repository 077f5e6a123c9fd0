use Rattle.std.proofs.Common.{rules, ◌≡◌, ◌∙◌, sym, ap, Some, None, true, List, ℕ, subst, refl}
use Rattle.std.proofs.Common.{length}
use Rattle.search_step.specs.Decided.{Decides}
use Rattle.search_step.specs.Moves.{has_lengths}
use Rattle.search_step.specs.Parts.{Parts}
use Rattle.search_step.specs.Serving.{IsPathOf}
use Rattle.search_step.proofs.Closing.{closes-memory, closes-none}
use Rattle.search_step.proofs.Lengths.{verdict-lengths}
use Rattle.search_step.proofs.work.Work.close.Goals as goal

pub returns-in_default : goal.returns-in_default
returns-in_default c =
    let none : c.args.self.now.held ≡ None =
    sym (ap (λ (w : Parts). w.held) c.self.view_is) ∙ c.in_default.is in
    closes-none c.args.setting.now.ranked.now c.args.setting.now.charges.now c.args.self.now _ none
    (search rules)

pub commit-requires : goal.commit-requires
commit-requires c =
    let ranked = c.args.setting.now.ranked.now in
    let charges = c.args.setting.now.charges.now in
    let w : Parts = c.args.self.now in
    let held : w.held ≡ Some c.in-Some.path =
    sym (ap (λ (w : Parts). w.held) c.self.view_is) ∙ c.in-Some.is in
    let tree : IsPathOf ranked c.in-Some.path = c.requires.safe.held c.in-Some.path held in
    let decided : Decides ranked charges w.known w.store c.in-Some.path c.in-Ok.verdict =
    subst (λ (v : Parts). Decides ranked charges v.known v.store c.in-Some.path c.in-Ok.verdict)
    c.self.view_is c.in-Ok.ensures in
    let lengths = verdict-lengths ranked charges c.in-Some.path tree w.known w.store c.in-Ok.verdict
    c.requires.safe.stored decided in
    record {
      lengths = λ path e. subst (λ (n : ℕ). has_lengths n path c.in-Ok.verdict ≡ true)
          (sym c.requires.safe.orders)
          (subst (λ (p : List ℕ). has_lengths (length ranked.placed) p c.in-Ok.verdict ≡ true)
          (same c.in-Some.path path
          (sym held ∙ e)) lengths);
    }
  where
    same : (p q : List ℕ) → Some p ≡ Some q → p ≡ q
    same p q e = cc

pub returns-in-Err : goal.returns-in-Err
returns-in-Err c =
    closes-memory c.args.setting.now.ranked.now c.args.setting.now.charges.now c.args.self.now
    c.args.self.now refl
