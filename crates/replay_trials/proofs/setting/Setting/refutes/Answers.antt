use Rattle.std.proofs.Common.{◌≡◌, true, All, ℕ, List, length, sym, ap, subst, ◌∙◌}
use Rattle.std.proofs.lemmas.List.Elements.{All-from_recursion}
use Rattle.mill_model.specs.Conserved.{joined}
use Rattle.mill_model.specs.Rank.{Placed}
use Rattle.mill_model.specs.declared.closing.Entry.{Entry}
use Rattle.mill_laws.proofs.Merged.{each-joined}
use Rattle.mill_laws.proofs.Ranked.{rank-length}
use Rattle.refute_log.specs.Fits.{fits}
use Rattle.search_step.specs.Promise.{records_of}
use Rattle.replay_trials.proofs.setting.Setting.refutes.Goals as goal

-- the records of each piece fit as many orders as there are
pub merge-requires-clause-fit : goal.merge-requires-clause-fit
merge-requires-clause-fit c =
    let run = c.args.run in
    let kept = c.requires.is in
    let fit : ℕ → Entry → Type 0 = λ orders entry. fits orders entry ≡ true in
    let orders : ℕ = length c.args.self.now.ranked.placed in
    subst (λ (n : ℕ). All (fit n) (joined (records_of run))) (sym c.len.ensures.is)
    (All-from_recursion (fit orders) (joined (records_of run))
    (each-joined (fit orders) (records_of run) kept.fit))

pub check_log-requires-clause-orders : goal.check_log-requires-clause-orders
check_log-requires-clause-orders c =
    let setting = c.args.self.now in
    c.in_ok-log.ensures.orders ∙ c.len.ensures.is
    ∙ ap (λ (l : List Placed). length l) setting.ranks.placed
    ∙ rank-length 0 setting.instance.orders
