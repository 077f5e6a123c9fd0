use Rattle.std.proofs.Common.{sym, subst}
use Rattle.search_step.specs.Honest.{IsHonest}
use Rattle.search_step.specs.Parts.{Parts}
use Rattle.search_step.proofs.StaysHonest.{new-honest}
use Rattle.search_step.proofs.worker.Worker.new.Goals as goal

pub returns-clause-honest : goal.returns-clause-honest
returns-clause-honest c =
    let ranked = c.args.ranked.now in
    let charges = c.args.charges.now in
    let loss = c.args.loss in
    subst (λ (w : Parts). IsHonest ranked charges loss w) (sym c.new-work.ensures)
    (new-honest ranked charges c.args.workers c.len.result loss c.args.number)
