use Rattle.std.proofs.Common.{ℕ, ◌++◌, ◌∙◌, List, ap, flat_map}
use Rattle.search_step.specs.Worker.{WorkerParts}
use Rattle.core_machine.specs.Core.{pieces_of, unclosed_by, unclosed_of}
use Rattle.core_replay.specs.Crew.{CrewState, entries_of}
use Rattle.core_replay.proofs.CrewEnds.{pieces-parts, unclosed-parts}
use Rattle.core_replay.proofs.crew.Crew.leave.Goals as goal

pub returns-clause-pieces : goal.returns-clause-pieces
returns-clause-pieces c =
    c.in_ok-best.ensures.pieces
    ∙ ap (λ l. entries_of c.args.pieces.items ++ l) (pieces-parts c.self.inside.workers.items
    ∙ ap (λ (s : CrewState). pieces_of s.core) c.self.view_is)

pub returns-clause-unclosed : goal.returns-clause-unclosed
returns-clause-unclosed c =
    c.in_ok-empty_into.ensures
    ∙ ap (λ l. l ++ flat_map (λ (list : List (List ℕ)). list) c.self.inside.hand.shared.deques)
    (c.in_ok-best.ensures.unclosed
    ∙ ap (λ l. l ++ flat_map (λ (w : WorkerParts). unclosed_by w.parts)
    c.self.inside.workers.items) c.new-unclosed.ensures.items
    ∙ unclosed-parts c.self.inside.workers.items)
    ∙ ap (λ (s : CrewState). unclosed_of s.core) c.self.view_is
