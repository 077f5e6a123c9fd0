use Rattle.std.proofs.Common.{rules, ◌<◌, length, set, subst, sym}
use Rattle.core_machine.specs.Core.{event}
use Rattle.core_replay.specs.Crew.{CrewState, Goes, IsReady, parts_of}
use Rattle.core_replay.proofs.CrewTurns.{crew-after, serves-worker, turn-goes}
use Rattle.core_replay.proofs.HandTurns.{same-hand}
use Rattle.core_replay.proofs.crew.Crew.turn.Goals as goal

pub step-requires-clause-serves : goal.step-requires-clause-serves
step-requires-clause-serves c =
    serves-worker c.self.inside.charges.now c.self.inside.hand c.self.inside.workers.items
    c.self.invariant c.args.number c.from.result (search rules)
    (subst (λ (s : CrewState). c.args.number < length s.core.workers) (sym c.self.view_is)
    c.requires.number)
    c.index_mut.result.now c.index_mut.ensures.value c.any_has_path-busy.result
    c.serve.new.self c.serve.ensures

pub invariant_of-self : goal.invariant_of-self
invariant_of-self c =
    crew-after c.self.inside.charges.now c.self.inside.hand c.self.inside.workers.items
    c.self.invariant c.args.number c.from.result (search rules)
    (subst (λ (s : CrewState). c.args.number < length s.core.workers) (sym c.self.view_is)
    c.requires.number)
    c.index_mut.result.now c.index_mut.ensures.value c.any_has_path-busy.result
    c.serve.new.self c.serve.ensures c.step.new.hand c.step.new.self
    (same-hand c.serve.new.self c.step.new.hand c.step.ensures.keeps.event
    c.step.ensures.keeps.happened)
    c.step.ensures.ranked c.step.ensures.charges c.step.ensures.number c.step.ensures.workers

pub returns-clause-event : goal.returns-clause-event
returns-clause-event c =
    subst (λ (s : CrewState). Goes c.step.result
    (event s.ranked s.charges s.budget s.core c.args.number)
    (record {
      shared = c.step.new.hand.shared;
      workers = parts_of (set c.self.inside.workers.items c.from.result c.step.new.self);
    })) c.self.view_is
    (turn-goes c.self.inside.charges.now c.self.inside.hand c.self.inside.workers.items
    c.self.invariant c.args.number c.from.result (search rules)
    (subst (λ (s : CrewState). c.args.number < length s.core.workers) (sym c.self.view_is)
    c.requires.number)
    c.index_mut.result.now c.index_mut.ensures.value c.any_has_path-busy.result
    c.serve.new.self c.serve.ensures (subst IsReady (sym c.self.view_is) c.requires.ready)
    (search rules) c.step.result c.step.new.self c.step.new.hand c.step.ensures.step)
