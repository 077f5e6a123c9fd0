use Rattle.std.proofs.Common.{refl, rules, set, subst}
use Rattle.running_worker.specs.Running.{Running, Steals, place_of}
use Rattle.running_worker.proofs.Calls.{tries}
use Rattle.running_worker.proofs.running_hand.RunningHandHand.steal.Goals as goal

pub returns-clause-did : goal.returns-clause-did
returns-clause-did c =
    let after = set c.self.inside.thieves.items c.place_of-place.result c.steal-path.new.self in (
      subst (λ (h : Running). Steals h.thieves (place_of h.number c.args.victim)
          c.steal-path.result after) c.self.view_is
          (subst (λ place. Steals c.self.inside.thieves.items place c.steal-path.result after)
          c.place_of-place.ensures
          (record {
            there = search rules;
            thief = c.index_mut.result.now;
            is = search rules;
            next = c.steal-path.new.self;
            tries = tries c.index_mut.result.now c.steal-path.result c.steal-path.new.self
                c.steal-path.ensures.stolen c.steal-path.ensures.nothing;
            became = refl;
          })),
      search rules,
    )
