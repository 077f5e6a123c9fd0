-- The rank's mill is the problem's, and the table's charge is that of the definition, so what is
-- said of the start by the ones holds by the others.
use Rattle.std.proofs.Common.{◌≤◌, sym, subst}
use Rattle.mill_model.specs.Charges.{Reaches, charge_of}
use Rattle.mill_model.specs.Instance.{largest, mill_of}
use Rattle.mill_model.specs.Pairs.{IsPossibleStart}
use Rattle.instance_facts.proofs.Charged.{table-is-charge}
use Rattle.solve_answer.proofs.PossibleStarts.{ranked-each}
use Rattle.solve_answer.proofs.start.beginning_of.Goals as goal

pub start_of-requires-clause-light : goal.start_of-requires-clause-light
start_of-requires-clause-light c =
    let problem = c.args.instance.now in
    let rank = c.in_ok-ranked.ensures in
    rw (rank.placed, rank.mill) (ranked-each (λ order. order.weight ≤ largest problem.sizes)
    problem.orders c.requires.light)

pub start_of-requires-clause-reach : goal.start_of-requires-clause-reach
start_of-requires-clause-reach c =
    subst (Reaches c.in_ok-charges.charges) (sym c.in_ok-ranked.ensures.mill)
    c.in_ok-charges.ensures.reach

pub returns : goal.returns
returns c =
    let problem = c.args.instance.now in
    let charges = c.in_ok-charges.charges in
    let charged = c.in_ok-charges.ensures in
    let rank = c.in_ok-ranked.ensures in
    let start = c.in_ok-start.start in
    let possible : IsPossibleStart (mill_of problem) (charge_of charges) problem.orders
    c.args.moves start.plan =
    subst (λ mill. IsPossibleStart mill (charge_of charges) problem.orders c.args.moves start.plan)
    rank.mill (c.in_ok-start.ensures.possible problem.orders rank.placed) in
    record {
      beginning = record {
        charged = charged;
        ranked = rank;
        begins = record { plan = c.in_ok-start.ensures.start };
        possible = subst (λ charge. IsPossibleStart (mill_of problem) charge problem.orders
            c.args.moves start.plan) (table-is-charge problem charges charged) possible;
      };
    }
