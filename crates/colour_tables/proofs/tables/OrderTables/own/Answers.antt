-- Where the search found a colour, it is held by its number; else no order to come has it.
use Rattle.std.proofs.Common.{rules}
use Rattle.colour_tables.proofs.KnownColours.{bare-known, first-known, neither-known, place-held}
use Rattle.colour_tables.proofs.KnownColours.{second-known, two-held}
use Rattle.colour_tables.proofs.tables.OrderTables.own.Goals as goal

pub returns-in-Some-clause-held : goal.returns-in-Some-clause-held
returns-in-Some-clause-held c =
    place-held c.self.invariant c.self.view_is c.deref.ensures.value c.in-Some.d
    c.find_colour-first.ensures (search rules)

pub returns-in-None-clause-is : goal.returns-in-None-clause-is
returns-in-None-clause-is c =
    bare-known c.self.invariant c.self.view_is c.deref.ensures.value c.if-colours-eq1.true
    c.find_colour-first.ensures (search rules)

pub returns-in-Some-Some-clause-held : goal.returns-in-Some-Some-clause-held
returns-in-Some-Some-clause-held c =
    two-held c.self.invariant c.self.view_is c.deref.ensures.value c.deref-2.ensures.value
    c.args.colours.now c.requires.some c.requires.few c.if-colours-eq1.false c.requires.apart
    c.find_colour-first.ensures c.find_colour.ensures c.in-Some-Some.d
    c.in-Some-Some.e (search rules) (search rules)

pub returns-in-Some-None-clause-held : goal.returns-in-Some-None-clause-held
returns-in-Some-None-clause-held c =
    place-held c.self.invariant c.self.view_is c.deref.ensures.value c.in-Some-None.d
    c.find_colour-first.ensures (search rules)

pub returns-in-Some-None-clause-is : goal.returns-in-Some-None-clause-is
returns-in-Some-None-clause-is c =
    first-known c.self.invariant c.self.view_is c.deref.ensures.value c.deref-2.ensures.value
    c.args.colours.now c.requires.some c.requires.few c.if-colours-eq1.false c.requires.apart
    c.find_colour-first.ensures c.find_colour.ensures c.in-Some-None.d
    (search rules) (search rules)

pub returns-in-None-Some-clause-held : goal.returns-in-None-Some-clause-held
returns-in-None-Some-clause-held c =
    place-held c.self.invariant c.self.view_is c.deref-2.ensures.value c.in-None-Some.e
    c.find_colour.ensures (search rules)

pub returns-in-None-Some-clause-is : goal.returns-in-None-Some-clause-is
returns-in-None-Some-clause-is c =
    second-known c.self.invariant c.self.view_is c.deref.ensures.value c.deref-2.ensures.value
    c.args.colours.now c.requires.some c.requires.few c.if-colours-eq1.false c.requires.apart
    c.find_colour-first.ensures c.find_colour.ensures c.in-None-Some.e
    (search rules) (search rules)

pub returns-in-None-None-clause-is : goal.returns-in-None-None-clause-is
returns-in-None-None-clause-is c =
    neither-known c.self.invariant c.self.view_is c.deref.ensures.value c.deref-2.ensures.value
    c.args.colours.now c.requires.some c.requires.few c.if-colours-eq1.false c.requires.apart
    c.find_colour-first.ensures c.find_colour.ensures (search rules)
    (search rules)
