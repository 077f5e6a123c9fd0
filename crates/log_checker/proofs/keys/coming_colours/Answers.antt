use Rattle.std.proofs.Common.{◌≡◌, ◌+◌, ◌≤◌, length, get_or, arith, drop}
use Rattle.std.proofs.Common.{take, refl, Bool, true, false}
use Rattle.std.proofs.lemmas.List.{take_all}
use Rattle.std.proofs.lemmas.List.Sorted.{IsNonDecreasingBy-from_sort}
use Rattle.mill_model.specs.LiveKey.{has_colour}
use Rattle.log_checker.proofs.ComingColours.{note-more, coming-from}
use Rattle.log_checker.proofs.keys.coming_colours.Goals as goal

pub loop-i-preserved : goal.loop-i-preserved
loop-i-preserved c =
    let n : length c.colours-colours.result.now ≤ 8 = rw c.colours-colours.ensures c.requires.few in
    let r = note-more (has_colour (drop c.args.k c.args.rules.now.ranked.items))
    c.colours-colours.result.now c.loop-i.coming c.note_coming-count.new.coming c.loop-i.i
    c.loop-i.count c.note_coming-count.result (get_or c.colours-colours.result.now c.loop-i.i 0)
    c.comes-comes.result c.loop-i-test.true (λ j. get_or c.colours-colours.result.now c.loop-i.i 0)
    c.comes-comes.ensures c.loop-i.invariant.count
    (omega (arith, c.loop-i.invariant.few, c.loop-i-test.true)) c.loop-i.invariant.is
    c.note_coming-count.ensures.there c.note_coming-count.ensures.not_there in
    let less : c.note_coming-count.result ≤ c.loop-i.i + 1 = grow c.comes-comes.result refl in
    record { count = r.0; is = r.1; few = less; fits = λ j h. (c.type_inv.colours j).fits }
  where
    grow : (b : Bool) → c.comes-comes.result ≡ b → c.note_coming-count.result ≤ c.loop-i.i + 1
    grow true e = omega (arith, (c.note_coming-count.ensures.there e).1, c.loop-i.invariant.few)
    grow false e =
        omega (arith, (c.note_coming-count.ensures.not_there e).1, c.loop-i.invariant.few)

pub returns : goal.returns
returns c =
    let cs = c.colours-colours.result.now in
    let test = has_colour (drop c.args.k c.args.rules.now.ranked.items) in
    let n : length cs ≤ 8 = rw c.colours-colours.ensures c.requires.few in
    let all : take c.loop-i.i cs ≡ cs = take_all c.loop-i.i cs c.loop-i-test.false in
    let count = rw all at c.loop-i.invariant.count in
    let is = rw all at c.loop-i.invariant.is in
    rw (← c.colours-colours.ensures) (coming-from test cs c.loop-i.coming c.sort_unstable.new.self
    c.loop-i.count
    (rw c.colours-colours.ensures c.requires.once) n count is c.loop-i-test.array_long
    (λ i h. c.loop-i.invariant.fits i (omega (arith, c.loop-i-test.false)))
    c.sort_unstable.ensures.permutation
    (IsNonDecreasingBy-from_sort (λ x. x) c.sort_unstable.new.self c.sort_unstable.ensures.sorted))
