use Rattle.std.proofs.Common.{◌≡◌, ◌+◌, ◌∷◌, ◌∙◌, ◌+ℤ◌, drop, get_or, pos, arith, ap, SFits, w64}
use Rattle.std.proofs.Common.{to_z, to_z-of_z, rules, ℤ}
use Rattle.std.proofs.lemmas.Int.{ints}
use Rattle.std.proofs.lemmas.List.{drop_more}
use Rattle.list_laws.specs.Sets.{int_sum}
use Rattle.set_minima.proofs.CellNumbers.{fits-64}
use Rattle.log_checker.proofs.priced.sum_of.Goals as goal

pub loop-number-preserved : goal.loop-number-preserved
loop-number-preserved c =
    let i = c.loop-number.number-index in
    let y : ℤ = get_or c.args.numbers.now i (pos 0) in
    let s : ℤ = to_z w64 c.loop-number.sum-bits in
    let p = c.requires.small i (pos 0) c.loop-number-test.true in
    let b = c.loop-number.invariant.small in
    let f : SFits w64 y = search rules in
    let g : SFits w64 (s +ℤ y) =
    fits-64 (s +ℤ y) (omega (arith, ints, p.0, p.1, b.0, b.1, c.requires.few))
    (omega (arith, ints, p.0, p.1, b.0, b.1, c.requires.few)) in
    let d : drop i c.args.numbers.now ≡ y ∷ drop (i + 1) c.args.numbers.now =
    drop_more c.args.numbers.now i (pos 0) c.loop-number-test.true in
    let e : int_sum (drop i c.args.numbers.now) ≡ y +ℤ int_sum (drop (i + 1) c.args.numbers.now) =
    ap int_sum d in
    simp to_z-of_z (record {
      is = c.loop-number.invariant.is ∙ omega (arith, ints, e);
      small = (omega (arith, ints, p.0, p.1, b.0, b.1), omega (arith, ints, p.0, p.1, b.0, b.1));
    })
