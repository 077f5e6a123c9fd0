-- The layers have the orders whose colours the slab lacks, up to so many colours as it may still
-- take; the last of them reaches to the slab's room.
use Rattle.std.proofs.Common.{◌≡◌, suc, ◌+◌, ◌-◌, length, take, arith, subst, SFits, w64, to_z-of_z}
use Rattle.std.proofs.Common.{rules}
use Rattle.std.proofs.lemmas.List.{length-take}
use Rattle.mill_model.specs.Charges.{charge_of}
use Rattle.set_minima.specs.Packs.{IsTop}
use Rattle.set_minima.specs.Joins.{gain, Packed, all_but}
use Rattle.set_minima.specs.Cells.{found}
use Rattle.set_minima.proofs.Gains.{joins-top}
use Rattle.knap_bound.proofs.gains.greatest_gain.Goals as goal

pub returns-clause-top : goal.returns-clause-top
returns-clause-top c =
    let packing = c.args.packing.now in
    let rest = packing.rest.now in
    let kept = all_but packing.skip in
    let own = c.args.own.now in
    let gains = gain (charge_of c.args.charges.now) c.args.base rest packing.prices.now in
    let width = c.args.largest - c.args.base + 1 in
    let free = c.args.most - length own in
    let best = c.joined_gain.result in
    let f : SFits w64 best = search rules in
    let long : length c.fill_front.new.one ≡ length c.args.one.now = c.fill_front.auto.one in
    let front = length-take width c.fill_front.new.one in
    let wide : length (take width c.fill_front.new.one) ≡ width =
    omega (arith, long, front, c.requires.one, c.requires.base) in
    let top = rw wide at (c.joined_gain.ensures.top free c.requires.once) in
    let packed : IsTop (Packed kept own (free + length own) rest c.args.low width) gains
    (found best)
    = top (c.fill_front.ensures.best free (omega arith)) in
    let all : free + length own ≡ c.args.most = omega (arith, c.requires.colours) in
    let e : width ≡ suc (c.args.largest - c.args.base) = omega arith in
    simp to_z-of_z (joins-top kept c.args.low c.args.largest c.args.base c.args.most own rest
    packing.prices.now (charge_of c.args.charges.now) (found best) c.requires.base
    (subst (λ w. IsTop (Packed kept own c.args.most rest c.args.low w) gains (found best)) e
    (subst (λ k. IsTop (Packed kept own k rest c.args.low width) gains (found best)) all packed)))
