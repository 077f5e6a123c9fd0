-- Key by key: a colour that is left out is so for the keys from `i` on.
use Rattle.std.proofs.Common.{◌≡◌, suc, ◌+◌, ◌∙◌, false, drop}
use Rattle.std.proofs.Common.{ltb, ◌&&◌, get_or, refl, sym, ap, subst, arith}
use Rattle.std.proofs.lemmas.List.{drop_all}
use Rattle.list_laws.specs.Sets.{holds}
use Rattle.list_laws.proofs.Tests.{or-left}
use Rattle.least_slacks.specs.Keys.{no_key}
use Rattle.least_slacks.specs.Parts.{out_of}
use Rattle.least_slacks.proofs.KeysLeftOut.{out-from-place}
use Rattle.least_slacks.proofs.parts.is_left_out.Goals as goal

pub returns-then-leaves_out : goal.returns-then-leaves_out
returns-then-leaves_out c =
    sym (c.loop-i.invariant
    ∙ out-from-place c.args.most c.args.colour c.args.keys.now c.loop-i.i c.loop-i-test.true
    ∙ or-left _ _ (sym c.leaves_out.ensures ∙ c.if-leaves_out.true))

pub loop-i-preserved : goal.loop-i-preserved
loop-i-preserved c =
    let most = c.args.most in
    let colour = c.args.colour in
    let keys = c.args.keys.now in
    let key = get_or keys c.loop-i.i no_key in
    let e : suc c.loop-i.i ≡ c.loop-i.i + 1 = omega arith in
    let none : (ltb key.colours most && holds colour key.coming) ≡ false =
    sym c.leaves_out.ensures ∙ c.if-leaves_out.false in
    subst (λ i. holds colour (out_of most keys) ≡ holds colour (out_of most (drop i keys))) e
    (c.loop-i.invariant
    ∙ out-from-place most colour keys c.loop-i.i c.loop-i-test.true ∙ rw none refl)

pub returns : goal.returns
returns c =
    sym (c.loop-i.invariant
    ∙ ap (λ keys. holds c.args.colour (out_of c.args.most keys))
    (drop_all c.loop-i.i c.args.keys.now c.loop-i-test.false))
