use Rattle.std.proofs.Common.{◌∙◌, sym}
use Rattle.slab_top.proofs.Behind.{after-first, after-blank, rest-from}
use Rattle.slab_top.proofs.front.text_behind.Goals as goal

pub returns-in-Some : goal.returns-in-Some
returns-in-Some c =
    rest-from c.args.input.now c.in-Some.at
    ∙ sym (after-first c.args.input.now c.args.end c.in-Some.at c.in-Some.ensures.some)

pub returns-in-None : goal.returns-in-None
returns-in-None c = sym (after-blank c.args.input.now c.args.end c.in-None.ensures.none)
