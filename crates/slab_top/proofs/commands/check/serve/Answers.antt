use Rattle.std.proofs.Common.{refl, inr}
use Rattle.slab_top.proofs.commands.check.serve.Goals as goal

pub returns-clause-reply : goal.returns-clause-reply
returns-clause-reply c =
    inr (
      (c.in_ok-instance.instance, c.in_ok-instance.answer),
      c.in_ok-instance.ensures,
      (c.in_ok-judgement.judgement, refl, c.in_ok-judgement.ensures),
    )
