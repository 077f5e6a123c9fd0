use Rattle.std.proofs.Common.{sym}
use Rattle.log_checker.proofs.KeysDecide.{uneven}
use Rattle.log_checker.proofs.keys.same_keys.Goals as goal

pub returns-then-a-b : goal.returns-then-a-b
returns-then-a-b c = sym (uneven c.args.a.now c.args.b.now c.if-a-b.true)
