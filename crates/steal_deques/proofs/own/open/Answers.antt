use Rattle.std.proofs.Common.{rules}
use Rattle.steal_deques.proofs.DequeKeeps.{opens}
use Rattle.steal_deques.proofs.own.open.Goals as goal

pub another-requires : goal.another-requires
another-requires g c = opens _ _ g.J.Setting.ranked g.J.Setting.shares (search rules)
