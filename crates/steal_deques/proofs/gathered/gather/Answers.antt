use Rattle.std.proofs.Common.{◌++◌, subst, arith}
use Rattle.std.proofs.lemmas.List.Sums.{sum_by-append}
use Rattle.steal_deques.specs.Deque.{DequeOwner, WasEmpty}
use Rattle.steal_deques.proofs.DequeKeeps.{settles}
use Rattle.steal_deques.proofs.gathered.gather.Goals as goal

-- the deque was empty when all that is left had been popped
pub returns : goal.returns
returns c h =
    let left = c.loop-path.left.items in
    let last : DequeOwner = record c.args.own { popped = c.args.own.popped ++ left } in
    let empty : WasEmpty last = subst WasEmpty c.loop-path.invariant c.in_default.ensures.empty in
    omega (arith, settles last c.requires empty h, sum_by-append h c.args.own.popped left)
