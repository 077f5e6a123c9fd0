use Rattle.std.proofs.Common.{ap}
use Rattle.mill_io.proofs.Fronts.{front-given, given-goes-on}
use Rattle.mill_io.proofs.steady.SteadySourceSource.read.Goals as goal

pub returns-clause-bytes : goal.returns-clause-bytes
returns-clause-bytes c =
    front-given _ _ _ _ c.self.inside.at _ _ _ c.deref.ensures.value
    (ap (λ feed. feed.left) c.self.view_is)
    c.give-count.ensures.same c.give-count.ensures.count
    (λ some. rw c.give-count.auto.buf at some)

pub returns-clause-given : goal.returns-clause-given
returns-clause-given c =
    given-goes-on _ _ _ _ c.self.inside.at _ c.deref.ensures.value
    (ap (λ feed. feed.given) c.self.view_is) c.give-count.ensures.same
