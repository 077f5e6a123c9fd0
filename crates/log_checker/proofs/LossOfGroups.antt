-- The loss of a path by its groups.
use Rattle.std.proofs.Common.{ℕ, ◌≤◌, ◌≡◌, List, length, get_or, sym, ap, ◌∙◌}
use Rattle.list_laws.specs.Sets.{total}
use Rattle.mill_model.specs.Slab.{load}
use Rattle.mill_model.specs.Plan.{slab, loss}
use Rattle.mill_model.specs.Tree.{next_new}
use Rattle.mill_model.specs.declared.order.Order.{Order}
use Rattle.mill_laws.proofs.Groups.{slab-new}
use Rattle.list_laws.proofs.Sums.{total-beyond, total-cong}
use Rattle.log_checker.specs.Groups.{Seen, nothing_seen, AreGroups}

pub loss-groups : (charge : ℕ → ℕ) (groups : List Seen) (path : List ℕ) (ranked : List Order) →
    charge 0 ≡ 0 → AreGroups groups path ranked → next_new path ≤ length ranked →
    total (length groups) (λ g. charge (get_or groups g nothing_seen).load) ≡ loss charge path
    ranked
loss-groups charge groups path ranked z it l =
    let a : total (length groups) (λ g. charge (get_or groups g nothing_seen).load) ≡ total
    (length groups) (λ s. charge (load (slab s path ranked))) =
    total-cong (length groups) (λ g. charge (get_or groups g nothing_seen).load) (λ s.
    charge (load (slab s path ranked))) (λ s k. ap charge (it.seen s).weighs) in
    a ∙ sym (total-beyond (length groups) (length ranked) (λ s.
    charge (load (slab s path ranked))) (rw it.count l) (λ s k.
    rw (slab-new s path ranked (rw (← it.count) k)) z))
