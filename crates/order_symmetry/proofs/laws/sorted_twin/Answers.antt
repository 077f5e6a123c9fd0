use Rattle.std.proofs.Common.{◌≡◌, List, ℕ, ◌∙◌, subst, ap}
use Rattle.mill_model.specs.Tree.{canonical}
use Rattle.order_symmetry.specs.Ranked.{RankedOrders, orders_of, read_in_rank}
use Rattle.order_symmetry.specs.Twins.{SortsWithinClasses}
use Rattle.order_symmetry.proofs.Twins.{read-low, sorted-each, returned-twin}
use Rattle.order_symmetry.proofs.laws.sorted_twin.Goals as goal

-- the list that was sorted is the canonical form of the plan in rank
sorts : (ranked : RankedOrders) (plan read form numbers sorted : List ℕ) →
    read ≡ read_in_rank ranked plan → form ≡ canonical read → numbers ≡ form →
    SortsWithinClasses (orders_of ranked) numbers sorted →
    SortsWithinClasses (orders_of ranked) (canonical (read_in_rank ranked plan)) sorted
sorts ranked plan read form numbers sorted r f n s =
    subst (λ xs. SortsWithinClasses (orders_of ranked) xs sorted) (n ∙ f ∙ ap canonical r) s

pub tidy-requires : goal.tidy-requires
tidy-requires c =
    rw c.in_ok-plan_in_rank.ensures (read-low c.args.ranked.now c.args.plan.now c.requires)

pub plan_of-requires : goal.plan_of-requires
plan_of-requires c =
    rw c.from_list.ensures (sorted-each c.args.ranked.now c.args.plan.now c.requires
    c.in_ok-sorted.sorted.items (sorts c.args.ranked.now c.args.plan.now
    c.in_ok-plan_in_rank.field-0 c.in_ok-canonical.canonical c.slabs.result.now
    c.in_ok-sorted.sorted.items c.in_ok-plan_in_rank.ensures c.in_ok-canonical.ensures
    c.slabs.ensures c.in_ok-sorted.ensures))

pub returns : goal.returns
returns c =
    let done = sorts c.args.ranked.now c.args.plan.now c.in_ok-plan_in_rank.field-0
    c.in_ok-canonical.canonical c.slabs.result.now c.in_ok-sorted.sorted.items
    c.in_ok-plan_in_rank.ensures c.in_ok-canonical.ensures c.slabs.ensures c.in_ok-sorted.ensures in
    returned-twin c.args.ranked.now c.args.plan.now c.requires c.in_ok-sorted.sorted.items done
    c.plan_of-2.result c.from_list.result c.from_list.ensures c.plan_of-2.ensures
