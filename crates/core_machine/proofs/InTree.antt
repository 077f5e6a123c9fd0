-- The unclosed paths of a conserved run are paths of the tree: what is on the way to one is split,
-- so that each longer piece of it is a child of one that is in the tree.
use Rattle.std.proofs.Common.{ℕ, ◌≡◌, List, [], ◌∷◌, ◌++◌, length, refl, sym, subst, arith, inl}
use Rattle.std.proofs.Common.{inr}
use Rattle.std.proofs.Common.{append-nil, append_assoc}
use Rattle.std.specs.List.{AllByRecursion}
use Rattle.list_laws.proofs.Among.{Among, Among-append_right, each-at}
use Rattle.mill_laws.proofs.Thrift.{on-the-way}
use Rattle.mill_model.specs.Charges.{ChargeTable}
use Rattle.mill_model.specs.Conserved.{joined, IsConserved}
use Rattle.mill_model.specs.Log.{recorded}
use Rattle.mill_model.specs.Tree.{children}
use Rattle.mill_model.specs.declared.closing.Entry.{Entry}
use Rattle.order_symmetry.specs.Ranked.{RankedOrders, orders_of}
use Rattle.search_step.specs.Serving.{IsPathOf}
use Rattle.search_step.specs.Steps.{task_at}
use Rattle.search_step.proofs.Branches.{children-in-tree}

each-from : (P : List ℕ → Type 0) (paths : List (List ℕ)) →
    ((path : List ℕ) → Among path paths → P path) → AllByRecursion P paths
each-from P [] h = tt
each-from P (path ∷ paths) h =
    (h path (inl refl), each-from P paths (λ other a. h other (inr a)))

pub root-in-tree : (ranked : RankedOrders) → IsPathOf ranked []
root-in-tree ranked = record { is = refl }

module _ (ranked : RankedOrders) (charges : ChargeTable) (pieces : List (List Entry))
    (unclosed : List (List ℕ)) (run : IsConserved (task_at ranked charges) pieces unclosed) where
  abbrev paths : List (List ℕ)
  paths = recorded (joined pieces) ++ unclosed

  goes-on-in-tree : (start more : List ℕ) → IsPathOf ranked start →
      Among (start ++ more) paths → IsPathOf ranked (start ++ more)
  goes-on-in-tree start [] tree a = subst (IsPathOf ranked) (sym (append-nil start)) tree
  goes-on-in-tree start (g ∷ more) tree a =
      let split = on-the-way (task_at ranked charges) (joined pieces) unclosed run.paths
      (length more) start g more (omega arith) a in
      let child : IsPathOf ranked (start ++ g ∷ []) =
      each-at (IsPathOf ranked) (start ++ g ∷ [])
      (children ranked.mill (orders_of ranked) start) (children-in-tree ranked start tree)
      split.1 in
      let same : (start ++ g ∷ []) ++ more ≡ start ++ g ∷ more =
      append_assoc start (g ∷ []) more in
      subst (IsPathOf ranked) same
      (goes-on-in-tree (start ++ g ∷ []) more child
      (subst (λ path. Among path paths) (sym same) a))

  pub unclosed-in-tree : AllByRecursion (IsPathOf ranked) unclosed
  unclosed-in-tree =
      each-from (IsPathOf ranked) unclosed (λ path a. goes-on-in-tree [] path (root-in-tree ranked)
      (Among-append_right path (recorded (joined pieces)) unclosed a))
