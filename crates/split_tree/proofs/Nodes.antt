-- What a node keeps: its path is no longer than the orders, and has no more groups than numbers.
use Rattle.std.proofs.Common.{ℕ, suc, ◌-◌, ◌≤◌, ◌≡◌, List, [], ◌∷◌, length, ◌++◌, map, refl}
use Rattle.std.proofs.Common.{sym, ap, ◌∙◌, arith, Bool, true, false, IsTrue, ◌↔◌}
use Rattle.std.proofs.lemmas.List.{length-map}
use Rattle.std.proofs.lemmas.Result.{IfOk-weaker}
use Rattle.std.specs.Prelude.{Result, IfOk}
use Rattle.std.specs.List.{slice_get}
use Rattle.std.specs.Option.{unwrap_or}
use Rattle.mill_model.specs.Slab.{Mill, legal}
use Rattle.mill_model.specs.Plan.{legal_plan, IsLegalPlan}
use Rattle.mill_model.specs.Rank.{Placed, rank, starts_class_in}
use Rattle.mill_model.specs.declared.order.Order.{Order}
use Rattle.mill_model.specs.Tree.{next_new, last_number}
use Rattle.mill_model.specs.declared.order.TheConstants.{MAX_ORDERS}
use Rattle.list_laws.proofs.Tests.{same-answer}
use Rattle.mill_laws.proofs.Paths.{tree-bound, tree-length}
use Rattle.mill_laws.proofs.TreeLaws.{each-leaf-is-a-plan}
use Rattle.order_symmetry.specs.Ranked.{IsPlanOf, orders_of}
use Rattle.order_symmetry.proofs.Limits.{few}
use Rattle.slab_rules.specs.OpenSlab.{OpenSlab}
use Rattle.split_tree.specs.Node.{Node, IsNode, AreGroups, group_of, least_number}
use Rattle.mill_laws.proofs.Groups.{slab-new}

module _ (node : Node) (is : IsNode node) where
  pub path-long : length node.path ≤ length node.ranked.placed
  path-long =
      let n : length (orders_of node.ranked) ≡ length node.ranked.placed =
      length-map node.ranked.placed (λ x. x.order) in
      omega (
        arith,
        tree-length node.ranked.mill (orders_of node.ranked) node.path is.tree,
      )

  pub path-short : length node.path ≤ MAX_ORDERS
  path-short = omega (arith, path-long, few node.ranked is.ranked)

  pub few-groups : next_new node.path ≤ MAX_ORDERS
  few-groups =
      omega (
        arith,
        path-short,
        tree-bound node.ranked.mill (orders_of node.ranked) node.path is.tree,
      )

pub last-got : (path : List ℕ) →
    unwrap_or (slice_get path (length path - 1)) 0 ≡ last_number path
last-got [] = refl
last-got (g ∷ []) = refl
last-got (g ∷ h ∷ path) =
    let back : suc (suc (length path)) - 1 ≡ suc (suc (length path) - 1) = omega arith in
    rw back (last-got (h ∷ path))

-- a new group stays legal with an order where the order is legal alone
pub fits-new : (node : Node) (groups : List OpenSlab) → AreGroups node groups → (g : ℕ) →
    length groups ≤ g → (order : Order) (mill : Mill) → mill ≡ node.ranked.mill → (answer : Bool) →
    IsTrue answer ↔ (legal mill (order ∷ []) ≡ true) →
    answer ≡ legal node.ranked.mill (group_of node g ++ order ∷ [])
fits-new node groups is g l order mill same answer h =
    let none : group_of node g ≡ [] =
    slab-new g node.path (orders_of node.ranked) (omega (arith, is.count)) in
    rw (none, ← same) (same-answer answer (legal mill (order ∷ [])) h)

-- within a class the path goes on from its last number
pub least-within : (node : Node) (depth : ℕ) (starts : Bool) (number : ℕ) →
    depth ≡ length node.path → starts ≡ starts_class_in depth (orders_of node.ranked) →
    starts ≡ false → number ≡ unwrap_or (slice_get node.path (length node.path - 1)) 0 →
    number ≡ least_number node
least-within node depth starts number d s e n =
    let inside : starts_class_in (length node.path) (orders_of node.ranked) ≡ false =
    ap (λ k. starts_class_in k (orders_of node.ranked)) (sym d) ∙ sym s ∙ e in
    rw inside (n ∙ last-got node.path)

-- a leaf is a legal plan of the ranked orders, and so is the plan of the file's
pub leaf-plan : (node : Node) → IsNode node → length node.path ≡ length node.ranked.placed →
    IsLegalPlan node.ranked.mill (orders_of node.ranked) node.path
leaf-plan node is e =
    each-leaf-is-a-plan node.ranked.mill (orders_of node.ranked) node.path (record {
      tree = is.tree;
      places_all = e ∙ sym (length-map node.ranked.placed (λ x. x.order));
    })

pub leaf-returned : {E : Type 0} (node : Node) (r : Result (List ℕ) E) →
    IsLegalPlan node.ranked.mill (orders_of node.ranked) node.path →
    IfOk r (λ plan. (orders : List Order) → node.ranked.placed ≡ rank orders →
    IsPlanOf orders node.path plan) → IfOk r (λ plan. (orders : List Order) →
    node.ranked.placed ≡ rank orders → IsLegalPlan node.ranked.mill orders plan)
leaf-returned node r leaf h =
    IfOk-weaker r (λ plan. (orders : List Order) → node.ranked.placed ≡ rank orders →
    IsPlanOf orders node.path plan) (λ plan. (orders : List Order) →
    node.ranked.placed ≡ rank orders → IsLegalPlan node.ranked.mill orders plan) (λ plan is orders
    e. let of-file : IsPlanOf orders node.path plan = is orders e in record {
      each = of-file.each;
      slabs =
          of-file.legal node.ranked.mill ∙ ap (λ (xs : List Placed).
          legal_plan node.ranked.mill node.path (map (λ x. x.order) xs)) (sym e) ∙ leaf.slabs;
    }) h
