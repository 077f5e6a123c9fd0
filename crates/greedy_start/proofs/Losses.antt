-- What the groups of a path that places all orders are charged is what the path loses.
use Rattle.std.proofs.Common.{ℕ, zero, suc, ◌<◌, ◌≤◌, ◌≡◌, ◌⊎◌, List, [], ◌∷◌, length, get_or}
use Rattle.std.proofs.Common.{refl, sym, ap, ◌∙◌, arith, inl, inr}
use Rattle.std.proofs.lemmas.List.{length-map}
use Rattle.list_laws.specs.Sets.{total}
use Rattle.mill_model.specs.Slab.{load}
use Rattle.mill_model.specs.Plan.{slab, loss}
use Rattle.mill_model.specs.Tree.{next_new}
use Rattle.list_laws.proofs.Sums.{total-beyond}
use Rattle.mill_laws.proofs.Groups.{slab-new}
use Rattle.order_symmetry.specs.Ranked.{orders_of}
use Rattle.slab_rules.specs.OpenSlab.{OpenSlab}
use Rattle.split_tree.specs.Node.{Node, AreGroups}
use Rattle.split_tree.proofs.Losses.{charged_below, charged_below-all, charged_below-none}

none-placed : (path : List ℕ) → next_new path ≡ 0 → length path ≡ 0
none-placed [] e = refl
none-placed (g ∷ path) e = absurd (omega arith)

pub charged-all : (node : Node) (groups : List OpenSlab) (charges : List ℕ) (n : ℕ) →
    AreGroups node groups → length node.path ≡ length node.ranked.placed →
    (0 < n → get_or charges 0 0 ≡ 0) → length groups ≤ length node.ranked.placed →
    n ≡ length groups →
    charged_below charges node n ≡ loss (λ l. get_or charges l 0) node.path (orders_of node.ranked)
charged-all node groups charges n is whole free few all =
    let orders = orders_of node.ranked in
    let charge : ℕ → ℕ = λ l. get_or charges l 0 in
    let long : length orders ≡ length node.ranked.placed = length-map node.ranked.placed
    (λ p. p.order) in
    elim (none-or-some n) [
      | inl none ↦ (let empty : length orders ≡ 0 =
          long ∙ sym whole ∙ none-placed node.path (omega (arith, is.count, all, none)) in
          ap (charged_below charges node) none ∙ charged_below-none charges node
          ∙ sym (ap (λ m. total m (λ s. charge (load (slab s node.path orders)))) empty))
      | inr some ↦ charged_below-all node groups is charges n all
          ∙ sym (total-beyond (next_new node.path) (length orders)
          (λ s. charge (load (slab s node.path orders))) (omega (arith, is.count, few, long))
          (λ s new. ap (λ group. charge (load group)) (slab-new s node.path orders new)
          ∙ free some))
    ]
  where
    none-or-some : (n : ℕ) → (n ≡ 0) ⊎ (0 < n)
    none-or-some zero = inl refl
    none-or-some (suc n) = inr (omega arith)
