-- What the first groups of a node are charged.
use Rattle.std.proofs.Common.{ℕ, suc, ◌+◌, ◌<◌, ◌≤◌, ◌≡◌, List, length, get_or, Some, refl, sym, ap}
use Rattle.std.proofs.Common.{◌∙◌, arith}
use Rattle.std.proofs.lemmas.Option.{slice_get-get_or}
use Rattle.list_laws.specs.Sets.{total}
use Rattle.mill_model.specs.Slab.{load}
use Rattle.slab_rules.specs.OpenSlab.{OpenSlab}
use Rattle.split_tree.specs.Node.{Node, IsGroup, AreGroups, group_of, groups_loss}

pub charged_below : List ℕ → Node → ℕ → ℕ
charged_below charges node n = total n (λ g. get_or charges (load (group_of node g)) 0)

pub charged_below-none : (charges : List ℕ) (node : Node) → charged_below charges node 0 ≡ 0
unfolding charged_below
charged_below-none charges node = refl

module _ (node : Node) (groups : List OpenSlab) (is : AreGroups node groups) where
  pub charged_below-all : (charges : List ℕ) (n : ℕ) → n ≡ length groups →
      charged_below charges node n ≡ groups_loss (λ l. get_or charges l 0) node
  unfolding charged_below
  charged_below-all charges n e = rw (e ∙ is.count) refl

  module _ (g : ℕ) (group : OpenSlab) (l : g < length groups) (e : group ≡ get_or groups g group)
    where
      pub group-at : IsGroup node g group
      group-at = is.each g group (slice_get-get_or groups g group l ∙ ap Some (sym e))

      pub charged_below-more : (charges : List ℕ) →
          charged_below charges node (g + 1)
          ≡ charged_below charges node g + get_or charges group.load 0
      unfolding charged_below
      charged_below-more charges =
          let one : g + 1 ≡ suc g = omega arith in rw (one, group-at.carries.weight) refl

      pub load-within : group.load ≤ node.ranked.mill.largest
      load-within = rw (← group-at.mill) group-at.open_slab.bounds.light
