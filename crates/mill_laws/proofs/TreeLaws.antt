-- The laws of the tree.
use Rattle.std.proofs.Common.{ℕ, List, [], ◌∙◌, arith}
use Rattle.mill_model.specs.Plan.{IsLegalPlan}
use Rattle.mill_model.specs.Rank.{ranked_orders, plan_in_rank}
use Rattle.mill_model.specs.Log.{Task}
use Rattle.mill_model.specs.Log.{task_of_orders}
use Rattle.mill_laws.specs.TreeLaws.{IsLeaf, EachPlanHasALeaf, EachLeafIsAPlan, EachPathIsCanonical}
use Rattle.mill_laws.specs.TreeLaws.{TreeHasAtMost}
use Rattle.mill_laws.proofs.TreeSize.{size-enough}
use Rattle.mill_laws.proofs.GrowingNumbers.{canonical-same}
use Rattle.mill_laws.proofs.Legal.{legal-from}
use Rattle.mill_laws.proofs.Paths.{Word, goes-grows, tree-fits, tree-bound}
use Rattle.mill_laws.proofs.Ranked.{ranked-each, ranked-legal, ranked-loss}
use Rattle.mill_laws.proofs.Twin.{twin, twin-word, twin-loss}

-- a word from the empty path is a leaf
pub word-leaf : (task : Task) (word : List ℕ) → Word task [] word →
    IsLeaf task.mill task.ranked word
word-leaf task word w = record {
  tree = w.goes;
  places_all = omega (arith, w.long);
}

pub each-plan-has-a-leaf : EachPlanHasALeaf
each-plan-has-a-leaf mill charge orders plan z h =
    let task = task_of_orders mill charge orders in
    let ranked = plan_in_rank orders plan in
    let in-rank : IsLegalPlan mill (ranked_orders orders) ranked =
    record {
      each = ranked-each orders plan h.each;
      slabs = ranked-legal orders plan h.each mill h.slabs;
    } in (
      twin (ranked_orders orders) ranked,
      word-leaf task (twin (ranked_orders orders) ranked) (twin-word task ranked in-rank),
      twin-loss task ranked in-rank z ∙ ranked-loss orders plan h.each charge,
    )

pub each-leaf-is-a-plan : EachLeafIsAPlan
each-leaf-is-a-plan mill ranked leaf h =
    legal-from mill ranked leaf h.places_all
    (omega (arith, tree-bound mill ranked leaf h.tree, h.places_all))
    (tree-fits mill ranked leaf h.tree)

pub each-path-is-canonical : EachPathIsCanonical
each-path-is-canonical mill ranked path h =
    canonical-same path (goes-grows mill ranked [] path h)

pub tree-has-at-most : TreeHasAtMost
tree-has-at-most task test = size-enough task test
