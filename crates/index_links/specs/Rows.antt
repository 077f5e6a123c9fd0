-- A small forest.
use Rattle.std.specs.Prelude.{Some, None}
use Rattle.index_links.specs.Forest.{Forest, no_nodes, with_node}

-- a root, its children with the labels 2 and 1, and a second root
abbrev pub small_forest : Forest
small_forest =
    with_node (with_node (with_node (with_node no_nodes None 0) (Some 0) 2) (Some 0) 1) None 0
