use Rattle.std.proofs.Common.{ℕ, ◌≡◌, ◌<◌, ◌≤◌, ◌+◌, take}
use Rattle.index_links.specs.Forest.{nodes_of}
use Rattle.piece_merge.specs.Paths.{GrewAlong, path_of}
use Rattle.piece_merge.specs.RecordTree.{IsRecordTree, present}
use Rattle.piece_merge.proofs.record_tree.RecordTree.node_of.Given as goal

-- the node stands at the front of the path that was read
abbrev pub invariant-loop-label : goal.invariant-loop-label
invariant-loop-label l = record {
  tree : IsRecordTree l.self.links l.self.records.items;
  there : l.node < nodes_of l.self.links;
  at : path_of l.self.links l.node ≡ take l.label-index l.path;
  few : nodes_of l.self.links ≤ nodes_of l.fn.self.links + l.label-index;
  records : present l.self.records.items ≡ present l.fn.self.records.items;
  grew : GrewAlong l.path l.fn.self.links l.self.links;
}
