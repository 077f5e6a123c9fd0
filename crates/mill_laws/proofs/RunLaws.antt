-- The laws of runs.
use Rattle.std.proofs.Common.{ℕ, ◌<◌, ◌≡◌, true, List, length, arith, ltb-true, length-append}
use Rattle.mill_model.specs.Log.{sound, recorded}
use Rattle.mill_model.specs.Conserved.{joined}
use Rattle.mill_model.specs.Size.{may_split}
use Rattle.mill_model.specs.declared.closing.Closing.TheVariants.{Split}
use Rattle.mill_laws.specs.RunLaws.{splits_only_where, PiecesRefute, NoPathTwice, RunFitsTheTree}
use Rattle.mill_laws.specs.RunLaws.{ThriftyRunFitsTheThriftyTree}
use Rattle.list_laws.proofs.Tests.{and-left, and-right}
use Rattle.mill_laws.proofs.Law.{Has, has-all}
use Rattle.mill_laws.proofs.Merged.{each-joined, conserved-refutes}
use Rattle.mill_laws.proofs.RecordedOnce.{conserved-once}
use Rattle.mill_laws.proofs.Thrift.{run-size}

pub pieces-refute : PiecesRefute
pieces-refute task bound pieces c s =
    conserved-refutes task bound pieces c
    (each-joined (λ e. sound task bound e.path e.closing ≡ true) pieces s)

pub no-path-twice : NoPathTwice
no-path-twice task pieces unclosed path c =
    conserved-once task (joined pieces) unclosed c.paths (length path) path (omega arith)

pub run-fits-the-tree : RunFitsTheTree
run-fits-the-tree task test pieces unclosed c s =
    omega (
      arith,
      run-size task (joined pieces) unclosed c.paths test thrifty,
      length-append (recorded (joined pieces)) unclosed,
    )
  where
    thrifty : (p : List ℕ) → Has p Split (joined pieces) →
        (test p ≡ true) × (length p < length task.ranked)
    thrifty p h =
        let so = has-all (λ p c. splits_only_where task test p c ≡ true) p Split (joined pieces) h
        (each-joined (λ e. splits_only_where task test e.path e.closing ≡ true) pieces s) in
        (and-left (test p) _ so, ltb-true _ _ (and-right (test p) _ so))

pub thrifty-run-fits-the-thrifty-tree : ThriftyRunFitsTheThriftyTree
thrifty-run-fits-the-thrifty-tree task start pieces unclosed c s =
    run-fits-the-tree task (may_split task start) pieces unclosed c s
