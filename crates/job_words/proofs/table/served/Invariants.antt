use Rattle.std.proofs.Common.{◌≡◌, map, drop}
use Rattle.job_words.specs.Table.{served_as}
use Rattle.job_words.proofs.table.served.Given as goal

abbrev pub invariant-loop-name : goal.invariant-loop-name
invariant-loop-name g l =
    served_as (map (λ row. (row.0.now, row.1)) (drop l.name-index l.table)) l.word
    ≡ served_as (map (λ row. (row.0.now, row.1)) l.table) l.word
