use Rattle.std.proofs.Common.{◌≡◌, drop}
use Rattle.std.specs.List.{list_any}
use Rattle.log_checker.specs.Live.{takes_of}
use Rattle.log_checker.specs.ByRules.{mill_by}
use Rattle.log_checker.proofs.live.takes_own.Given as goal

abbrev pub invariant-loop-colour : goal.invariant-loop-colour
invariant-loop-colour l =
    let takes = takes_of (mill_by l.rules) (drop l.k l.rules.ranked.items) l.group in
    list_any takes l.group.colours ≡ list_any takes (drop l.colour-index l.group.colours)
