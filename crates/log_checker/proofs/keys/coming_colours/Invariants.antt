use Rattle.std.proofs.Common.{◌≡◌, ◌<◌, ℕ, get_or, ◌-◌, ◌≤◌, ◌++◌, filter, take, length, drop}
use Rattle.std.proofs.Common.{replicate}
use Rattle.mill_model.specs.LiveKey.{has_colour}
use Rattle.log_checker.proofs.keys.coming_colours.Given as goal

abbrev pub invariant-loop-i : goal.invariant-loop-i
invariant-loop-i l = record {
  count :
      l.count ≡ length (filter (has_colour (drop l.k l.rules.ranked.items)) (take l.i l.colours));
  is :
      l.coming ≡ filter (has_colour (drop l.k l.rules.ranked.items)) (take l.i l.colours)
      ++ replicate (8 - l.count) 65535;
  few : l.count ≤ l.i;
  fits : (j : ℕ) → j < l.i → get_or l.colours j 0 < 65536;
}
