use Rattle.std.proofs.Common.{ℕ, ◌≡◌, ◌≤◌, ◌<◌, ◌+◌, ◌*◌, length, pos}
use Rattle.mill_model.specs.Charges.{charge_of}
use Rattle.set_minima.specs.Cells.{IsSmall}
use Rattle.colour_tables.specs.Entries.{entry}
use Rattle.colour_tables.proofs.tables_made.paid_charges.Given as goal
use Rattle.mill_model.specs.declared.prices.TheConstants.{MAX_PRICE}

abbrev pub invariant-loop-load : goal.invariant-loop-load
invariant-loop-load l = record {
  count : length l.paid.items ≡ l.load;
  inside : l.load ≤ l.largest + 1;
  is : (k : ℕ) → k < l.load → entry l.paid.items k ≡ pos (60 * charge_of l.charges k);
  small : (k : ℕ) → k < l.load → IsSmall MAX_PRICE (entry l.paid.items k);
}
