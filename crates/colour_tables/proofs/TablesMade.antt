-- Tables that are made of sorted orders: what of their sizes and runs the rows are filled from, and
-- what they are once filled.
use Rattle.std.proofs.Common.{ℕ, ◌<◌, ◌≤◌, ◌≡◌, true, List, map, length, get_or, ℤ, sym, ap, ◌∙◌}
use Rattle.std.proofs.Common.{subst, arith}
use Rattle.std.specs.List.{All}
use Rattle.list_laws.specs.Sets.{holds, below}
use Rattle.list_laws.proofs.Different.{holds-below-lt}
use Rattle.mill_model.specs.Limits.{IsPrice}
use Rattle.mill_model.specs.declared.order.Order.{Order}
use Rattle.set_minima.specs.Packs.{colour_at}
use Rattle.set_minima.specs.Joins.{AreOrders}
use Rattle.colour_tables.specs.Entries.{AreSmallAll, entry}
use Rattle.colour_tables.specs.Threes.{once}
use Rattle.colour_tables.specs.Stretches.{AreOfOrders}
use Rattle.colour_tables.specs.Owned.{AreRuns, AreRunsSafe}
use Rattle.colour_tables.specs.declared.slabs.Runs.{Runs}
use Rattle.colour_tables.proofs.ColoursPaid.{once-names}
use Rattle.colour_tables.proofs.RowsLaidOut.{all-small}
use Rattle.colour_tables.proofs.RunsFromStretches.{within, run-is, run-small, colours-once}
use Rattle.colour_tables.proofs.RunsFromStretches.{colours-all}
use Rattle.colour_tables.proofs.StretchesFound.{few-stretches}
use Rattle.mill_model.specs.declared.order.TheConstants.{MAX_ORDERS}

pub prices-small : (prices : List ℤ) → All IsPrice prices → AreSmallAll prices
prices-small prices h =
    all-small prices (λ k b. let p : IsPrice (entry prices k) = h k _ b in (p.0, p.1))

-- there are at most as many runs, and colours, as orders
module _ (rest : List Order) (prices : List ℤ) (few : length rest ≤ MAX_ORDERS) (runs : Runs)
    (colours : List ℕ)
    (made : AreOfOrders rest prices runs.items.items runs.ends.items colours) where
  pub few-runs : length runs.ends.items ≤ MAX_ORDERS
  few-runs =
      let fewer : length runs.ends.items ≤ length made.sorted =
      few-stretches made.sorted runs.ends.items made.stretches in
      let each : length made.sorted ≡ length rest = made.by_colour.count in
      omega arith

  pub few-colours : length colours ≤ MAX_ORDERS
  few-colours = (let one_each = made.coloured.count in let fewer = few-runs in omega arith)

module _ (rest : List Order) (prices : List ℤ) (few : length rest ≤ MAX_ORDERS)
    (orders : AreOrders rest)
    (same : length prices ≡ length rest) (small : AreSmallAll prices)
    (runs : Runs) (colours : List ℕ)
    (made : AreOfOrders rest prices runs.items.items runs.ends.items colours) (present : List ℕ)
    (is : present ≡ below (length runs.ends.items)) where
  abbrev name : ℕ → ℕ
  name c = get_or colours c 0

  inside : (c : ℕ) → holds c present ≡ true → c < length runs.ends.items
  inside c h =
      holds-below-lt c (length runs.ends.items) (subst (λ xs. holds c xs ≡ true) is h)

  pub made-safe : AreRunsSafe present runs
  made-safe c h =
      let b = inside c h in
      let w = within rest prices same made.sorted made.by_colour runs.ends.items
      made.stretches colours made.coloured runs.items.items made.priced c
      b in
      record {
        here = b;
        order = w.0;
        ends = w.1;
        small = run-small rest prices same made.sorted made.by_colour runs.ends.items
            made.stretches colours made.coloured runs.items.items made.priced c b few orders small;
      }

  pub made-runs : AreRuns rest prices name present runs
  made-runs c h =
      run-is rest prices same made.sorted made.by_colour runs.ends.items
      made.stretches colours made.coloured runs.items.items made.priced c
      (inside c h)

  names : once (map name present) ≡ true
  names =
      subst (λ xs. once (map name xs) ≡ true) (sym is)
      (colours-once rest prices same made.sorted made.by_colour runs.ends.items
      made.stretches colours made.coloured runs.items.items made.priced)

  pub made-names : once (map name present) ≡ true
  made-names = names

  pub made-once : once present ≡ true
  made-once = once-names name present names

  pub made-all : (i : ℕ) → i < length rest → holds (colour_at rest i) (map name present) ≡ true
  made-all i h =
      subst (λ xs. holds (colour_at rest i) (map name xs) ≡ true) (sym is)
      (colours-all rest prices same made.sorted made.by_colour runs.ends.items
      made.stretches colours made.coloured runs.items.items made.priced i h)

  pub made-present : present ≡ below (length colours)
  made-present = is ∙ ap below (sym made.coloured.count)
