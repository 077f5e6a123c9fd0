-- Each step keeps it so that a worker's records have the lengths and numbers that a record of a log
-- may have. Only a closing adds a record: its verdict has the lengths, and the prices that it goes
-- by are within the limits of a price.
use Rattle.std.proofs.Common.{ℕ, ◌≤◌, ◌≡◌, ◌≢◌, Bool, true, false, cond, List, [], ◌∷◌, ◌++◌}
use Rattle.std.proofs.Common.{length, Option, Some, None, refl, sym, subst, ℤ, All}
use Rattle.std.specs.List.{AllByRecursion}
use Rattle.list_laws.proofs.Among.{each-append}
use Rattle.mill_laws.specs.PlanLaws.{EachFits}
use Rattle.mill_laws.proofs.Charges.{charge-small}
use Rattle.mill_laws.proofs.PriceLaws.{ascent-prices-are-valid}
use Rattle.mill_laws.proofs.PricesWithin.{ascent-prices-stay-within, swept-prices-stay-within}
use Rattle.mill_model.specs.Charges.{ChargeTable, charge_of}
use Rattle.mill_model.specs.Limits.{IsPrice}
use Rattle.mill_model.specs.Slab.{Mill}
use Rattle.mill_model.specs.declared.limits.Draw.{Draw}
use Rattle.mill_model.specs.declared.limits.Draw.TheVariants.{Ticket, Spent}
use Rattle.mill_model.specs.declared.limits.Standing.{Standing}
use Rattle.mill_model.specs.declared.limits.Standing.TheVariants.{Going, Halted, Drained}
use Rattle.order_symmetry.specs.Ranked.{RankedOrders, orders_of}
use Rattle.refute_log.specs.Fits.{fits}
use Rattle.split_tree.specs.Keys.{Key}
use Rattle.nogood_store.specs.Entries.{Stored}
use Rattle.search_step.specs.Moves.{closed, commits, drew, entry_of, exceeds, first_prices}
use Rattle.search_step.specs.Moves.{found_at, has_lengths, is_leaf, last_of, loss_at, rested}
use Rattle.search_step.specs.Moves.{second_prices, stole, took, verdict, verdict_inner}
use Rattle.search_step.specs.Moves.{verdict_leaf, verdict_open}
use Rattle.search_step.specs.Parts.{Parts}
use Rattle.search_step.specs.Promise.{AllFit}
use Rattle.search_step.specs.Serving.{IsPathOf}
use Rattle.search_step.specs.Steps.{AreOf, Becomes, BecomesOrStays, Closes, FitsMill, IsNotedOf}
use Rattle.search_step.specs.Steps.{IsSafe, Pushes, StepAt, Steps, task_at}
use Rattle.search_step.specs.declared.event.Event.{Event}
use Rattle.search_step.specs.declared.parts.Phase.{Phase}
use Rattle.search_step.specs.declared.parts.Phase.TheVariants.{Resting, Taking, Stealing, Holding}
use Rattle.search_step.specs.declared.parts.Phase.TheVariants.{Halting, Ended, Bounding, Publishing}
use Rattle.search_step.specs.declared.parts.Phase.TheVariants.{Closing as ClosingNow, Pushing}
use Rattle.search_step.specs.declared.parts.Turn.{Turn}
use Rattle.search_step.specs.declared.parts.Turn.TheVariants.{Moved, Drew, Idle, Stopped}
use Rattle.search_step.specs.declared.parts.Turn.TheVariants.{OutOfMemory}
use Rattle.search_step.specs.declared.parts.Verdict.{Verdict}
use Rattle.search_step.specs.declared.parts.Verdict.TheVariants.{Better, Plain, ByPrices, ByOther}
use Rattle.search_step.specs.declared.parts.Verdict.TheVariants.{Open}
use Rattle.search_step.proofs.Fitting.{fits-better, fits-other, fits-plain, fits-priced, fits-split}
use Rattle.search_step.proofs.Lengths.{verdict-lengths}

module _ (ranked : RankedOrders) (charges : ChargeTable) (mill : FitsMill ranked charges)
    (path : List ℕ) (tree : IsPathOf ranked path) where
  some-colour : 1 ≤ ranked.mill.most_colours
  some-colour =
      let from = mill.of_instance in
      subst (λ (m : Mill). 1 ≤ m.most_colours) (sym from.is.mill) from.kept.within.p_low

  each-fits : EachFits ranked.mill (orders_of ranked)
  each-fits = record { some_colour = some-colour; not_too_heavy = mill.light }

  first-within : All IsPrice (first_prices (task_at ranked charges) path)
  first-within =
      ascent-prices-stay-within ranked.mill (charge_of charges) (orders_of ranked) path
      (charge-small charges.list charges.limit) tree.is each-fits

  second-within : All IsPrice (second_prices (task_at ranked charges) path)
  second-within =
      swept-prices-stay-within ranked.mill (charge_of charges) (orders_of ranked) path
      (first_prices (task_at ranked charges) path) (charge-small charges.list charges.limit)
      tree.is each-fits
      (ascent-prices-are-valid ranked.mill (charge_of charges) (orders_of ranked) path tree.is)
      first-within

  -- a verdict by prices goes by one of these
  priced-within : (known : ℕ) (store : Stored) (key : Key) (plan : List ℕ) (prices : List ℤ) →
      verdict (task_at ranked charges) known store key plan path ≡ ByPrices prices →
      All IsPrice prices
  priced-within known store key plan prices = leaf (is_leaf (task_at ranked charges) path)
    where
      of-better : (b : Bool) →
          cond b (Better (record { plan = plan; loss = loss_at (task_at ranked charges) path }))
          Plain ≡ ByPrices prices → All IsPrice prices
      of-better true e = absurd (cc)
      of-better false e = absurd (cc)

      same-prices : (ps : List ℤ) → All IsPrice ps → ByPrices ps ≡ ByPrices prices →
          All IsPrice prices
      same-prices ps a e = subst (All IsPrice) (inside ps prices e) a
        where
          inside : (ps qs : List ℤ) → ByPrices ps ≡ ByPrices qs → ps ≡ qs
          inside ps qs e = cc

      of-open : (o : Option (List ℕ)) →
          verdict_open (task_at ranked charges) key path o ≡ ByPrices prices → All IsPrice prices
      of-open None e = absurd (cc)
      of-open (Some other) e = absurd (cc)

      of-second : (b : Bool) →
          cond b (ByPrices (second_prices (task_at ranked charges) path))
          (verdict_open (task_at ranked charges) key path
          (found_at (task_at ranked charges) store key path)) ≡ ByPrices prices →
          All IsPrice prices
      of-second true e = same-prices _ second-within e
      of-second false e = of-open (found_at (task_at ranked charges) store key path) e

      of-first : (b : Bool) →
          cond b (ByPrices (first_prices (task_at ranked charges) path))
          (cond (exceeds (task_at ranked charges) known path
          (second_prices (task_at ranked charges) path))
          (ByPrices (second_prices (task_at ranked charges) path))
          (verdict_open (task_at ranked charges) key path
          (found_at (task_at ranked charges) store key path))) ≡ ByPrices prices →
          All IsPrice prices
      of-first true e = same-prices _ first-within e
      of-first false e = of-second _ e

      leaf : (b : Bool) →
          cond b (verdict_leaf (task_at ranked charges) known plan path)
          (verdict_inner (task_at ranked charges) known store key path) ≡ ByPrices prices →
          All IsPrice prices
      leaf true e = of-better _ e
      leaf false e = of-first _ e

  verdict-fits : (known : ℕ) (store : Stored) (key : Key) (plan : List ℕ) →
      AllByRecursion (IsNotedOf ranked charges) store.entries →
      AreOf ranked charges known path key plan →
      fits (length ranked.placed)
      (entry_of path (verdict (task_at ranked charges) known store key plan path)) ≡ true
  verdict-fits known store key plan notes are =
      go (verdict (task_at ranked charges) known store key plan path) refl
    where
      v : Verdict
      v = verdict (task_at ranked charges) known store key plan path

      lengths : has_lengths (length ranked.placed) path v ≡ true
      lengths = verdict-lengths ranked charges path tree known store v notes
          (record { key = key; plan = plan; are = are; is = refl })

      go : (u : Verdict) → v ≡ u → fits (length ranked.placed) (entry_of path u) ≡ true
      go (Better start) e = fits-better (length ranked.placed) path v lengths start e
      go Plain e = fits-plain (length ranked.placed) path v lengths e
      go (ByPrices prices) e =
          fits-priced (length ranked.placed) path v lengths prices e
          (priced-within known store key plan prices e)
      go (ByOther other) e = fits-other (length ranked.placed) path v lengths other e
      go (Open paths note) e = fits-split (length ranked.placed) path v lengths paths note e

module _ {H : Type 0} (did : H → Event → H → Type 0) (ranked : RankedOrders)
    (charges : ChargeTable) (mill : FitsMill ranked charges) (workers number : ℕ) (w : Parts)
    (safe : IsSafe ranked charges workers number w) (all : AllFit ranked w.piece)
    (before after : H) where
  abbrev Fit : Parts → Type 0
  Fit became = AllFit ranked became.piece

  -- with a part of what a step makes
  carry : (became made : Parts) → became ≡ made → AllFit ranked made.piece →
      AllFit ranked became.piece
  carry became made e fit = subst Fit (sym e) fit

  rested-fits : (standing : Standing) → AllFit ranked (rested w standing).0.piece
  rested-fits Going = all
  rested-fits Halted = all
  rested-fits Drained = all

  took-fits : (path : Option (List ℕ)) → AllFit ranked (took workers w path).0.piece
  took-fits None = all
  took-fits (Some path) = all

  stole-fits : (path : Option (List ℕ)) → AllFit ranked (stole workers number w path).0.piece
  stole-fits None = all
  stole-fits (Some path) = all

  drew-fits : (draw : Draw) → AllFit ranked (drew w draw).0.piece
  drew-fits (Ticket t) = all
  drew-fits (Spent t) = all

  pushed-fits : (turn : Turn) (became : Parts) (path : Option (List ℕ)) →
      Pushes did path w before turn became after → AllFit ranked became.piece
  pushed-fits turn became None step = carry became _ step.1.0 all
  pushed-fits Moved became (Some path) step = carry became _ step.1.0 all
  pushed-fits OutOfMemory became (Some path) step = carry became w step.1 all
  pushed-fits Drew became (Some path) step = absurd step
  pushed-fits Idle became (Some path) step = absurd step
  pushed-fits Stopped became (Some path) step = absurd step

  -- with one record more
  recorded-fits : (path : List ℕ) (v : Verdict) →
      fits (length ranked.placed) (entry_of path v) ≡ true → AllFit ranked (commits path w v).piece
  recorded-fits path v new = go v new
    where
      more : (u : Verdict) → fits (length ranked.placed) (entry_of path u) ≡ true →
          AllFit ranked (w.piece ++ entry_of path u ∷ [])
      more u f =
          each-append (λ entry. fits (length ranked.placed) entry ≡ true) w.piece
          (entry_of path u ∷ []) all (f, tt)

      go : (u : Verdict) → fits (length ranked.placed) (entry_of path u) ≡ true →
          AllFit ranked (commits path w u).piece
      go (Better start) f = more (Better start) f
      go Plain f = more Plain f
      go (ByPrices prices) f = more (ByPrices prices) f
      go (ByOther other) f = more (ByOther other) f
      go (Open paths note) f = more (Open paths note) f

  closed-fits : (key : Key) (plan : List ℕ) (held : Option (List ℕ)) → w.held ≡ held →
      ((path : List ℕ) → w.held ≡ Some path → AreOf ranked charges w.known path key plan) →
      AllFit ranked (closed (task_at ranked charges) key plan w held).0.piece
  closed-fits key plan None e are = all
  closed-fits key plan (Some path) e are =
      recorded-fits path _
      (verdict-fits ranked charges mill path (safe.held path e) w.known w.store key plan
      safe.stored (are path e))

  close-fits : (turn : Turn) (became : Parts) → Closes ranked charges w turn became →
      AllFit ranked became.piece
  close-fits turn became closes = go turn closes.are closes.becomes
    where
      done : (turn : Turn) → ((path : List ℕ) → w.held ≡ Some path →
          AreOf ranked charges w.known path closes.key closes.plan) →
          Becomes became turn (closed (task_at ranked charges) closes.key closes.plan w w.held) →
          AllFit ranked became.piece
      done turn are moves =
          carry became _ moves.0 (closed-fits closes.key closes.plan w.held refl are)

      go : (turn : Turn) → (turn ≢ OutOfMemory → (path : List ℕ) → w.held ≡ Some path →
          AreOf ranked charges w.known path closes.key closes.plan) →
          BecomesOrStays w became turn
          (closed (task_at ranked charges) closes.key closes.plan w w.held) →
          AllFit ranked became.piece
      go Moved are moves = done Moved (are (λ e. absurd (cc))) moves
      go Drew are moves = done Drew (are (λ e. absurd (cc))) moves
      go Idle are moves = done Idle (are (λ e. absurd (cc))) moves
      go Stopped are moves = done Stopped (are (λ e. absurd (cc))) moves
      go OutOfMemory are moves = carry became w moves all

  fits-at : (phase : Phase) (turn : Turn) (became : Parts) →
      StepAt did ranked charges workers number phase w before turn became after →
      AllFit ranked became.piece
  fits-at Resting turn became (standing, happened, same) =
      carry became _ same.0 (rested-fits standing)
  fits-at Taking turn became (path, happened, tree, same) =
      carry became _ same.0 (took-fits path)
  fits-at Stealing turn became (path, happened, tree, same) =
      carry became _ same.0 (stole-fits path)
  fits-at Holding turn became (draw, happened, same) = carry became _ same.0 (drew-fits draw)
  fits-at Halting turn became (happened, same) = carry became _ same.0 all
  fits-at Ended turn became (happened, same) = carry became _ same.0 all
  fits-at Bounding turn became (least, happened, same) = carry became _ same.0 all
  fits-at ClosingNow turn became (happened, closes) = close-fits turn became closes
  fits-at Publishing turn became (least, happened, same) = carry became _ same.0 all
  fits-at Pushing turn became step = pushed-fits turn became (last_of w.waiting) step

-- of a worker over any hand
pub steps-stay-fit : {H : Type 0} (did : H → Event → H → Type 0) (ranked : RankedOrders)
    (charges : ChargeTable) (workers number : ℕ) (w : Parts) (before after : H) →
    FitsMill ranked charges → IsSafe ranked charges workers number w → (turn : Turn)
    (became : Parts) → Steps did ranked charges workers number w before turn became after →
    AllFit ranked w.piece → AllFit ranked became.piece
steps-stay-fit did ranked charges workers number w before after mill safe turn became step all =
    fits-at did ranked charges mill workers number w safe all before after w.phase turn became step
