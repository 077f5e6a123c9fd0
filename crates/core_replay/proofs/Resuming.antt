-- What workers leave that went on from a run keeps the promise of a run: the last state of their
-- machine is one at which workers may stop.
use Rattle.std.proofs.Common.{ℕ, ◌+◌, ◌<◌, ◌≡◌, List, [], ◌∷◌, ◌++◌, length, Result, Ok}
use Rattle.std.proofs.Common.{Err, IfOk, refl, sym, ap, ◌∙◌, subst, arith, length-append}
use Rattle.std.proofs.lemmas.List.{length-map}
use Rattle.std.specs.List.{AllByRecursion}
use Rattle.list_laws.specs.Sets.{same_list, times}
use Rattle.mill_model.specs.Charges.{ChargeTable}
use Rattle.mill_model.specs.Conserved.{joined}
use Rattle.order_symmetry.specs.Ranked.{RankedOrders, IsRanked}
use Rattle.refute_log.specs.declared.piece.Run.{Run}
use Rattle.search_step.specs.Promise.{AllFit, IsRun, records_of}
use Rattle.search_step.specs.Resumable.{GoesOnFrom, start_of}
use Rattle.search_step.specs.Serving.{IsPathOf}
use Rattle.search_step.specs.Steps.{FitsMill}
use Rattle.core_machine.specs.Core.{Core, Rounds, after_schedule, first_state, pieces_of}
use Rattle.core_machine.specs.Core.{unclosed_of}
use Rattle.core_machine.specs.Kept.{IsLast, MayStop, best_of}
use Rattle.core_machine.specs.Left.{IsLeftAfter}
use Rattle.core_machine.specs.Steady.{IsSteady}
use Rattle.core_machine.proofs.InTree.{unclosed-in-tree}
use Rattle.core_machine.proofs.Last.{run-draws, run-keeps}
use Rattle.core_machine.proofs.Left.{run-goes-on, run-keeps-promise, run-loses}
use Rattle.core_machine.proofs.Runs.{rounds-count, schedule-count}
use Rattle.core_machine.proofs.Starts.{steady-first, workers-count}
use Rattle.core_machine.proofs.Stops.{last-stops}
use Rattle.core_replay.specs.Crew.{CrewState, IsReady, SameRun, crew_with}
use Rattle.core_replay.specs.Replayed.{IsLeftBy}
use Rattle.core_replay.specs.Resumed.{CanResume, IsResumed}
use Rattle.core_replay.proofs.Fits.{new-fit, run-fits}

module _ (ranked : RankedOrders) (charges : ChargeTable) (nodes workers : ℕ)
    (schedule : List ℕ) (given : Run) (ranks : IsRanked ranked)
    (can : CanResume ranked charges nodes workers schedule given) where
  mill : FitsMill ranked charges
  mill = record { of_instance = ranks; light = can.light; reach = can.reach }

  abbrev first : Core
  first =
      first_state workers (length ranked.placed) given.loss given.drawn given.unclosed.items

  pub tree : AllByRecursion (IsPathOf ranked) given.unclosed.items
  tree =
      unclosed-in-tree ranked charges (records_of given) given.unclosed.items
      can.resumable.conserved

  steady : IsSteady ranked charges nodes first
  steady =
      steady-first ranked charges workers (length ranked.placed) given.loss given.drawn
      given.unclosed.items nodes can.some can.few refl can.drawn tree

  count : length first.workers ≡ workers
  count = workers-count ranked charges workers (length ranked.placed) given.loss

  numbered : AllByRecursion (λ (i : ℕ). i < length first.workers) schedule
  numbered =
      subst (λ n. AllByRecursion (λ (i : ℕ). i < n) schedule) (sym count) can.numbers

  -- the workers may make turns, and the schedule names some of them
  module _ (crew : CrewState)
      (is : crew ≡ crew_with ranked charges nodes workers given.loss given.drawn
      given.unclosed.items) where
    pub ready-first : IsReady crew
    ready-first =
        subst IsReady (sym is)
        (record { ranks = ranks; nodes = can.within; steady = steady })

    pub numbers-first : AllByRecursion (λ (i : ℕ). i < length crew.core.workers) schedule
    numbers-first =
        subst (λ (c : CrewState). AllByRecursion (λ (i : ℕ). i < length c.core.workers) schedule)
        (sym is) numbered

    -- the rounds that they make after the schedule
    pub rounds-made : (followed : CrewState) (last : Core) → SameRun crew followed →
        followed.core
        ≡ after_schedule crew.ranked crew.charges crew.budget crew.core schedule →
        Rounds followed.ranked followed.charges followed.budget followed.core last →
        Rounds ranked charges nodes (after_schedule ranked charges nodes first schedule) last
    rounds-made followed last same run rounds =
        let r : followed.ranked ≡ ranked =
        same.ranked ∙ ap (λ (c : CrewState). c.ranked) is in
        let t : followed.charges ≡ charges =
        same.charges ∙ ap (λ (c : CrewState). c.charges) is in
        let n : followed.budget ≡ nodes =
        same.budget ∙ ap (λ (c : CrewState). c.budget) is in
        let from : followed.core ≡ after_schedule ranked charges nodes first schedule =
        run ∙ ap (λ (c : CrewState). after_schedule c.ranked c.charges c.budget c.core schedule) is
        in
        subst (λ (c : Core). Rounds ranked charges nodes c last) from
        (subst (λ x. Rounds ranked charges x followed.core last) n
        (subst (λ x. Rounds ranked x followed.budget followed.core last) t
        (subst (λ x. Rounds x followed.charges followed.budget followed.core last) r rounds)))

  abbrev Made : Core → Type 0
  Made last = Rounds ranked charges nodes (after_schedule ranked charges nodes first schedule) last

  at-last : (last : Core) → Made last →
      IsLast ranked charges given.loss nodes (length (joined (records_of given)))
      given.unclosed.items last
  at-last last rounds =
      run-keeps ranked charges nodes mill given.loss (length (joined (records_of given)))
      given.unclosed.items workers given.drawn schedule last can.some can.few can.drawn
      can.resumable.count tree can.numbers rounds

  stops : (last : Core) → Made last →
      MayStop ranked charges given.loss nodes (length (joined (records_of given)))
      given.unclosed.items last
  stops last rounds =
      last-stops ranked charges given.loss nodes (length (joined (records_of given)))
      given.unclosed.items last (at-last last rounds)

  -- what they leave, from their last state
  pub resumed-from : (last : Core) → Made last → (run : Run) →
      records_of run ≡ records_of given ++ pieces_of last →
      run.unclosed.items ≡ unclosed_of last →
      start_of run ≡ best_of (start_of given) last.workers → run.drawn ≡ last.shared.drawn →
      IsResumed ranked charges nodes workers schedule given run
  resumed-from last rounds run pieces unclosed best drawn =
      let left : IsLeftAfter given last run = record {
        pieces = pieces;
        unclosed = λ x. ap (times same_list x) unclosed;
        best = best;
        drawn = drawn;
      } in
      record {
        last = last;
        rounds = rounds;
        left = left;
        loss = run-loses ranked charges nodes given can.resumable last (stops last rounds) run left;
      }

  module _ (run : Run) (resumed : IsResumed ranked charges nodes workers schedule given run) where
    abbrev last : Core
    last = resumed.last

    pieces-fit : AllByRecursion (AllFit ranked) (pieces_of resumed.last)
    pieces-fit =
        run-fits ranked charges nodes mill first last schedule numbered steady
        (new-fit ranked workers (length ranked.placed) given.loss given.drawn
        given.unclosed.items) resumed.rounds

    pub resumed-run : IsRun ranked charges given.loss nodes run
    resumed-run =
        run-keeps-promise ranked charges nodes given can.resumable last
        (stops last resumed.rounds) run resumed.left pieces-fit (at-last last resumed.rounds).ends

    pub resumed-goes-on : GoesOnFrom ranked charges given run
    resumed-goes-on =
        run-goes-on ranked charges nodes given can.resumable last (stops last resumed.rounds) run
        resumed.left (run-draws ranked charges nodes ranks first last schedule numbered steady
        resumed.rounds)

    pub resumed-count : length (records_of run) ≡ length (records_of given) + workers
    resumed-count =
        let there : length last.workers ≡ workers =
        rounds-count ranked charges nodes
        (after_schedule ranked charges nodes first schedule) last resumed.rounds
        ∙ schedule-count ranked charges nodes first schedule ∙ count in
        omega (
          arith,
          there,
          ap length resumed.left.pieces,
          length-append (records_of given) (pieces_of last),
          length-map last.workers (λ w. w.piece),
        )

-- A run resumed from the empty path, with no piece and no ticket drawn, is what a core run leaves.
pub left-by : (ranked : RankedOrders) (charges : ChargeTable) (nodes workers : ℕ)
    (schedule : List ℕ) (given run : Run) → records_of given ≡ [] →
    given.unclosed.items ≡ [] ∷ [] → given.drawn ≡ 0 →
    IsResumed ranked charges nodes workers schedule given run →
    IsLeftBy ranked charges nodes workers given.loss schedule run
left-by ranked charges nodes workers schedule given run none root zero_drawn resumed = record {
  last = resumed.last;
  is = subst (λ (paths : List (List ℕ)). Rounds ranked charges nodes
      (after_schedule ranked charges nodes
      (first_state workers (length ranked.placed) given.loss 0 paths) schedule) resumed.last) root
      (subst (λ (n : ℕ). Rounds ranked charges nodes (after_schedule ranked charges nodes
      (first_state workers (length ranked.placed) given.loss n given.unclosed.items) schedule)
      resumed.last) zero_drawn resumed.rounds);
  pieces = resumed.left.pieces ∙ ap (λ l. l ++ pieces_of resumed.last) none;
  unclosed = resumed.left.unclosed;
  loss = resumed.loss;
  drawn = resumed.left.drawn;
}

-- what is so of a result in four ways is so in a fifth
pub in-four-ways : {X E : Type 0} (r : Result X E) (A B C D P : X → Type 0) → IfOk r A → IfOk r B →
    IfOk r C → IfOk r D → ((x : X) → A x → B x → C x → D x → P x) → IfOk r P
in-four-ways (Ok x) A B C D P a b c d h = h x a b c d
in-four-ways (Err e) A B C D P a b c d h = tt

pub in-another-way : {X E : Type 0} (r : Result X E) (A P : X → Type 0) → IfOk r A →
    ((x : X) → A x → P x) → IfOk r P
in-another-way (Ok x) A P a h = h x a
in-another-way (Err e) A P a h = tt
