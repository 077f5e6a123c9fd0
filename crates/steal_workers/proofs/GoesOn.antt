-- What a round leaves is a run that can be gone on from, and that goes on from the given one: the
-- ends of its jobs and deques make a state at which workers may stop.
use Rattle.std.proofs.Common.{◌≡◌, ℕ, ◌<◌, ◌≤◌, ◌-◌, ◌++◌, inl, inr, true}
use Rattle.std.proofs.Common.{min, List, [], ◌∷◌, length, flat_map, refl, sym, ap, ◌∙◌, subst}
use Rattle.std.proofs.Common.{arith, append-nil}
use Rattle.std.proofs.lemmas.List.{length-map}
use Rattle.std.specs.List.{AllByRecursion}
use Rattle.list_laws.specs.Sets.{times, same_list}
use Rattle.list_laws.proofs.Among.{each-append, each-weaker}
use Rattle.mill_model.specs.Charges.{ChargeTable}
use Rattle.mill_model.specs.Conserved.{joined}
use Rattle.mill_model.specs.declared.limits.TheConstants.{MAX_NODES}
use Rattle.mill_model.specs.declared.plan.Start.{Start}
use Rattle.order_symmetry.specs.Ranked.{RankedOrders}
use Rattle.refute_log.specs.declared.piece.Run.{Run}
use Rattle.search_step.specs.Honest.{IsHonest}
use Rattle.search_step.specs.Parts.{Parts}
use Rattle.search_step.specs.Promise.{EachSplitsAnew, SplitsEachAnew, records_of}
use Rattle.search_step.specs.Resumable.{GoesOnFrom, IsResumable, start_of}
use Rattle.core_machine.specs.Core.{Core, unclosed_by}
use Rattle.core_machine.specs.Counts.{sum_of, tickets_of}
use Rattle.core_machine.specs.Ends.{is_calm}
use Rattle.core_machine.specs.Kept.{IsGood, MayStop, best_of}
use Rattle.core_machine.specs.Left.{IsLeftAfter}
use Rattle.core_machine.proofs.Bests.{best-at-most}
use Rattle.core_machine.proofs.Left.{run-at-most, run-goes-on, run-resumable}
use Rattle.core_machine.proofs.Stops.{each-of-all, found-by-best}
use Rattle.running_worker.specs.declared.job.Job.{Job}
use Rattle.running_worker.specs.declared.job.JobEnd.{JobEnd}
use Rattle.running_worker.specs.declared.round.Round.{Round}
use Rattle.steal_workers.specs.Rounds.{Begins, HasEnded}
use Rattle.steal_workers.specs.Rounds.{end_seats}
use Rattle.steal_workers.specs.Words.{IsOpened}
use Rattle.steal_workers.proofs.Ends.{Worked, all-fit, all-know, all-paths, all-tickets, as-many}
use Rattle.steal_workers.proofs.Ends.{bests-left, each-worker, paths-left, pieces-left}
use Rattle.steal_workers.proofs.Ends.{published-kept, workers-count, workers_of}

module _ (ranked : RankedOrders) (charges : ChargeTable) (workers budget : ℕ) (given : Run)
    (some : 1 ≤ workers) (limit : budget ≤ MAX_NODES) (within : given.drawn ≤ budget)
    (resumable : IsResumable ranked charges budget given)
    (round : Round) (opened : IsOpened workers given.loss (budget - given.drawn) round)
    (jobs : List Job) (begins : Begins ranked workers given.unclosed.items round jobs)
    (ends : List JobEnd) (worked : Worked ranked charges round jobs ends)
    (run : Run)
    (ended : HasEnded round given.pieces.items (start_of given) given.drawn ends run) where
  abbrev ws : List Parts
  ws = workers_of ranked charges round jobs ends worked

  -- the state: the workers that have worked, and what was left in the deques
  abbrev state : Core
  state = record {
    shared = record {
      deques = ended.in_deques ∷ [];
      least = run.loss;
      drawn = run.drawn;
      halted = true;
    };
    workers = ws;
  }

  best : start_of run ≡ best_of (start_of given) ws
  best = ended.best ∙ bests-left ranked charges round (start_of given) jobs ends worked

  loses : run.loss ≡ (best_of (start_of given) ws).loss
  loses = ap (λ (s : Start). s.loss) best

  -- the best plan loses no more than the least loss of the word
  at-most-least : (best_of (start_of given) ws).loss ≤ ended.closed.least
  at-most-least = elim ended.closed.from [
    | inl start ↦ omega (arith, start, opened.start, best-at-most (start_of given) ws)
    | inr published ↦ published-kept ranked charges round (start_of given) ended.closed.least
        published.number jobs ends worked
        (subst (λ n. published.number < n) (length-map ends end_seats) published.there)
        published.by
  ]

  known : AllByRecursion (λ (w : Parts). run.loss ≤ w.known) ws
  known =
      each-weaker (λ (w : Parts). ended.closed.least ≤ w.known)
      (λ (w : Parts). run.loss ≤ w.known) ws
      (λ w l. omega (arith, l, loses, at-most-least))
      (all-know ranked charges round ended.closed.least jobs ends worked ended.closed.seen)

  calm : AllByRecursion (λ (w : Parts). is_calm w.phase ≡ true) ws
  calm =
      each-worker ranked charges round (λ (w : Parts). is_calm w.phase ≡ true)
      (λ job end w. w.calm) jobs ends worked

  honest : AllByRecursion (IsHonest ranked charges given.loss) ws
  honest =
      subst (λ n. AllByRecursion (IsHonest ranked charges n) ws) opened.loss_is
      (each-worker ranked charges round (IsHonest ranked charges round.loss)
      (λ job end w. w.has_done.honest) jobs ends worked)

  abbrev before : ℕ
  before = length (joined (records_of given))

  good : IsGood ranked charges given.loss budget before given.unclosed.items state
  good = record {
    honest = each-of-all (IsHonest ranked charges given.loss) state honest;
    conserved = λ x. omega (
      arith,
      all-paths ranked charges round x jobs ends worked,
      ended.paths x,
      begins.pushed x,
    );
    counted =
        let tickets = all-tickets ranked charges round jobs ends worked in
        let below =
        subst (λ n. sum_of tickets_of ws ≡ min ended.tickets n) opened.tickets
        (tickets ∙ ended.closed.tickets) in
        omega (
          arith,
          below,
          resumable.count,
          within,
          limit,
          ended.drawn_is,
        );
  }

  stops : MayStop ranked charges given.loss budget before given.unclosed.items state
  stops = record {
    some = omega (
      arith,
      some,
      workers-count ranked charges round jobs ends worked,
      as-many ranked charges round jobs ends worked,
      begins.count,
    );
    good = good;
    found = found-by-best (start_of given) state calm known loses;
    calm = each-of-all (λ (w : Parts). is_calm w.phase ≡ true) state calm;
  }

  left : IsLeftAfter given state run
  left = record {
    pieces = ended.records
        ∙ ap (λ l. records_of given ++ l) (pieces-left ranked charges round jobs ends worked);
    unclosed = λ x. ap (times same_list x)
        (ended.unclosed
        ∙ ap (λ l. l ++ ended.in_deques) (paths-left ranked charges round jobs ends worked)
        ∙ ap (λ l. flat_map unclosed_by ws ++ l) (sym (append-nil ended.in_deques)));
    best = best;
    drawn = refl;
  }

  pub round-resumable : IsResumable ranked charges budget run
  round-resumable =
      run-resumable ranked charges budget given resumable state stops run left
      (all-fit ranked charges round jobs ends worked)

  pub round-goes-on : GoesOnFrom ranked charges given run
  round-goes-on =
      run-goes-on ranked charges budget given resumable state stops run left
      (omega (arith, ended.drawn_is, within, limit))

  pub round-at-most : run.loss ≤ given.loss
  round-at-most = run-at-most ranked charges budget given resumable state stops run left

-- each piece of a run that went on from another splits its paths anew, where those of that one did
pub anew-too : (ranked : RankedOrders) (charges : ChargeTable) (given run : Run) →
    GoesOnFrom ranked charges given run → EachSplitsAnew ranked charges (records_of given) →
    EachSplitsAnew ranked charges (records_of run)
anew-too ranked charges given run goes_on anew =
    subst (EachSplitsAnew ranked charges) (sym goes_on.pieces)
    (each-append (SplitsEachAnew ranked charges) (records_of given) goes_on.more anew
    goes_on.anew)
