-- What workers leave where they may stop keeps the promise of a run: with the pieces and the
-- unclosed paths that they began with, no path is lost or recorded twice, each record is sound for
-- the least loss, which the best plan loses, and each ticket is a record.
use Rattle.std.proofs.Common.{ℕ, suc, ◌+◌, ◌<◌, ◌≤◌, ◌≡◌, ◌≢◌, inl, inr, min, true, false, List, []}
use Rattle.std.proofs.Common.{◌∷◌, ◌++◌, length, flat_map, get_or, Some, refl}
use Rattle.std.proofs.lemmas.Int.{ints}
use Rattle.std.proofs.Common.{arith, int_le, ℤ, pos, ◌-ℤ◌, ◌*ℤ◌}
use Rattle.std.specs.List.{AllByRecursion}
use Rattle.list_laws.specs.Sets.{same_list}
use Rattle.list_laws.proofs.Among.{each-append, each-weaker}
use Rattle.list_laws.proofs.Tests.{and-left, and-right, clash}
use Rattle.list_laws.proofs.Times.{times-append}
use Rattle.mill_laws.proofs.Merged.{each-joined, sound-less}
use Rattle.mill_laws.specs.RunLaws.{EachRecord}
use Rattle.mill_model.specs.Charges.{ChargeTable}
use Rattle.mill_model.specs.Conserved.{joined, IsConserved}
use Rattle.mill_model.specs.Log.{Task, names_settled, recorded, sound}
use Rattle.mill_model.specs.Size.{may_split}
use Rattle.mill_model.specs.Thrift.{AreThrifty, splits_thriftily}
use Rattle.mill_model.specs.declared.closing.Entry.{Entry}
use Rattle.mill_model.specs.declared.closing.Closing.{Closing}
use Rattle.mill_model.specs.declared.closing.Closing.TheVariants.{Split, Leaf, Priced, Dominated}
use Rattle.mill_model.specs.declared.plan.Start.{Start}
use Rattle.order_symmetry.specs.Ranked.{RankedOrders}
use Rattle.search_step.specs.Accounts.{in_work}
use Rattle.search_step.specs.Honest.{IsHonest, IsKept}
use Rattle.search_step.specs.Parts.{Parts}
use Rattle.search_step.specs.Promise.{EachSplitsAnew, SplitsEachAnew}
use Rattle.search_step.specs.Steps.{task_at}
use Rattle.search_step.specs.declared.parts.Phase.{Phase}
use Rattle.search_step.specs.declared.parts.Phase.TheVariants.{Resting, Taking, Stealing, Holding}
use Rattle.search_step.specs.declared.parts.Phase.TheVariants.{Halting, Ended, Bounding}
use Rattle.search_step.specs.declared.parts.Phase.TheVariants.{Closing as ClosingNow, Publishing}
use Rattle.search_step.specs.declared.parts.Phase.TheVariants.{Pushing}
use Rattle.core_machine.proofs.Bests.{best-at-most, best-at-most-kept, best-one}
use Rattle.core_machine.proofs.Joined.{each-piece, length-both, length-counted, named-settled}
use Rattle.core_machine.proofs.Joined.{own-counted, queued-counted, recorded-both, split-both}
use Rattle.core_machine.proofs.Joined.{split-counted}
use Rattle.core_machine.proofs.Lists.{all-from-places}
use Rattle.core_machine.specs.Core.{Core, no_worker, pieces_of}
use Rattle.core_machine.specs.Core.{unclosed_by, unclosed_of, worker}
use Rattle.core_machine.specs.Counts.{sum_of, tickets_of}
use Rattle.core_machine.specs.Ends.{is_calm}
use Rattle.core_machine.specs.Kept.{MayStop, best_of}
use Rattle.core_machine.specs.Steady.{EachWorker}

-- a calm worker has no ticket for a path in work, and no plan to publish
pub calm-at-rest : (phase : Phase) → is_calm phase ≡ true →
    (in_work phase ≡ 0) × (phase ≢ Publishing)
calm-at-rest Resting e = (refl, λ q. absurd (cc))
calm-at-rest Taking e = (refl, λ q. absurd (cc))
calm-at-rest Stealing e = (refl, λ q. absurd (cc))
calm-at-rest Holding e = (refl, λ q. absurd (cc))
calm-at-rest Halting e = (refl, λ q. absurd (cc))
calm-at-rest Ended e = (refl, λ q. absurd (cc))
calm-at-rest Pushing e = (refl, λ q. absurd (cc))
calm-at-rest Bounding e = absurd (clash false e refl)
calm-at-rest ClosingNow e = absurd (clash false e refl)
calm-at-rest Publishing e = absurd (clash false e refl)

-- what is thrifty for a loss is so for a greater one
thrifty-more : (task : Task) (less more : ℕ) (path : List ℕ) (c : Closing) → less ≤ more →
    splits_thriftily task less path c ≡ true → splits_thriftily task more path c ≡ true
thrifty-more task less more path Split l h =
    rw (still _ (and-left (may_split task less path) _ h))
    (still _ (and-right (may_split task less path) _ h))
  where
    still : (x : ℤ) → int_le x (pos 60 *ℤ (pos less -ℤ pos 1)) ≡ true →
        int_le x (pos 60 *ℤ (pos more -ℤ pos 1)) ≡ true
    still x h = grind (arith, ints)
thrifty-more task less more path Leaf l h = h
thrifty-more task less more path (Priced prices) l h = h
thrifty-more task less more path (Dominated other) l h = h

pub are-thrifty-more : (task : Task) (less more : ℕ) (log : List Entry) → less ≤ more →
    AreThrifty task less log → AreThrifty task more log
are-thrifty-more task less more log l h =
    each-weaker (λ entry. splits_thriftily task less entry.path entry.closing ≡ true)
    (λ entry. splits_thriftily task more entry.path entry.closing ≡ true) log
    (λ entry. thrifty-more task less more entry.path entry.closing l) h

no-tickets : (ws : List Parts) →
    ((i : ℕ) → i < length ws → in_work (get_or ws i no_worker).phase ≡ 0) →
    sum_of (λ (w : Parts). length w.piece) ws ≡ sum_of tickets_of ws
no-tickets [] h = refl
no-tickets (w ∷ ws) h =
    omega (arith, h 0 (omega arith), no-tickets ws (λ i l. h (suc i) (omega arith)))

module _ (ranked : RankedOrders) (charges : ChargeTable) (start budget before : ℕ)
    (owed : List (List ℕ)) (d : Core) (stop : MayStop ranked charges start budget before owed d)
  where
    abbrev task : Task
    task = task_at ranked charges

    -- something is so of the piece of each worker
    each-worker : (P : List Entry → Type 0) → EachWorker d (λ i w. P w.piece) →
        AllByRecursion P (pieces_of d)
    each-worker P h =
        each-piece P d.workers (all-from-places (λ (w : Parts). P w.piece) d.workers no_worker h)

    honest : EachWorker d (λ i w. IsHonest ranked charges start w)
    honest = stop.good.honest

    knows : EachWorker d (λ i w. d.shared.least ≤ w.known)
    knows i l =
        (stop.found.each i l).known
        (calm-at-rest (worker d i).phase (stop.calm i l)).1

    -- the least loss is at most the one at the start
    pub least-at-most : d.shared.least ≤ start
    least-at-most =
        let some = stop.some in
        omega (arith, knows 0 some, (honest 0 some).at_most)

    pub pieces-sound : EachRecord (pieces_of d)
        (λ entry. sound (task_at ranked charges) d.shared.least entry.path entry.closing ≡ true)
    pieces-sound =
        each-worker (λ piece. AllByRecursion (λ entry.
        sound task d.shared.least entry.path entry.closing ≡ true) piece) (λ i l.
        each-weaker (λ entry. sound task (worker d i).known entry.path entry.closing ≡ true)
        (λ entry. sound task d.shared.least entry.path entry.closing ≡ true) (worker d i).piece
        (λ entry s. sound-less task (worker d i).known d.shared.least entry.path entry.closing
        (knows i l) s) (honest i l).records)

    pub pieces-named :
        AllByRecursion
        (λ piece. AllByRecursion (λ entry. names_settled piece entry.closing ≡ true) piece)
        (pieces_of d)
    pieces-named =
        each-worker
        (λ piece. AllByRecursion (λ entry. names_settled piece entry.closing ≡ true) piece)
        (λ i l. named-settled (worker d i).piece (honest i l).named)

    pub pieces-thrifty : AreThrifty (task_at ranked charges) start (joined (pieces_of d))
    pieces-thrifty =
        each-joined (λ entry. splits_thriftily task start entry.path entry.closing ≡ true)
        (pieces_of d) (each-worker (AreThrifty task start) (λ i l. (honest i l).thrifty))

    pub pieces-anew : EachSplitsAnew ranked charges (pieces_of d)
    pieces-anew =
        each-worker (SplitsEachAnew ranked charges)
        (λ i l. record { anew = λ few. (honest i l).anew (omega (arith, few)) })

    -- the best of a plan for the loss at the start and the plans that workers keep
    pub best-is-kept : (first : Start) → IsKept ranked charges first →
        IsKept ranked charges (best_of first d.workers)
    best-is-kept first kept =
        best-one (IsKept ranked charges) first d.workers kept
        (all-from-places (λ w. (k : Start) → w.best ≡ Some k → IsKept ranked charges k) d.workers
        no_worker (λ i l. (honest i l).kept))

    pub best-loses : (first : Start) → first.loss ≡ start →
        (best_of first d.workers).loss ≡ d.shared.least
    best-loses first same =
        let low : d.shared.least ≤ (best_of first d.workers).loss =
        best-one (λ k. d.shared.least ≤ k.loss) first d.workers
        (omega (arith, least-at-most, same))
        (all-from-places (λ w. (k : Start) → w.best ≡ Some k → d.shared.least ≤ k.loss) d.workers
        no_worker (λ i l k e. (let a = (honest i l).above k e in let b = knows i l in
        omega (arith, a, b)))) in
        elim stop.found.plan [
          | inl q ↦ omega (arith, low, best-at-most first d.workers, same, q)
          | inr p ↦ omega (
            arith,
            low,
            p.at_most,
            best-at-most-kept first d.workers p.number p.plan p.there p.keeps,
          )
        ]

    pub pieces-counted : before + length (joined (pieces_of d)) ≡ min d.shared.drawn budget
    pieces-counted =
        let none = no-tickets d.workers
        (λ i l. (calm-at-rest (worker d i).phase (stop.calm i l)).0) in
        omega (arith, none, length-counted d.workers, stop.good.counted)

    -- With the pieces of a run whose unclosed paths were those to close.
    module _ (given : List (List Entry)) (run : IsConserved (task_at ranked charges) given owed)
      where
        pub conserved-with : IsConserved (task_at ranked charges) (given ++ pieces_of d)
            (unclosed_of d)
        conserved-with = record {
          paths = λ x. (
              let whole = times-append same_list x (recorded (joined (given ++ pieces_of d)))
              (unclosed_of d) in
              let left = times-append same_list x (flat_map unclosed_by d.workers)
              (flat_map (λ (paths : List (List ℕ)). paths) d.shared.deques) in
              let first = times-append same_list x (recorded (joined given)) owed in
              omega (
                arith,
                whole,
                left,
                first,
                recorded-both x given (pieces_of d),
                split-both x task given (pieces_of d),
                own-counted x d.workers,
                queued-counted x d.shared.deques,
                split-counted x task d.workers,
                stop.good.conserved x,
                run.paths x,
              ));
          named = each-append
              (λ piece. AllByRecursion (λ entry. names_settled piece entry.closing ≡ true) piece)
              given (pieces_of d) run.named pieces-named;
        }

        pub sound-with : EachRecord given
            (λ entry. sound (task_at ranked charges) start entry.path entry.closing ≡ true) →
            EachRecord (given ++ pieces_of d)
            (λ entry. sound (task_at ranked charges) d.shared.least entry.path entry.closing ≡ true)
        sound-with each =
            each-append (λ piece. AllByRecursion (λ entry.
            sound task d.shared.least entry.path entry.closing ≡ true) piece) given (pieces_of d)
            (each-weaker (λ piece. AllByRecursion (λ entry.
            sound task start entry.path entry.closing ≡ true) piece)
            (λ piece. AllByRecursion (λ entry.
            sound task d.shared.least entry.path entry.closing ≡ true) piece) given
            (λ piece. each-weaker (λ entry. sound task start entry.path entry.closing ≡ true)
            (λ entry. sound task d.shared.least entry.path entry.closing ≡ true) piece
            (λ entry. sound-less task start d.shared.least entry.path entry.closing least-at-most))
            each) pieces-sound

        pub counted-with : before ≡ length (joined given) →
            length (joined (given ++ pieces_of d)) ≡ min d.shared.drawn budget
        counted-with e = omega (arith, e, length-both given (pieces_of d), pieces-counted)
