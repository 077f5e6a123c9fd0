-- What workers leave that went on from a run and came to where they may stop: a run that can be
-- gone on from, and that goes on from the given one.
use Rattle.std.proofs.Common.{ℕ, ◌≤◌, ◌<◌, ◌≡◌, true, min, List, [], ◌∷◌, ◌++◌, length}
use Rattle.std.proofs.Common.{refl, sym, ap, ◌∙◌, subst, arith, inl}
use Rattle.std.specs.List.{AllByRecursion}
use Rattle.list_laws.specs.Sets.{same_list, times, SameTimes}
use Rattle.list_laws.proofs.Among.{each-append}
use Rattle.list_laws.proofs.Times.{same_list-refl, times-append, times-pos}
use Rattle.mill_laws.specs.RunLaws.{EachRecord}
use Rattle.mill_model.specs.Charges.{ChargeTable}
use Rattle.mill_model.specs.Conserved.{joined, IsConserved}
use Rattle.mill_model.specs.Log.{Task, recorded, sound}
use Rattle.mill_model.specs.Thrift.{AreThrifty, splits_thriftily}
use Rattle.mill_model.specs.declared.closing.Entry.{Entry}
use Rattle.mill_model.specs.declared.plan.Start.{Start}
use Rattle.order_symmetry.specs.Ranked.{RankedOrders}
use Rattle.refute_log.specs.declared.piece.Run.{Run}
use Rattle.search_step.specs.Honest.{IsKept}
use Rattle.search_step.specs.Promise.{AllFit, IsRun, IsThrifty, records_of}
use Rattle.search_step.specs.Resumable.{GoesOnFrom, IsResumable, start_of}
use Rattle.search_step.specs.Steps.{task_at}
use Rattle.search_step.proofs.GoingOn.{is-run}
use Rattle.core_machine.proofs.Drained.{left-where-spent}
use Rattle.core_machine.proofs.Joined.{joined-append}
use Rattle.core_machine.proofs.Promise.{are-thrifty-more, best-is-kept, best-loses, conserved-with}
use Rattle.core_machine.proofs.Promise.{counted-with, least-at-most, pieces-anew, pieces-thrifty}
use Rattle.core_machine.proofs.Promise.{sound-with}
use Rattle.core_machine.specs.Core.{Core, pieces_of, unclosed_of}
use Rattle.core_machine.specs.Ends.{IsAtEnd}
use Rattle.core_machine.specs.Kept.{MayStop}
use Rattle.core_machine.specs.Left.{IsLeftAfter}

-- what is conserved with some unclosed paths is so with the same in another order
conserved-again : (task : Task) (pieces : List (List Entry)) (xs ys : List (List ℕ)) →
    SameTimes same_list xs ys → IsConserved task pieces ys → IsConserved task pieces xs
conserved-again task pieces xs ys same run = record {
  paths = λ x. (let a = times-append same_list x (recorded (joined pieces)) xs in
      let b = times-append same_list x (recorded (joined pieces)) ys in
      let c = same x in
      let e = run.paths x in omega (arith, a, b, c, e));
  named = run.named;
}

-- nothing stands as often in the empty list
none-as-often : (xs : List (List ℕ)) → SameTimes same_list xs [] → xs ≡ []
none-as-often [] same = refl
none-as-often (x ∷ xs) same =
    let some = times-pos same_list same_list-refl x (x ∷ xs) (inl refl) in
    let none : times same_list x (x ∷ xs) ≡ 0 = same x in
    absurd (omega (arith, some, none))

module _ (ranked : RankedOrders) (charges : ChargeTable) (budget : ℕ) (given : Run)
    (resumable : IsResumable ranked charges budget given) (c : Core)
    (stop : MayStop ranked charges given.loss budget (length (joined (records_of given)))
    given.unclosed.items c) (run : Run) (left : IsLeftAfter given c run) where
  abbrev task : Task
  task = task_at ranked charges

  abbrev before : ℕ
  before = length (joined (records_of given))

  -- its loss is the least one, which is at most the given run's
  pub run-loses : run.loss ≡ c.shared.least
  run-loses =
      ap (λ (s : Start). s.loss) left.best
      ∙ best-loses ranked charges given.loss budget before given.unclosed.items c stop
      (start_of given) refl

  pub run-at-most : run.loss ≤ given.loss
  run-at-most =
      omega (
        arith,
        run-loses,
        least-at-most ranked charges given.loss budget before given.unclosed.items c stop,
      )

  all-conserved : IsConserved task (records_of run) run.unclosed.items
  all-conserved =
      subst (λ (l : List (List Entry)). IsConserved task l run.unclosed.items) (sym left.pieces)
      (conserved-again task (records_of given ++ pieces_of c) run.unclosed.items (unclosed_of c)
      left.unclosed
      (conserved-with ranked charges given.loss budget before given.unclosed.items c stop
      (records_of given) resumable.conserved))

  all-sound : EachRecord (records_of run)
      (λ entry. sound (task_at ranked charges) run.loss entry.path entry.closing ≡ true)
  all-sound =
      subst (λ (l : List (List Entry)).
      EachRecord l (λ entry. sound task run.loss entry.path entry.closing ≡ true))
      (sym left.pieces)
      (subst (λ (n : ℕ). EachRecord (records_of given ++ pieces_of c)
      (λ entry. sound task n entry.path entry.closing ≡ true)) (sym run-loses)
      (sound-with ranked charges given.loss budget before given.unclosed.items c stop
      (records_of given) resumable.conserved resumable.each_sound))

  pub run-resumable : AllByRecursion (AllFit ranked) (pieces_of c) →
      IsResumable ranked charges budget run
  run-resumable fit = record {
    conserved = all-conserved;
    each_sound = all-sound;
    fit = subst (λ (l : List (List Entry)). AllByRecursion (AllFit ranked) l) (sym left.pieces)
        (each-append (AllFit ranked) (records_of given) (pieces_of c) resumable.fit fit);
    plan = subst (IsKept ranked charges) (sym left.best)
        (best-is-kept ranked charges given.loss budget before given.unclosed.items c stop
        (start_of given) resumable.plan);
    count = ap (λ (l : List (List Entry)). length (joined l)) left.pieces
        ∙ counted-with ranked charges given.loss budget before given.unclosed.items c stop
        (records_of given) resumable.conserved refl
        ∙ ap (λ n. min n budget) (sym left.drawn);
  }

  thrifty-too : (loss : ℕ) → given.loss ≤ loss → IsThrifty ranked charges loss given →
      IsThrifty ranked charges loss run
  thrifty-too loss l earlier =
      let thrifty : AreThrifty task loss (joined (pieces_of c)) =
      are-thrifty-more task given.loss loss (joined (pieces_of c)) l
      (pieces-thrifty ranked charges given.loss budget before given.unclosed.items c stop) in
      let whole : joined (records_of run) ≡ joined (records_of given) ++ joined (pieces_of c) =
      ap joined left.pieces ∙ joined-append (records_of given) (pieces_of c) in
      record {
        thrifty = subst (AreThrifty task loss) (sym whole)
            (each-append
            (λ entry. splits_thriftily task loss entry.path entry.closing ≡ true)
            (joined (records_of given)) (joined (pieces_of c)) earlier.thrifty thrifty);
      }

  pub run-goes-on : given.drawn ≤ c.shared.drawn → GoesOnFrom ranked charges given run
  run-goes-on more = record {
    more = pieces_of c;
    pieces = left.pieces;
    anew = pieces-anew ranked charges given.loss budget before given.unclosed.items c stop;
    drawn = omega (arith, more, left.drawn);
    thrifty = thrifty-too;
  }

  -- at the end of their run it keeps the promise of a run
  pub run-keeps-promise : AllByRecursion (AllFit ranked) (pieces_of c) → IsAtEnd budget c →
      IsRun ranked charges given.loss budget run
  run-keeps-promise fit ends =
      is-run ranked charges given.loss budget run (run-resumable fit) run-at-most (λ some.
      subst (λ n. budget < n) (sym left.drawn)
      (left-where-spent budget c ends (λ none. some (none-as-often run.unclosed.items
      (subst (λ (l : List (List ℕ)). SameTimes same_list run.unclosed.items l) none
      left.unclosed)))))
