-- Where the search of a problem's tree begins, and what it has when it ends.
use Rattle.std.specs.Prelude.{ℕ, ◌≡◌, ◌≢◌, ◌<◌, ◌≤◌, Bool, true, false, min, List, [], length}
use Rattle.std.specs.Prelude.{Option, None}
use Rattle.mill_model.specs.Best.{IsStartOf}
use Rattle.mill_model.specs.Conserved.{joined, IsConserved}
use Rattle.mill_model.specs.Instance.{Problem, mill_of, loss_charge}
use Rattle.mill_model.specs.Log.{sound}
use Rattle.mill_model.specs.Pairs.{IsPossibleStart}
use Rattle.mill_model.specs.Thrift.{AreThrifty}
use Rattle.mill_model.specs.declared.limits.Limits.{Limits}
use Rattle.mill_laws.specs.RunLaws.{EachRecord}
use Rattle.loss_table.specs.Charges.{AreCharges}
use Rattle.order_symmetry.specs.Ranked.{IsRankOf}
use Rattle.refute_log.specs.Fits.{fits}
use Rattle.refute_log.specs.Logged.{Logged}
use Rattle.refute_log.specs.declared.piece.Run.{Run}
use Rattle.search_step.specs.Honest.{IsKept}
use Rattle.search_step.specs.Promise.{records_of}
use Rattle.solve_answer.specs.Course.{Course}
use Rattle.solve_answer.specs.Searched.{loss_task, OfStartBound, IsOfASearch}
use Rattle.solve_answer.specs.Solved.{HasRefutation}
use Rattle.solve_answer.specs.declared.start.Beginning.{Beginning}

-- the charges and the rank of a problem, and a possible start for so many moves, with its loss
pub record IsBeginning (problem : Problem) (moves : ℕ) (beginning : Beginning) : Type 0 where
  pub charged : AreCharges problem beginning.charges
  pub ranked : IsRankOf problem beginning.ranked
  pub begins : IsKept beginning.ranked beginning.charges beginning.start
  pub possible : IsPossibleStart (mill_of problem) (loss_charge problem.sizes) problem.orders moves
      beginning.start.plan

-- A run is that of a search by these limits, whose workers took this course, to its end: no path is
-- lost or recorded twice, each record is sound for what its plan loses, and thrifty for the start
-- bound, each ticket is a record, and a path is left only where tickets wanted.
pub record HasSearched (limits : Limits) (course : Course) (problem : Problem) (run : Run)
    : Type 0 where
  pub conserved : IsConserved (loss_task problem) (records_of run) run.unclosed.items
  pub each_sound :
      EachRecord (records_of run)
      (λ entry. sound (loss_task problem) run.loss entry.path entry.closing ≡ true)
  pub fit : EachRecord (records_of run) (λ entry. fits (length problem.orders) entry ≡ true)
  pub plan :
      IsStartOf problem (loss_charge problem.sizes)
      (record { plan = run.plan; loss = run.loss })
  pub at_most : OfStartBound problem limits.moves (λ bound. run.loss ≤ bound)
  pub thrifty :
      OfStartBound problem limits.moves
      (λ bound. AreThrifty (loss_task problem) bound (joined (records_of run)))
  pub count : length (joined (records_of run)) ≡ min run.drawn limits.nodes
  pub left : run.unclosed.items ≢ [] → limits.nodes < run.drawn
  pub of_a_search : IsOfASearch limits course problem run

-- the log of a best plan: where it is asked for it refutes the loss, and else there is none
abbrev pub HasLogAsAsked : Bool → Limits → Course → Problem → ℕ → Option Logged → Type 0
HasLogAsAsked true limits course problem = HasRefutation limits course problem
HasLogAsAsked false limits course problem = λ loss log. log ≡ None
