-- What is found with a table of charges is so with the charge of the definition, for the table
-- is that charge.
use Rattle.std.proofs.Common.{◌≡◌, ℕ, Bool, List, refl, ap, subst}
use Rattle.mill_model.specs.Instance.{Problem, mill_of, loss_charge}
use Rattle.mill_model.specs.Plan.{NoneLosesLess, IsPlanWithLoss}
use Rattle.mill_model.specs.Log.{Task, Refutes, task_of}
use Rattle.mill_model.specs.declared.closing.Entry.{Entry}
use Rattle.log_checker.specs.Verdict.{is_wrong, IsFirst}
use Rattle.judge_answer.specs.Check.{IsLegalWith}
use Rattle.judge_answer.specs.Verify.{loss_task, IsVerified, IsFirstFault}

module _ (problem : Problem) (table : ℕ → ℕ) (same : table ≡ loss_charge problem.sizes) where
  -- a legal plan
  pub tabled-legal : (plan : List ℕ) (loss : ℕ) →
      IsPlanWithLoss (mill_of problem) table problem.orders plan loss →
      IsLegalWith problem plan loss
  tabled-legal plan loss legal =
      subst (λ charge. IsPlanWithLoss (mill_of problem) charge problem.orders plan loss) same legal

  -- what a log is judged by
  abbrev pub tabled : Task
  tabled = task_of problem table

  same-task : tabled ≡ loss_task problem
  same-task = ap (λ charge. task_of problem charge) same

  -- a plan that is legal and loses what is stated, and its log
  module _ (stated : ℕ) (plan : List ℕ) (log : List Entry)
      (legal : IsLegalWith problem plan stated) where
    pub tabled-verified : Refutes tabled stated log →
        NoneLosesLess (mill_of problem) table problem.orders stated →
        IsVerified problem stated plan log stated
    tabled-verified refuted least = record {
      legal = legal;
      is_stated = refl;
      refuted = subst (λ task. Refutes task stated log) same-task refuted;
      least = subst (λ charge. NoneLosesLess (mill_of problem) charge problem.orders stated) same
          least;
    }

    -- a fault of a kind that a task tells
    pub tabled-fault : (is_kind : Task → List ℕ → Bool) (path : List ℕ) →
        IsFirst (is_kind tabled) (is_wrong tabled stated log) path →
        IsFirstFault problem stated plan log (is_kind (loss_task problem)) path
    tabled-fault is_kind path first = record {
      legal = legal;
      first = subst (λ task. IsFirst (is_kind task) (is_wrong task stated log) path) same-task
          first;
    }
