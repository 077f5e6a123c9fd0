-- Runs that can be gone on from: the promise of a run, and what goes on from a run more than once.
use Rattle.std.proofs.Common.{ℕ, ◌≤◌, ◌<◌, ◌≢◌, List, [], ◌++◌, sym, ap, ◌∙◌, arith}
use Rattle.std.proofs.Common.{append-nil, append_assoc}
use Rattle.list_laws.proofs.Among.{each-append}
use Rattle.mill_model.specs.Charges.{ChargeTable}
use Rattle.mill_model.specs.declared.closing.Entry.{Entry}
use Rattle.order_symmetry.specs.Ranked.{RankedOrders}
use Rattle.refute_log.specs.declared.piece.Run.{Run}
use Rattle.search_step.specs.Promise.{IsRun, SplitsEachAnew, records_of}
use Rattle.search_step.specs.Resumable.{GoesOnFrom, IsResumable}

-- a run that can be gone on from keeps the promise of a run, where its loss is at most the start's
-- and a path is left only where tickets wanted
pub is-run : (ranked : RankedOrders) (charges : ChargeTable) (start nodes : ℕ) (run : Run) →
    IsResumable ranked charges nodes run → run.loss ≤ start →
    (run.unclosed.items ≢ [] → nodes < run.drawn) → IsRun ranked charges start nodes run
is-run ranked charges start nodes run resumable at_most left = record {
  conserved = resumable.conserved;
  each_sound = resumable.each_sound;
  fit = resumable.fit;
  plan = resumable.plan.plan;
  at_most = at_most;
  count = resumable.count;
  left = left;
}

-- each run goes on from itself
pub goes-on-itself : (ranked : RankedOrders) (charges : ChargeTable) (run : Run) →
    GoesOnFrom ranked charges run run
goes-on-itself ranked charges run = record {
  more = [];
  pieces = sym (append-nil (records_of run));
  anew = tt;
  drawn = omega arith;
  thrifty = λ loss l thrifty. thrifty;
}

-- what goes on from a run that went on from another with no greater loss goes on from that one
pub goes-on-twice : (ranked : RankedOrders) (charges : ChargeTable) (given between run : Run) →
    between.loss ≤ given.loss → GoesOnFrom ranked charges given between →
    GoesOnFrom ranked charges between run → GoesOnFrom ranked charges given run
goes-on-twice ranked charges given between run less first second = record {
  more = first.more ++ second.more;
  pieces = second.pieces ∙ ap (λ (l : List (List Entry)). l ++ second.more) first.pieces
      ∙ append_assoc (records_of given) first.more second.more;
  anew = each-append (SplitsEachAnew ranked charges) first.more second.more first.anew second.anew;
  drawn = omega (arith, first.drawn, second.drawn);
  thrifty = λ loss l thrifty.
      second.thrifty loss (omega (arith, l, less)) (first.thrifty loss l thrifty);
}
