-- Each step keeps a worker honest. Only a look and a closing change what honesty speaks of. A look
-- lowers the known loss, and what is sound for a loss is sound for a lesser one. A closing adds one
-- record, which is sound, and what held of the earlier records holds beside it.
use Rattle.std.proofs.Common.{◌≡◌, ◌<◌, ◌≤◌, ℕ, Bool, true, false, cond, min, ltb, List, Option}
use Rattle.std.proofs.Common.{Some, None, inl, refl, sym, ◌∙◌, subst, arith}
use Rattle.list_laws.proofs.Among.{each-weaker}
use Rattle.mill_laws.proofs.Merged.{sound-less}
use Rattle.mill_model.specs.Charges.{ChargeTable}
use Rattle.mill_model.specs.Log.{Task, sound}
use Rattle.mill_model.specs.declared.limits.Draw.{Draw}
use Rattle.mill_model.specs.declared.limits.Draw.TheVariants.{Ticket, Spent}
use Rattle.mill_model.specs.declared.limits.Standing.{Standing}
use Rattle.mill_model.specs.declared.limits.Standing.TheVariants.{Going, Halted, Drained}
use Rattle.mill_model.specs.declared.plan.Start.{Start}
use Rattle.order_symmetry.specs.Ranked.{RankedOrders}
use Rattle.search_step.specs.Honest.{IsHonest, KeepsHonest}
use Rattle.search_step.specs.Moves.{aim, drew, front, hold, last_of, looked, new_worker, pushed}
use Rattle.search_step.specs.Moves.{rested, stole, to, took}
use Rattle.search_step.specs.Parts.{Parts}
use Rattle.search_step.specs.Steps.{Becomes, FitsMill, IsSafe, Pushes, StepAt, Steps}
use Rattle.search_step.specs.Steps.{task_at}
use Rattle.search_step.specs.Worker.{WorkerParts, IsWorker}
use Rattle.search_step.specs.declared.event.Event.{Event}
use Rattle.search_step.specs.declared.parts.Phase.{Phase}
use Rattle.search_step.specs.declared.parts.Phase.TheVariants.{Resting, Taking, Stealing, Holding}
use Rattle.search_step.specs.declared.parts.Phase.TheVariants.{Halting, Ended, Bounding, Publishing}
use Rattle.search_step.specs.declared.parts.Phase.TheVariants.{Closing as ClosingNow, Pushing}
use Rattle.search_step.specs.declared.parts.Turn.{Turn}
use Rattle.search_step.specs.declared.parts.Turn.TheVariants.{Moved, Drew, Idle, Stopped}
use Rattle.search_step.specs.declared.parts.Turn.TheVariants.{OutOfMemory}
use Rattle.search_step.proofs.HonestClosing.{close-honest}
use Rattle.search_step.proofs.OneMoreRecord.{is_publishing, not-publishing, opened-publishing}

idle-publishing : (several : Bool) → is_publishing (cond several Stealing Resting) ≡ false
idle-publishing true = refl
idle-publishing false = refl

module _ {H : Type 0} (did : H → Event → H → Type 0) (worker : WorkerParts)
    (is : IsWorker worker) (before after : H) where
  abbrev parts : Parts
  parts = worker.parts

  abbrev task : Task
  task = task_at worker.ranked worker.charges

  abbrev StaysHonest : Parts → Type 0
  StaysHonest became = KeepsHonest worker.ranked worker.charges worker.parts became

  -- with the same records, notes, known loss and plan
  unchanged : (phase : Phase) (held : Option (List ℕ)) (waiting : List (List ℕ)) (victim : ℕ) →
      is_publishing phase ≡ false → StaysHonest
      (record worker.parts { phase = phase; held = held; waiting = waiting; victim = victim })
  unchanged phase held waiting victim no_news = record {
    falls = omega arith;
    plan = inl refl;
    publishes = λ e. absurd (not-publishing phase no_news e);
    keeps = λ start honest. record {
      at_most = honest.at_most;
      records = honest.records;
      named = honest.named;
      split = honest.split;
      kept = honest.kept;
      above = honest.above;
      thrifty = honest.thrifty;
      anew = honest.anew;
      noted = honest.noted;
      notes = honest.notes;
    };
  }

  stays : (phase : Phase) → worker.parts.phase ≡ phase → is_publishing phase ≡ false →
      StaysHonest worker.parts
  stays phase here no_news = record {
    falls = omega arith;
    plan = inl refl;
    publishes = λ e. absurd (not-publishing phase no_news (sym here ∙ e));
    keeps = λ start honest. honest;
  }

  carry : (became same : Parts) → became ≡ same → StaysHonest same → StaysHonest became
  carry became same e honest = subst StaysHonest (sym e) honest

  look-honest : (least : ℕ) → StaysHonest (looked worker.parts least).0
  look-honest least = record {
    falls = omega arith;
    plan = inl refl;
    publishes = λ e. absurd (not-publishing ClosingNow refl e);
    keeps = λ start honest. record {
      at_most = (let a = honest.at_most in omega arith);
      records = each-weaker (λ entry. sound task parts.known entry.path entry.closing ≡ true)
          (λ entry. sound task (min parts.known least) entry.path entry.closing ≡ true) parts.piece
          (λ entry is_sound. sound-less task parts.known (min parts.known least) entry.path
          entry.closing (omega arith) is_sound) honest.records;
      named = honest.named;
      split = honest.split;
      kept = honest.kept;
      above = λ kept e. (let a = honest.above kept e in omega arith);
      thrifty = honest.thrifty;
      anew = honest.anew;
      noted = honest.noted;
      notes = honest.notes;
    };
  }

  push-honest : worker.parts.phase ≡ Pushing → (turn : Turn) (became : Parts)
      (path : Option (List ℕ)) → Pushes did path worker.parts before turn became after →
      StaysHonest became
  push-honest here turn became None step =
      carry became (to Resting parts) step.1.0
      (unchanged Resting parts.held parts.waiting parts.victim refl)
  push-honest here Moved became (Some path) step =
      carry became (pushed parts (front parts.waiting)).0 step.1.0
      (unchanged _ parts.held (front parts.waiting) parts.victim
      (opened-publishing (front parts.waiting)))
  push-honest here OutOfMemory became (Some path) step =
      carry became parts step.1 (stays Pushing here refl)
  push-honest here Drew became (Some path) step = absurd step
  push-honest here Idle became (Some path) step = absurd step
  push-honest here Stopped became (Some path) step = absurd step

  rest-honest : worker.parts.phase ≡ Resting → (turn : Turn) (became : Parts)
      (standing : Standing) → Becomes became turn (rested worker.parts standing) →
      StaysHonest became
  rest-honest here turn became Going same =
      carry became (to Taking parts) same.0
      (unchanged Taking parts.held parts.waiting parts.victim refl)
  rest-honest here turn became Halted same =
      carry became parts same.0 (stays Resting here refl)
  rest-honest here turn became Drained same =
      carry became parts same.0 (stays Resting here refl)

  take-honest : (turn : Turn) (became : Parts) (path : Option (List ℕ)) →
      Becomes became turn (took worker.workers worker.parts path) → StaysHonest became
  take-honest turn became None same =
      carry became (took worker.workers parts None).0 same.0
      (unchanged _ parts.held parts.waiting parts.victim (idle-publishing (ltb 1 worker.workers)))
  take-honest turn became (Some path) same =
      carry became (hold path parts) same.0
      (unchanged Holding (Some path) parts.waiting parts.victim refl)

  steal-honest : (turn : Turn) (became : Parts) (path : Option (List ℕ)) →
      Becomes became turn (stole worker.workers worker.number worker.parts path) →
      StaysHonest became
  steal-honest turn became None same =
      carry became (stole worker.workers worker.number parts None).0 same.0
      (unchanged Resting parts.held parts.waiting _ refl)
  steal-honest turn became (Some path) same =
      carry became (hold path (aim worker.workers worker.number parts)) same.0
      (unchanged Holding (Some path) parts.waiting _ refl)

  draw-honest : (turn : Turn) (became : Parts) (draw : Draw) →
      Becomes became turn (drew worker.parts draw) → StaysHonest became
  draw-honest turn became (Ticket t) same =
      carry became (to Bounding parts) same.0
      (unchanged Bounding parts.held parts.waiting parts.victim refl)
  draw-honest turn became (Spent t) same =
      carry became (to Halting parts) same.0
      (unchanged Halting parts.held parts.waiting parts.victim refl)

  honest-at : (phase : Phase) → worker.parts.phase ≡ phase → (turn : Turn) (became : Parts) →
      StepAt did worker.ranked worker.charges worker.workers worker.number phase worker.parts
      before turn became after → StaysHonest became
  honest-at Resting here turn became (standing, happened, same) =
      rest-honest here turn became standing same
  honest-at Taking here turn became (path, happened, tree, same) =
      take-honest turn became path same
  honest-at Stealing here turn became (path, happened, tree, same) =
      steal-honest turn became path same
  honest-at Holding here turn became (draw, happened, same) = draw-honest turn became draw same
  honest-at Halting here turn became (happened, same) =
      carry became (to Ended parts) same.0
      (unchanged Ended parts.held parts.waiting parts.victim refl)
  honest-at Ended here turn became (happened, same) =
      carry became parts same.0 (stays Ended here refl)
  honest-at Bounding here turn became (least, happened, same) =
      carry became (looked parts least).0 same.0 (look-honest least)
  honest-at ClosingNow here turn became (happened, closes) =
      close-honest worker is here turn became closes (stays ClosingNow here refl)
  honest-at Publishing here turn became (least, happened, same) =
      carry became (to Resting parts) same.0
      (unchanged Resting parts.held parts.waiting parts.victim refl)
  honest-at Pushing here turn became step =
      push-honest here turn became (last_of parts.waiting) step

pub steps-stay-honest : {H : Type 0} (did : H → Event → H → Type 0) (ranked : RankedOrders)
    (charges : ChargeTable) (workers number : ℕ) (w : Parts) (before after : H) →
    number < workers → workers ≤ 64 → FitsMill ranked charges →
    IsSafe ranked charges workers number w → (turn : Turn) (became : Parts) →
    Steps did ranked charges workers number w before turn became after →
    KeepsHonest ranked charges w became
steps-stay-honest did ranked charges workers number w before after among few fits safe turn became
    step =
    let worker : WorkerParts = record {
      ranked = ranked;
      charges = charges;
      number = number;
      workers = workers;
      parts = w;
    } in
    honest-at did worker (record { among = among; few = few; fits = fits; safe = safe }) before
    after w.phase refl turn became step

-- a new worker is honest for the loss that it is given
pub new-honest : (ranked : RankedOrders) (charges : ChargeTable) (workers orders loss number : ℕ) →
    IsHonest ranked charges loss (new_worker workers orders loss number)
new-honest ranked charges workers orders loss number = record {
  at_most = omega arith;
  records = tt;
  named = tt;
  split = tt;
  kept = λ best e. absurd (none-some best e);
  above = λ best e. absurd (none-some best e);
  thrifty = tt;
  anew = λ few i j d l m. absurd (omega arith);
  noted = λ few. tt;
  notes = omega arith;
}
  where
    none-some : (best : Start) → None ≡ Some best → ⊥
    none-some best e = cc
