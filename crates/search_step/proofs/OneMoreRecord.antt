-- What holds of a worker's records holds with one more that is sound, thrifty, names what is split
-- and splits nothing for which a path stands that was split before.
use Rattle.std.proofs.Common.{◌≡◌, ◌<◌, ◌≤◌, ◌⊎◌, inl, ℕ, ◌+◌, Bool, true, false, List, [], ◌∷◌}
use Rattle.std.proofs.Common.{◌++◌, length, get_or, Option, Some, None, refl, ap, arith}
use Rattle.std.proofs.Common.{length-append}
use Rattle.std.proofs.lemmas.List.Quantifiers.{all_pairs_push}
use Rattle.std.specs.List.{AllByRecursion, AllPairs}
use Rattle.list_laws.proofs.Among.{each-append, each-weaker}
use Rattle.list_laws.proofs.Tests.{clash}
use Rattle.mill_laws.proofs.Merged.{sound-less}
use Rattle.mill_model.specs.Log.{Task, sound}
use Rattle.mill_model.specs.Thrift.{AreThrifty, splits_thriftily}
use Rattle.mill_model.specs.declared.closing.Entry.{Entry}
use Rattle.mill_model.specs.declared.closing.Closing.{Closing}
use Rattle.mill_model.specs.declared.closing.Closing.TheVariants.{Split, Leaf, Priced, Dominated}
use Rattle.mill_model.specs.declared.plan.Start.{Start}
use Rattle.nogood_store.specs.declared.store.Entry.{Entry as Noted}
use Rattle.search_step.specs.Honest.{IsHonest, IsKept, IsNotedIn, KeepsHonest, KeepsPlan}
use Rattle.search_step.specs.Honest.{SplitsAnew, has_split, is_split, names_split}
use Rattle.search_step.specs.Moves.{pushing_or_resting}
use Rattle.search_step.specs.Parts.{Parts}
use Rattle.search_step.specs.Steps.{task_at}
use Rattle.search_step.specs.Worker.{WorkerParts}
use Rattle.search_step.specs.declared.parts.Phase.{Phase}
use Rattle.search_step.specs.declared.parts.Phase.TheVariants.{Resting, Taking, Stealing, Holding}
use Rattle.search_step.specs.declared.parts.Phase.TheVariants.{Halting, Ended, Bounding, Publishing}
use Rattle.search_step.specs.declared.parts.Phase.TheVariants.{Closing as ClosingNow, Pushing}
use Rattle.search_step.proofs.SplitRecords.{names-more, split-more}

-- the phase in which a loss is published
abbrev pub is_publishing : Phase → Bool
is_publishing Resting = false
is_publishing Taking = false
is_publishing Stealing = false
is_publishing Holding = false
is_publishing Halting = false
is_publishing Ended = false
is_publishing Bounding = false
is_publishing ClosingNow = false
is_publishing Publishing = true
is_publishing Pushing = false

pub not-publishing : (phase : Phase) → is_publishing phase ≡ false → phase ≡ Publishing → ⊥
not-publishing phase other is = clash (is_publishing phase) (ap is_publishing is) other

pub opened-publishing : (paths : List (List ℕ)) →
    is_publishing (pushing_or_resting paths) ≡ false
opened-publishing [] = refl
opened-publishing (path ∷ paths) = refl

module _ (worker : WorkerParts) (path : List ℕ) where
  abbrev parts : Parts
  parts = worker.parts

  abbrev task : Task
  task = task_at worker.ranked worker.charges

  abbrev entry : Closing → Entry
  entry closing = record { path = path; closing = closing }

  abbrev piece : Closing → List Entry
  piece closing = worker.parts.piece ++ entry closing ∷ []

  pub one-more : (closing : Closing) →
      length (worker.parts.piece ++ record { path = path; closing = closing } ∷ [])
      ≡ length worker.parts.piece + 1
  one-more closing = length-append worker.parts.piece (entry closing ∷ [])

  module _ (start : ℕ) (honest : IsHonest worker.ranked worker.charges start worker.parts)
      (closing : Closing) where
    pub records-more : (known : ℕ) → known ≤ worker.parts.known →
        sound task known path closing ≡ true →
        AllByRecursion (λ e. sound task known e.path e.closing ≡ true) (piece closing)
    records-more known less is_sound =
        each-append (λ (e : Entry). sound task known e.path e.closing ≡ true) parts.piece
        (entry closing ∷ [])
        (each-weaker (λ e. sound task parts.known e.path e.closing ≡ true)
        (λ e. sound task known e.path e.closing ≡ true) parts.piece
        (λ e holds. sound-less task parts.known known e.path e.closing less holds) honest.records)
        (is_sound, tt)

    pub named-more : names_split worker.parts.piece closing ≡ true →
        AllByRecursion (λ e. names_split (piece closing) e.closing ≡ true) (piece closing)
    named-more names =
        each-append (λ (e : Entry). names_split (piece closing) e.closing ≡ true) parts.piece
        (entry closing ∷ [])
        (each-weaker (λ e. names_split parts.piece e.closing ≡ true)
        (λ e. names_split (piece closing) e.closing ≡ true) parts.piece
        (λ e holds. names-more parts.piece (entry closing ∷ []) e.closing holds) honest.named)
        (names-more parts.piece (entry closing ∷ []) closing names, tt)

    pub split-still : AllByRecursion
        (λ (note : Noted). has_split (piece closing) note.path ≡ true) worker.parts.store.entries
    split-still =
        each-weaker (λ (note : Noted). has_split parts.piece note.path ≡ true)
        (λ (note : Noted). has_split (piece closing) note.path ≡ true) parts.store.entries
        (λ note holds. split-more parts.piece (entry closing ∷ []) note.path holds) honest.split

    pub thrifty-more : splits_thriftily task start path closing ≡ true →
        AreThrifty task start (piece closing)
    thrifty-more thrifty =
        each-append (λ (e : Entry). splits_thriftily task start e.path e.closing ≡ true)
        parts.piece (entry closing ∷ []) honest.thrifty (thrifty, tt)

    pub anew-more : (length worker.parts.piece ≤ 65536 → (earlier : Entry) (k : ℕ) →
        k < length worker.parts.piece →
        SplitsAnew task (get_or worker.parts.piece k earlier) (entry closing)) →
        length (piece closing) ≤ 65536 → AllPairs (SplitsAnew task) (piece closing)
    anew-more new few =
        let less : length parts.piece ≤ 65536 = (let m = one-more closing in omega arith) in
        all_pairs_push (SplitsAnew task) parts.piece (entry closing) (honest.anew less)
        (λ k d m. new less d k m)

  abbrev closed_by : Closing → Phase → ℕ → Option Start → Parts
  closed_by closing phase known best =
      record worker.parts {
        phase = phase;
        held = None;
        piece = piece closing;
        known = known;
        best = best;
      }

  abbrev StaysHonest : Parts → Type 0
  StaysHonest became = KeepsHonest worker.ranked worker.charges worker.parts became

  -- one more record that doesn't split its path
  pub record-honest : (closing : Closing) (phase : Phase) (known : ℕ) (best : Option Start) →
      known ≤ worker.parts.known → sound task known path closing ≡ true →
      is_split closing ≡ false →
      ((start : ℕ) → IsHonest worker.ranked worker.charges start worker.parts →
      names_split worker.parts.piece closing ≡ true) →
      ((start : ℕ) → IsHonest worker.ranked worker.charges start worker.parts →
      (kept : Start) → best ≡ Some kept →
      IsKept worker.ranked worker.charges kept × (known ≤ kept.loss)) →
      (best ≡ worker.parts.best)
      ⊎ ((kept : Start) × KeepsPlan worker.parts (closed_by closing phase known best) kept) →
      (phase ≡ Publishing →
      (kept : Start) × KeepsPlan worker.parts (closed_by closing phase known best) kept) →
      StaysHonest (closed_by closing phase known best)
  record-honest closing phase known best less is_sound unsplit names keeps plan publishes = record {
    falls = less;
    plan = plan;
    publishes = publishes;
    keeps = λ start honest. record {
      at_most = (let a = honest.at_most in omega arith);
      records = records-more start honest closing known less is_sound;
      named = named-more start honest closing (names start honest);
      split = split-still start honest closing;
      kept = λ kept e. (keeps start honest kept e).0;
      above = λ kept e. (keeps start honest kept e).1;
      thrifty = thrifty-more start honest closing (thrifty closing unsplit start);
      anew = anew-more start honest closing (λ few earlier k m. record {
        anew = λ a split. absurd (clash (is_split closing) split unsplit);
      });
      noted = λ few. each-append (IsNotedIn task parts.store.entries) parts.piece
          (entry closing ∷ []) (honest.noted (let m = one-more closing in omega arith))
          (record { noted = λ split s. absurd (clash (is_split closing) split unsplit) }, tt);
      notes = (let a = honest.notes in let m = one-more closing in omega arith);
    };
  }
    where
      thrifty : (closing : Closing) → is_split closing ≡ false → (start : ℕ) →
          splits_thriftily (task_at worker.ranked worker.charges) start path closing ≡ true
      thrifty Split unsplit start = absurd (clash true refl unsplit)
      thrifty Leaf unsplit start = refl
      thrifty (Priced prices) unsplit start = refl
      thrifty (Dominated other) unsplit start = refl

  -- with the same known loss and plan
  pub plain-honest : (closing : Closing) → sound task worker.parts.known path closing ≡ true →
      is_split closing ≡ false →
      ((start : ℕ) → IsHonest worker.ranked worker.charges start worker.parts →
      names_split worker.parts.piece closing ≡ true) →
      StaysHonest (closed_by closing Resting worker.parts.known worker.parts.best)
  plain-honest closing is_sound unsplit names =
      record-honest closing Resting parts.known parts.best (omega arith) is_sound unsplit names
      (λ start honest kept e. (honest.kept kept e, honest.above kept e)) (inl refl)
      (λ e. absurd (not-publishing Resting refl e))
