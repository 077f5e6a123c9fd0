-- What the log of some pieces keeps, where it has their records in another order.
use Rattle.std.proofs.Common.{ℕ, ◌^◌, ◌<◌, ◌≤◌, ◌≡◌, true, All, List, [], ◌∷◌, length, subst}
use Rattle.std.proofs.Common.{append-nil}
use Rattle.std.specs.List.Sorted.{IsPermutation}
use Rattle.std.proofs.lemmas.List.Sorted.{All-permutation, length_permutation}
use Rattle.std.proofs.lemmas.List.Sums.{list_all-from_AllPass}
use Rattle.list_laws.specs.Sets.{same_list, times, SameTimes}
use Rattle.mill_model.specs.Log.{recorded, split_children}
use Rattle.mill_model.specs.Conserved.{joined}
use Rattle.mill_model.specs.declared.closing.Entry.{Entry}
use Rattle.mill_model.specs.declared.limits.TheConstants.{MAX_NODES}
use Rattle.mill_laws.proofs.Merged.{named-all}
use Rattle.mill_laws.proofs.RunLaws.{no-path-twice}
use Rattle.refute_log.specs.Fits.{fits}
use Rattle.refute_log.specs.Logged.{IsLog}
use Rattle.refute_log.specs.Rising.{rises}
use Rattle.piece_merge.specs.Merging.{AreOfAWholeRun, IsRecordedOnce, IsCompleteLogOf}
use Rattle.piece_merge.specs.Merging.{NamesSettledPaths}
use Rattle.piece_merge.proofs.Reordered.{complete-moved, named-moved}

module _ (pieces : List (List Entry)) where
  -- pieces of a whole run record no path twice
  pub recorded-once : AreOfAWholeRun pieces → IsRecordedOnce (joined pieces)
  recorded-once whole path =
      subst (λ paths. times same_list path paths ≤ 1) (append-nil (recorded (joined pieces)))
      (no-path-twice whole.task pieces [] path whole.conserved)

  module _ (records log : List Entry) (are : records ≡ joined pieces)
      (reordered : IsPermutation records log) where
    moved : IsPermutation (joined pieces) log
    moved = subst (λ given. IsPermutation given log) are reordered

    pub merged-complete : IsCompleteLogOf pieces log
    merged-complete = record {
      complete = λ task conserved. complete-moved (joined pieces) log moved task
          (subst (λ paths. SameTimes same_list paths ([] ∷ split_children task (joined pieces)))
          (append-nil (recorded (joined pieces))) conserved.paths);
    }

    pub merged-named : AreOfAWholeRun pieces → NamesSettledPaths log
    merged-named whole =
        named-moved (joined pieces) log moved (named-all pieces whole.conserved.named)

    pub merged-log : (orders : ℕ) → orders < 2 ^ 16 →
        All (λ entry. fits orders entry ≡ true) (joined pieces) →
        length (joined pieces) ≤ MAX_NODES → rises (recorded log) ≡ true →
        IsLog (record { orders = orders; entries = log })
    merged-log orders small fit few rise = record {
      few_orders = small;
      few_entries = rw (length_permutation (joined pieces) log moved) few;
      fit = list_all-from_AllPass (fits orders) log
          (All-permutation (λ entry. fits orders entry ≡ true) (joined pieces) log moved fit);
      rise = rise;
    }
