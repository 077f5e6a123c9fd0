-- The rows compute, once the list of the charges is known.
use Rattle.std.proofs.Common.{ℕ, ◌≡◌, ◌≤◌, true, List, [], ◌∷◌, map, Some, None, refl, sym, subst}
use Rattle.std.proofs.Common.{All}
use Rattle.std.proofs.Common.{slice_index}
use Rattle.mill_model.specs.Charges.{ChargeTable}
use Rattle.mill_model.specs.Log.{recorded}
use Rattle.mill_model.specs.declared.charges.TheConstants.{MAX_CHARGE}
use Rattle.core_machine.specs.Core.{after_rounds, pieces_of, start_state}
use Rattle.core_machine.specs.Rows.{FindsAPlan, KeyInOrder, PlanInTheFile, PublishesItsLoss}
use Rattle.core_machine.specs.Rows.{DoneAlone, FirstRecords, HoldsWhatItStole, RecordsAlone}
use Rattle.core_machine.specs.Rows.{ThiefRecords, four_charges, one_and_again, three, two_after}

-- what is so of each table with a list is so of a table with that list
for-list : (P : ChargeTable → Type 0) (list : List ℕ) →
    ((free : slice_index list 0 ≡ 0) (limit : All (λ charge. charge ≤ MAX_CHARGE) list) →
    P (record { list = list; free = free; limit = limit })) →
    (charges : ChargeTable) → charges.list ≡ list → P charges
for-list P list h charges e =
    subst (λ (l : List ℕ). (free : slice_index l 0 ≡ 0)
    (limit : All (λ charge. charge ≤ MAX_CHARGE) l) →
    P (record { list = l; free = free; limit = limit })) (sym e) h charges.free charges.limit

pub holds-what-it-stole : HoldsWhatItStole
holds-what-it-stole =
    for-list (λ charges. map (λ w. w.held) (two_after charges one_and_again).workers
    ≡ None ∷ Some [] ∷ []) four_charges (λ free limit. refl)

pub thief-records : ThiefRecords
thief-records =
    for-list (λ charges. map recorded (pieces_of (after_rounds three charges 1 12
    (two_after charges one_and_again)).0) ≡ [] ∷ ([] ∷ []) ∷ []) four_charges
    (λ free limit. refl)

pub first-records : FirstRecords
first-records =
    for-list (λ charges. map recorded (pieces_of (after_rounds three charges 1 12
    (two_after charges [])).0) ≡ ([] ∷ []) ∷ [] ∷ []) four_charges (λ free limit. refl)

pub done-alone : DoneAlone
done-alone =
    for-list (λ charges. (after_rounds three charges 1000 30 (start_state three 1 4)).1 ≡ true)
    four_charges (λ free limit. refl)

pub records-alone : RecordsAlone
records-alone =
    for-list (λ charges. map recorded (pieces_of (after_rounds three charges 1000 30
    (start_state three 1 4)).0)
    ≡ ([] ∷ (0 ∷ []) ∷ (0 ∷ 0 ∷ []) ∷ (0 ∷ 1 ∷ []) ∷ []) ∷ []) four_charges
    (λ free limit. refl)

pub finds-a-plan : FindsAPlan
finds-a-plan =
    for-list (λ charges. map (λ w. w.best) (after_rounds three charges 1000 60
    (start_state three 1 9)).0.workers
    ≡ Some (record { plan = 0 ∷ 1 ∷ 0 ∷ []; loss = 4 }) ∷ []) four_charges (λ free limit. refl)

pub publishes-its-loss : PublishesItsLoss
publishes-its-loss =
    for-list (λ charges. (after_rounds three charges 1000 60
    (start_state three 1 9)).0.shared.least ≡ 4) four_charges (λ free limit. refl)

pub plan-in-the-file : PlanInTheFile
plan-in-the-file = refl

pub key-in-order : KeyInOrder
key-in-order = refl
