-- A new crew, the paths that it is given, and what is taken from it in the end.
use Rattle.std.proofs.Common.{ℕ, zero, suc, ◌+◌, ◌<◌, ◌≡◌, false, List, [], ◌∷◌, ◌++◌, length, map}
use Rattle.std.proofs.Common.{flat_map, replicate, set, refl, sym, ap, ◌∙◌, subst, arith}
use Rattle.std.proofs.Common.{append_assoc, length-append, append-nil}
use Rattle.std.proofs.lemmas.List.{map-append}
use Rattle.list_laws.specs.Sets.{below}
use Rattle.mill_model.specs.Charges.{ChargeTable}
use Rattle.order_symmetry.specs.Ranked.{RankedOrders}
use Rattle.search_step.specs.Moves.{new_worker}
use Rattle.search_step.specs.Parts.{Parts}
use Rattle.search_step.specs.Worker.{WorkerParts}
use Rattle.core_machine.specs.Core.{unclosed_by}
use Rattle.core_replay.specs.Crew.{AreMembers, CrewState, IsMember, crew_with, parts_of}
use Rattle.core_replay.specs.Crew.{with_all_given, with_given}
use Rattle.core_replay.specs.Plain.{Plain, new_hand}
use Rattle.core_replay.proofs.Members.{members-more}

parts-more : (ws : List WorkerParts) (w : WorkerParts) →
    parts_of (ws ++ w ∷ []) ≡ parts_of ws ++ w.parts ∷ []
parts-more ws w = map-append (λ (v : WorkerParts). v.parts) ws (w ∷ [])

-- a crew with one more new worker
pub record AreNew (ranked : RankedOrders) (charges : ChargeTable) (workers loss count : ℕ)
    (ws : List WorkerParts) : Type 0 where
  pub long : length ws ≡ count
  pub members : AreMembers ranked charges workers 0 ws
  pub parts : parts_of ws ≡ map (new_worker workers (length ranked.placed) loss) (below count)

pub no-workers : (ranked : RankedOrders) (charges : ChargeTable) (workers loss : ℕ) →
    (ws : List WorkerParts) → ws ≡ [] → AreNew ranked charges workers loss 0 ws
no-workers ranked charges workers loss ws e =
    subst (AreNew ranked charges workers loss 0) (sym e)
    (record { long = refl; members = tt; parts = refl })

pub one-more-worker : (ranked : RankedOrders) (charges : ChargeTable) (workers loss count : ℕ)
    (ws vs : List WorkerParts) (w : WorkerParts) → AreNew ranked charges workers loss count ws →
    IsMember ranked charges workers count w →
    w.parts ≡ new_worker workers (length ranked.placed) loss count → vs ≡ ws ++ w ∷ [] →
    AreNew ranked charges workers loss (count + 1) vs
one-more-worker ranked charges workers loss count ws vs w are member new e =
    let new_one = new_worker workers (length ranked.placed) loss in
    let place : count ≡ 0 + length ws = omega (arith, are.long) in
    let more : count + 1 ≡ suc count = omega arith in
    let named : parts_of (ws ++ w ∷ []) ≡ map new_one (below (suc count)) =
    parts-more ws w ∙ ap (λ l. l ++ w.parts ∷ []) are.parts
    ∙ ap (λ v. map new_one (below count) ++ v ∷ []) new
    ∙ sym (map-append new_one (below count) (count ∷ [])) in
    subst (AreNew ranked charges workers loss (count + 1)) (sym e) (record {
      long = omega (arith, are.long, length-append ws (w ∷ []));
      members = members-more ranked charges workers 0 ws w are.members
          (subst (λ i. IsMember ranked charges workers i w) place member);
      parts = rw more named;
    })

empty-first : (n : ℕ) → replicate n [] ≡ set {A = List (List ℕ)} (replicate n []) 0 []
empty-first zero = refl
empty-first (suc n) = refl

pub new-crew-is : (ranked : RankedOrders) (charges : ChargeTable)
    (nodes workers loss drawn count : ℕ) (hand : Plain) (ws : List WorkerParts) →
    hand ≡ new_hand ranked workers loss nodes drawn →
    AreNew ranked charges workers loss count ws → count ≡ workers →
    record {
      ranked = hand.ranked;
      charges = charges;
      budget = hand.budget;
      core = record { shared = hand.shared; workers = parts_of ws };
    } ≡ crew_with ranked charges nodes workers loss drawn []
new-crew-is ranked charges nodes workers loss drawn count hand ws e are all =
    ap (λ (h : Plain). record {
      ranked = h.ranked;
      charges = charges;
      budget = h.budget;
      core = record { shared = h.shared; workers = parts_of ws };
    }) e
    ∙ ap (λ (l : List Parts). record {
      ranked = ranked;
      charges = charges;
      budget = nodes;
      core = record {
        shared = (new_hand ranked workers loss nodes drawn).shared;
        workers = l;
      };
    }) (are.parts ∙ ap (λ n. map (new_worker workers (length ranked.placed) loss) (below n)) all)
    ∙ ap (λ (l : List (List (List ℕ))). record {
      ranked = ranked;
      charges = charges;
      budget = nodes;
      core = record {
        shared = record { deques = l; least = loss; drawn = drawn; halted = false };
        workers = map (new_worker workers (length ranked.placed) loss) (below workers);
      };
    }) (empty-first workers)

-- Paths that are given to a crew.

module _ (ranked : RankedOrders) (charges : ChargeTable) (nodes loss drawn : ℕ) where
  one-given : (workers : ℕ) → 0 < workers → (paths : List (List ℕ)) (path : List ℕ) →
      with_given (crew_with ranked charges nodes workers loss drawn paths) path
      ≡ crew_with ranked charges nodes workers loss drawn (paths ++ path ∷ [])
  one-given zero l paths path = absurd (omega arith)
  one-given (suc workers) l paths path = refl

  more-given : (workers : ℕ) → 0 < workers → (paths more : List (List ℕ)) →
      with_all_given (crew_with ranked charges nodes workers loss drawn paths) more
      ≡ crew_with ranked charges nodes workers loss drawn (paths ++ more)
  more-given workers l paths [] =
      ap (crew_with ranked charges nodes workers loss drawn) (sym (append-nil paths))
  more-given workers l paths (path ∷ more) =
      ap (λ (c : CrewState). with_all_given c more) (one-given workers l paths path)
      ∙ more-given workers l (paths ++ path ∷ []) more
      ∙ ap (crew_with ranked charges nodes workers loss drawn)
      (append_assoc paths (path ∷ []) more)

  pub all-given : (workers : ℕ) → 0 < workers → (c d : CrewState) (paths : List (List ℕ)) →
      c ≡ crew_with ranked charges nodes workers loss drawn [] →
      d ≡ with_all_given c paths →
      d ≡ crew_with ranked charges nodes workers loss drawn paths
  all-given workers l c d paths e f =
      f ∙ ap (λ (v : CrewState). with_all_given v paths) e ∙ more-given workers l [] paths

-- what workers hold and let wait, taken from them or from their parts
pub unclosed-parts : (ws : List WorkerParts) →
    flat_map (λ (w : WorkerParts). unclosed_by w.parts) ws ≡ flat_map unclosed_by (parts_of ws)
unclosed-parts [] = refl
unclosed-parts (w ∷ ws) = ap (λ l. unclosed_by w.parts ++ l) (unclosed-parts ws)

pub pieces-parts : (ws : List WorkerParts) →
    map (λ (w : WorkerParts). w.parts.piece) ws ≡ map (λ (w : Parts). w.piece) (parts_of ws)
pieces-parts [] = refl
pieces-parts (w ∷ ws) = ap (λ l. w.parts.piece ∷ l) (pieces-parts ws)
