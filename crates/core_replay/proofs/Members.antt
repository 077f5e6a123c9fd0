-- Lists of workers that go by the same, with their numbers.
use Rattle.std.proofs.Common.{ℕ, zero, suc, ◌+◌, ◌≡◌, ◌<◌, true, false, List, []}
use Rattle.std.proofs.Common.{◌∷◌, ◌++◌, length, set, get_or, Some, None, refl, sym, subst, arith}
use Rattle.std.proofs.lemmas.List.{get_or-map, length-map, map-set}
use Rattle.std.specs.List.{list_any}
use Rattle.mill_model.specs.Charges.{ChargeTable}
use Rattle.order_symmetry.specs.Ranked.{RankedOrders}
use Rattle.search_step.specs.Parts.{Parts}
use Rattle.search_step.specs.Steps.{HeldIn, WaitingIn}
use Rattle.search_step.specs.Worker.{WorkerParts}
use Rattle.search_step.specs.declared.parts.Phase.{Phase}
use Rattle.search_step.specs.declared.parts.Phase.TheVariants.{Resting, Taking, Stealing, Holding}
use Rattle.search_step.specs.declared.parts.Phase.TheVariants.{Halting, Ended, Bounding}
use Rattle.search_step.specs.declared.parts.Phase.TheVariants.{Closing as ClosingNow, Publishing}
use Rattle.search_step.specs.declared.parts.Phase.TheVariants.{Pushing}
use Rattle.core_machine.specs.Core.{any_busy, is_busy, no_worker}
use Rattle.core_replay.specs.Crew.{AreMembers, IsMember, has_path, parts_of}

pub parts-length : (ws : List WorkerParts) → length (parts_of ws) ≡ length ws
parts-length ws = length-map ws (λ (w : WorkerParts). w.parts)

pub parts-at : (ws : List WorkerParts) (i : ℕ) (w : WorkerParts) → i < length ws →
    get_or (parts_of ws) i no_worker ≡ (get_or ws i w).parts
parts-at ws i w l = get_or-map (λ (v : WorkerParts). v.parts) ws i w no_worker l

pub parts-set : (ws : List WorkerParts) (i : ℕ) (w : WorkerParts) →
    parts_of (set ws i w) ≡ set (parts_of ws) i w.parts
parts-set ws i w = map-set (λ (v : WorkerParts). v.parts) ws i w

module _ (ranked : RankedOrders) (charges : ChargeTable) (workers : ℕ) where
  pub member-at : (n : ℕ) (ws : List WorkerParts) (i : ℕ) (w : WorkerParts) →
      AreMembers ranked charges workers n ws → i < length ws →
      IsMember ranked charges workers (n + i) (get_or ws i w)
  member-at n [] i w a l = absurd (omega arith)
  member-at n (v ∷ ws) zero w a l = let e : n + 0 ≡ n = omega arith in rw e a.0
  member-at n (v ∷ ws) (suc i) w a l =
      let e : n + suc i ≡ suc n + i = omega arith in
      rw e (member-at (suc n) ws i w a.1 (omega arith))

  pub members-set : (n : ℕ) (ws : List WorkerParts) (i : ℕ) (w : WorkerParts) →
      AreMembers ranked charges workers n ws → IsMember ranked charges workers (n + i) w →
      AreMembers ranked charges workers n (set ws i w)
  members-set n [] i w a m = a
  members-set n (v ∷ ws) zero w a m = let e : n + 0 ≡ n = omega arith in (rw e at m, a.1)
  members-set n (v ∷ ws) (suc i) w a m =
      let e : n + suc i ≡ suc n + i = omega arith in
      (a.0, members-set (suc n) ws i w a.1 (rw e at m))

  pub members-more : (n : ℕ) (ws : List WorkerParts) (w : WorkerParts) →
      AreMembers ranked charges workers n ws →
      IsMember ranked charges workers (n + length ws) w →
      AreMembers ranked charges workers n (ws ++ w ∷ [])
  members-more n [] w a m = let e : n + 0 ≡ n = omega arith in (rw e at m, tt)
  members-more n (v ∷ ws) w a m =
      let e : n + suc (length ws) ≡ suc n + length ws = omega arith in
      (a.0, members-more (suc n) ws w a.1 (rw e at m))

  -- the one of a number
  pub member-here : (ws : List WorkerParts) (i : ℕ) (w : WorkerParts) →
      AreMembers ranked charges workers 0 ws → i < length ws → w ≡ get_or ws i w →
      IsMember ranked charges workers i w
  member-here ws i w a l e =
      let z : 0 + i ≡ i = omega arith in
      subst (IsMember ranked charges workers i) (sym e) (rw z at (member-at 0 ws i w a l))

-- in a phase in which a worker has a path it is busy, and else it isn't
module _ (w : Parts) where
  empty-handed : w.held ≡ None → w.waiting ≡ [] → false ≡ is_busy w
  empty-handed h e = rw (h, e) refl

  holding : (path : List ℕ) → w.held ≡ Some path → true ≡ is_busy w
  holding path h = rw h refl

  waits : (paths : List (List ℕ)) → 0 < length paths → w.waiting ≡ paths → w.held ≡ None →
      true ≡ is_busy w
  waits [] l e h = absurd (omega arith)
  waits (path ∷ paths) l e h = rw (h, e) refl

  pub busy-in : (phase : Phase) → HeldIn phase w.held → WaitingIn phase w.waiting →
      has_path phase ≡ is_busy w
  busy-in Resting h e = empty-handed h e
  busy-in Taking h e = empty-handed h e
  busy-in Stealing h e = empty-handed h e
  busy-in Publishing h e = empty-handed h e
  busy-in Pushing h e = waits w.waiting e refl h
  busy-in Holding h e = holding h.0 h.1
  busy-in Halting h e = holding h.0 h.1
  busy-in Ended h e = holding h.0 h.1
  busy-in Bounding h e = holding h.0 h.1
  busy-in ClosingNow h e = holding h.0 h.1

-- so some worker has a path where one of them is busy
pub busy-alike : (ws : List WorkerParts) →
    ((i : ℕ) → i < length (parts_of ws) →
    has_path (get_or (parts_of ws) i no_worker).phase
    ≡ is_busy (get_or (parts_of ws) i no_worker)) →
    list_any (λ (w : WorkerParts). has_path w.parts.phase) ws ≡ any_busy (parts_of ws)
busy-alike [] each = refl
busy-alike (w ∷ ws) each =
    let here : has_path w.parts.phase ≡ is_busy w.parts = each 0 (omega arith) in
    rw (here, busy-alike ws (λ i l. each (suc i) (omega arith))) refl
