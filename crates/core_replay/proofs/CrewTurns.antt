-- A turn of a crew is an event of its machine.
use Rattle.std.proofs.Common.{ℕ, ◌≡◌, ◌<◌, ◌+◌, Bool, List, length, set, get_or, sym, ap, ◌∙◌}
use Rattle.std.proofs.Common.{subst, arith, length-set}
use Rattle.std.specs.List.{list_any}
use Rattle.mill_model.specs.Charges.{ChargeTable}
use Rattle.order_symmetry.specs.Ranked.{RankedOrders}
use Rattle.search_step.specs.Parts.{Parts}
use Rattle.search_step.specs.Serving.{Serves}
use Rattle.search_step.specs.Steps.{Steps, IsSafe}
use Rattle.search_step.specs.Worker.{WorkerParts}
use Rattle.search_step.specs.declared.parts.Turn.{Turn}
use Rattle.core_machine.specs.Core.{any_busy, event, no_worker}
use Rattle.core_replay.specs.Crew.{AreMembers, CrewState, Goes, IsCrew, IsMember, IsReady, has_path}
use Rattle.core_replay.specs.Crew.{parts_of}
use Rattle.core_replay.specs.Plain.{Plain, plain_did, plain_serves, serving}
use Rattle.core_replay.proofs.HandTurns.{SameHand, step-goes}
use Rattle.core_replay.proofs.Members.{busy-alike, busy-in, member-here, members-set, parts-at}
use Rattle.core_replay.proofs.Members.{parts-length, parts-set}
use Rattle.core_replay.proofs.Ready.{few-drawn, queued-at}

module _ (charges : ChargeTable) (hand : Plain) (ws : List WorkerParts)
    (crew : IsCrew hand.ranked charges hand.workers ws) (number place : ℕ)
    (same : place ≡ number) (within : number < length (parts_of ws)) (w : WorkerParts)
    (at : w ≡ get_or ws place w) (busy : Bool) (served : Plain)
    (serves : served ≡ serving number busy hand) where
  abbrev pub state : CrewState
  state = record {
    ranked = hand.ranked;
    charges = charges;
    budget = hand.budget;
    core = record { shared = hand.shared; workers = parts_of ws };
  }

  there : number < length ws
  there = omega (arith, within, parts-length ws)

  here : w ≡ get_or ws number w
  here = subst (λ n. w ≡ get_or ws n w) same at

  member : IsMember hand.ranked charges hand.workers number w
  member = member-here hand.ranked charges hand.workers ws number w crew.members there here

  -- the hand serves the worker whose turn it is
  pub serves-worker : Serves (plain_serves served) w.ranked w.workers w.number
  serves-worker =
      subst (λ (h : Plain). Serves (plain_serves h) w.ranked w.workers w.number) (sym serves)
      (record {
        orders = sym member.orders;
        among = sym member.among;
        who = sym member.who;
      })

  -- after its step the workers are a crew again
  pub crew-after : (hand' : Plain) (w' : WorkerParts) → SameHand served hand' →
      w'.ranked ≡ w.ranked → w'.charges ≡ w.charges → w'.number ≡ w.number →
      w'.workers ≡ w.workers →
      IsCrew hand'.ranked charges hand'.workers (set ws place w')
  crew-after hand' w' kept r c n k =
      let ranked' : hand'.ranked ≡ hand.ranked =
      kept.ranked ∙ ap (λ (h : Plain). h.ranked) serves in
      let workers' : hand'.workers ≡ hand.workers =
      kept.workers ∙ ap (λ (h : Plain). h.workers) serves in
      let zero-on : number ≡ 0 + number = omega arith in
      let member' : IsMember hand.ranked charges hand.workers (0 + number) w' =
      subst (λ i. IsMember hand.ranked charges hand.workers i w') zero-on (record {
        orders = r ∙ member.orders;
        table = c ∙ member.table;
        among = k ∙ member.among;
        who = n ∙ member.who;
      }) in
      let members' : AreMembers hand.ranked charges hand.workers 0 (set ws place w') =
      subst (λ i. AreMembers hand.ranked charges hand.workers 0 (set ws i w')) (sym same)
      (members-set hand.ranked charges hand.workers 0 ws number w' crew.members member') in
      record {
        some = omega (arith, crew.some, workers');
        long = length-set ws place w' ∙ crew.long ∙ sym workers';
        members = subst (λ (x : RankedOrders).
            AreMembers x charges hand'.workers 0 (set ws place w')) (sym ranked')
            (subst (λ (x : ℕ). AreMembers hand.ranked charges x 0 (set ws place w'))
            (sym workers') members');
      }

  module _ (ready : IsReady state)
      (seen : busy ≡ list_any (λ (v : WorkerParts). has_path v.parts.phase) ws) where
    is-busy : busy ≡ any_busy (parts_of ws)
    is-busy = seen ∙ busy-alike ws (λ i l.
        (let safe = ready.steady.safe i l in
        busy-in (get_or (parts_of ws) i no_worker) (get_or (parts_of ws) i no_worker).phase
        safe.held_in safe.waiting_in))

    safe : IsSafe hand.ranked charges (length ws) number w.parts
    safe =
        subst (λ n. IsSafe hand.ranked charges n number w.parts) (parts-length ws)
        (subst (IsSafe hand.ranked charges (length (parts_of ws)) number)
        (parts-at ws number w there ∙ ap (λ (v : WorkerParts). v.parts) (sym here))
        (ready.steady.safe number within))

    pub turn-goes : (turn : Turn) (w' : WorkerParts) (hand' : Plain) →
        Steps plain_did w.ranked w.charges w.workers w.number w.parts served turn w'.parts hand' →
        Goes turn (event hand.ranked charges hand.budget state.core number)
        (record { shared = hand'.shared; workers = parts_of (set ws place w') })
    turn-goes turn w' hand' b =
        let serves' : served ≡ serving number (any_busy (parts_of ws)) hand =
        serves ∙ ap (λ (x : Bool). serving number x hand) is-busy in
        let count : w.workers ≡ length (parts_of ws) =
        member.among ∙ sym crew.long ∙ sym (parts-length ws) in
        let b1 : Steps plain_did hand.ranked w.charges w.workers w.number w.parts served turn
        w'.parts hand' =
        subst (λ (x : RankedOrders). Steps plain_did x w.charges w.workers w.number w.parts served
        turn w'.parts hand') member.orders b in
        let b2 : Steps plain_did hand.ranked charges w.workers w.number w.parts served turn
        w'.parts hand' =
        subst (λ (x : ChargeTable). Steps plain_did hand.ranked x w.workers w.number w.parts
        served turn w'.parts hand') member.table b1 in
        let b3 : Steps plain_did hand.ranked charges (length (parts_of ws)) w.number w.parts
        served turn w'.parts hand' =
        subst (λ (x : ℕ). Steps plain_did hand.ranked charges x w.number w.parts served turn
        w'.parts hand') count b2 in
        let b4 : Steps plain_did hand.ranked charges (length (parts_of ws)) number w.parts served
        turn w'.parts hand' =
        subst (λ (x : ℕ). Steps plain_did hand.ranked charges (length (parts_of ws)) x w.parts
        served turn w'.parts hand') member.who b3 in
        let b5 : Steps plain_did hand.ranked charges (length (parts_of ws)) number w.parts
        (serving number (any_busy (parts_of ws)) hand) turn w'.parts hand' =
        subst (λ (x : Plain). Steps plain_did hand.ranked charges (length (parts_of ws)) number
        w.parts x turn w'.parts hand') serves' b4 in
        let set-parts : set (parts_of ws) number w'.parts ≡ parts_of (set ws place w') =
        sym (parts-set ws number w') ∙ ap (λ i. parts_of (set ws i w')) (sym same) in
        subst (λ (l : List Parts). Goes turn
        (event hand.ranked charges hand.budget state.core number)
        (record { shared = hand'.shared; workers = l })) set-parts
        (step-goes hand.ranked charges ready.ranks hand ws number there (few-drawn state ready) w
        here safe (queued-at state ready) turn w' hand' b5)
