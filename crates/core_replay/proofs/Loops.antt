-- What the loops of a crew keep: after the events of a schedule so far, or of a round so far, the
-- machine stands where its definition says, and more turns may be made.
use Rattle.std.proofs.Common.{ℕ, zero, suc, ◌+◌, ◌<◌, ◌≡◌, ◌⊎◌, inl, inr, Bool, true, false, ◌&&◌}
use Rattle.std.proofs.Common.{List, [], ◌∷◌, ◌++◌, length, take, get_or, refl, sym, ap, ◌∙◌, subst}
use Rattle.std.proofs.Common.{arith}
use Rattle.search_step.specs.declared.parts.Turn.{Turn}
use Rattle.search_step.specs.declared.parts.Turn.TheVariants.{Moved, Drew, Idle, Stopped}
use Rattle.search_step.specs.declared.parts.Turn.TheVariants.{OutOfMemory}
use Rattle.core_machine.specs.Core.{Core, Rounds, Last, More, after_schedule, event, is_stopped}
use Rattle.core_machine.specs.Core.{round, whole_round}
use Rattle.core_machine.specs.Ends.{measure}
use Rattle.core_machine.proofs.Falls.{round-lowers}
use Rattle.core_machine.proofs.Runs.{event-count, schedule-more}
use Rattle.core_machine.proofs.Steady.{steady-event}
use Rattle.core_replay.specs.Crew.{CrewState, Goes, IsReady, SameRun}
use Rattle.core_replay.proofs.Ready.{same-ready}

pub same-twice : (a b c : CrewState) → SameRun a b → SameRun b c → SameRun a c
same-twice a b c s t = record {
  ranked = t.ranked ∙ s.ranked;
  charges = t.charges ∙ s.charges;
  budget = t.budget ∙ s.budget;
}

pub same-itself : (a : CrewState) → SameRun a a
same-itself a = record { ranked = refl; charges = refl; budget = refl }

-- a turn that didn't want memory
abbrev pub GoesOn : Turn → Type 0
GoesOn Moved = Unit {0}
GoesOn Drew = Unit {0}
GoesOn Idle = Unit {0}
GoesOn Stopped = Unit {0}
GoesOn OutOfMemory = ⊥

goes-so : (turn : Turn) (next : Core × Turn) (c : Core) → GoesOn turn → Goes turn next c →
    (c ≡ next.0) × (turn ≡ next.1)
goes-so Moved next c k h = h
goes-so Drew next c k h = h
goes-so Idle next c k h = h
goes-so Stopped next c k h = h
goes-so OutOfMemory next c k h = absurd k

pub one-of-four : (turn : Turn) →
    (turn ≡ Moved) ⊎ ((turn ≡ Drew) ⊎ ((turn ≡ Idle) ⊎ (turn ≡ Stopped))) → GoesOn turn
one-of-four turn (inl e) = subst GoesOn (sym e) tt
one-of-four turn (inr (inl e)) = subst GoesOn (sym e) tt
one-of-four turn (inr (inr (inl e))) = subst GoesOn (sym e) tt
one-of-four turn (inr (inr (inr e))) = subst GoesOn (sym e) tt

pub one-of-three : (turn : Turn) → (turn ≡ Moved) ⊎ ((turn ≡ Drew) ⊎ (turn ≡ Idle)) →
    GoesOn turn × (is_stopped turn ≡ false)
one-of-three turn (inl e) = (subst GoesOn (sym e) tt, ap is_stopped e)
one-of-three turn (inr (inl e)) = (subst GoesOn (sym e) tt, ap is_stopped e)
one-of-three turn (inr (inr e)) = (subst GoesOn (sym e) tt, ap is_stopped e)

pub stopped-goes : (turn : Turn) → turn ≡ Stopped → GoesOn turn × (is_stopped turn ≡ true)
stopped-goes turn e = (subst GoesOn (sym e) tt, ap is_stopped e)

-- the machine's functions, at what one crew goes by and another with it
module _ (a b : CrewState) (same : SameRun a b) where
  event-alike : (c : Core) (i : ℕ) →
      event b.ranked b.charges b.budget c i ≡ event a.ranked a.charges a.budget c i
  event-alike c i =
      ap (λ r. event r b.charges b.budget c i) same.ranked
      ∙ ap (λ t. event a.ranked t b.budget c i) same.charges
      ∙ ap (λ n. event a.ranked a.charges n c i) same.budget

  round-alike : (c : Core) →
      whole_round b.ranked b.charges b.budget c ≡ whole_round a.ranked a.charges a.budget c
  round-alike c =
      ap (λ r. whole_round r b.charges b.budget c) same.ranked
      ∙ ap (λ t. whole_round a.ranked t b.budget c) same.charges
      ∙ ap (λ n. whole_round a.ranked a.charges n c) same.budget

-- one turn
module _ (b c : CrewState) (i : ℕ) (turn : Turn) (ready : IsReady b)
    (within : i < length b.core.workers) (on : GoesOn turn)
    (goes : Goes turn (event b.ranked b.charges b.budget b.core i) c.core) (same : SameRun b c)
  where
    turned : (c.core ≡ (event b.ranked b.charges b.budget b.core i).0)
        × (turn ≡ (event b.ranked b.charges b.budget b.core i).1)
    turned = goes-so turn (event b.ranked b.charges b.budget b.core i) c.core on goes

    ready-after : IsReady c
    ready-after =
        same-ready b c (event b.ranked b.charges b.budget b.core i).0 same turned.0 (record {
          ranks = ready.ranks;
          nodes = ready.nodes;
          steady =
              steady-event b.ranked b.charges b.budget ready.ranks b.core i within ready.steady;
        })

    count-after : length c.core.workers ≡ length b.core.workers
    count-after =
        ap (λ (v : Core). length v.workers) turned.0
        ∙ event-count b.ranked b.charges b.budget b.core i

-- after so many events of a schedule
pub record Follows (a b : CrewState) (done : List ℕ) : Type 0 where
  pub run : b.core ≡ after_schedule a.ranked a.charges a.budget a.core done
  pub same : SameRun a b
  pub ready : IsReady b
  pub count : length b.core.workers ≡ length a.core.workers

pub follows-first : (a : CrewState) → IsReady a → Follows a a []
follows-first a ready =
    record { run = refl; same = same-itself a; ready = ready; count = refl }

take-more : (xs : List ℕ) (k : ℕ) → k < length xs →
    take k xs ++ get_or xs k 0 ∷ [] ≡ take (k + 1) xs
take-more [] k l = absurd (omega arith)
take-more (x ∷ xs) zero l = refl
take-more (x ∷ xs) (suc k) l =
    let e : suc k + 1 ≡ suc (k + 1) = omega arith in
    rw e (ap (λ t. x ∷ t) (take-more xs k (omega arith)))

pub follows-more : (a b c : CrewState) (xs : List ℕ) (k : ℕ) (turn : Turn) → k < length xs →
    Follows a b (take k xs) → get_or xs k 0 < length b.core.workers → GoesOn turn →
    Goes turn (event b.ranked b.charges b.budget b.core (get_or xs k 0)) c.core →
    SameRun b c → Follows a c (take (k + 1) xs)
follows-more a b c xs k turn l f within on goes same =
    let i = get_or xs k 0 in
    record {
      run = (turned b c i turn f.ready within on goes same).0
          ∙ ap (λ (r : Core × Turn). r.0) (event-alike a b f.same b.core i)
          ∙ ap (λ (v : Core). (event a.ranked a.charges a.budget v i).0) f.run
          ∙ sym (schedule-more a.ranked a.charges a.budget a.core (take k xs) i)
          ∙ ap (after_schedule a.ranked a.charges a.budget a.core) (take-more xs k l);
      same = same-twice a b c f.same same;
      ready = ready-after b c i turn f.ready within on goes same;
      count = count-after b c i turn f.ready within on goes same ∙ f.count;
    }

-- after the events of the first so many workers in a round
pub record Rounded (a b : CrewState) (stopped : Bool) (count : ℕ) : Type 0 where
  pub so_far : (b.core, stopped) ≡ round a.ranked a.charges a.budget a.core count
  pub same : SameRun a b
  pub ready : IsReady b
  pub workers : length b.core.workers ≡ length a.core.workers

pub rounded-first : (a : CrewState) → IsReady a → Rounded a a true 0
rounded-first a ready =
    record { so_far = refl; same = same-itself a; ready = ready; workers = refl }

pub rounded-more : (a b c : CrewState) (stopped stopped' : Bool) (i : ℕ) (turn : Turn) →
    Rounded a b stopped i → i < length b.core.workers → GoesOn turn →
    Goes turn (event b.ranked b.charges b.budget b.core i) c.core → SameRun b c →
    stopped' ≡ (stopped && is_stopped turn) → Rounded a c stopped' (i + 1)
rounded-more a b c stopped stopped' i turn r within on goes same e =
    let t = turned b c i turn r.ready within on goes same in
    let next : event b.ranked b.charges b.budget b.core i ≡ (c.core, turn) =
    ap (λ (v : Core). (v, (event b.ranked b.charges b.budget b.core i).1)) (sym t.0)
    ∙ ap (λ (v : Turn). (c.core, v)) (sym t.1) in
    let here : event a.ranked a.charges a.budget b.core i ≡ (c.core, turn) =
    sym (event-alike a b r.same b.core i) ∙ next in
    let step : (p : Core × Bool) → (b.core, stopped) ≡ p →
    ◌≡◌ {A = Core × Bool} (c.core, stopped') (
      (event a.ranked a.charges a.budget p.0 i).0,
      p.1 && is_stopped (event a.ranked a.charges a.budget p.0 i).1,
    ) =
    λ p q. subst (λ (p : Core × Bool). ◌≡◌ {A = Core × Bool} (c.core, stopped') (
      (event a.ranked a.charges a.budget p.0 i).0,
      p.1 && is_stopped (event a.ranked a.charges a.budget p.0 i).1,
    )) q
    (subst (λ (r : Core × Turn). ◌≡◌ {A = Core × Bool} (c.core, stopped')
    (r.0, stopped && is_stopped r.1)) (sym here) (ap (λ (v : Bool). (c.core, v)) e)) in
    let more : i + 1 ≡ suc i = omega arith in
    record {
      so_far = rw more (step (round a.ranked a.charges a.budget a.core i) r.so_far);
      same = same-twice a b c r.same same;
      ready = ready-after b c i turn r.ready within on goes same;
      workers = count-after b c i turn r.ready within on goes same ∙ r.workers;
    }

pub and-stopped : (b s v : Bool) → v ≡ b → s ≡ true → v ≡ (b && s)
and-stopped true s v e q = e ∙ sym q
and-stopped false s v e q = e

pub and-moved : (b s v : Bool) → v ≡ false → s ≡ false → v ≡ (b && s)
and-moved true s v e q = e ∙ sym q
and-moved false s v e q = e

-- after some rounds: rounds that go on from there are rounds from the first
pub record RunsOut (a b : CrewState) : Type 0 where
  pub rounds : (d : Core) → Rounds a.ranked a.charges a.budget b.core d →
      Rounds a.ranked a.charges a.budget a.core d
  pub same : SameRun a b
  pub ready : IsReady b

pub runs-out-first : (a : CrewState) → IsReady a → RunsOut a a
runs-out-first a ready =
    record { rounds = λ d r. r; same = same-itself a; ready = ready }

module _ (a b c : CrewState) (stopped : Bool) (so_far : RunsOut a b)
    (whole : (c.core, stopped) ≡ whole_round b.ranked b.charges b.budget b.core) where
  round-is : (v : Bool) → stopped ≡ v →
      whole_round a.ranked a.charges a.budget b.core ≡ (c.core, v)
  round-is v e =
      sym (round-alike a b so_far.same b.core) ∙ sym whole
      ∙ ap (λ (s : Bool). (c.core, s)) e

  pub runs-out-last : stopped ≡ true → Rounds a.ranked a.charges a.budget a.core c.core
  runs-out-last e = so_far.rounds c.core (Last b.core c.core (round-is true e))

  pub runs-out-more : stopped ≡ false → SameRun b c → IsReady c → RunsOut a c
  runs-out-more e same ready = record {
    rounds = λ d r. so_far.rounds d (More b.core c.core d (round-is false e) r);
    same = same-twice a b c so_far.same same;
    ready = ready;
  }

  -- there is less to do, as long as some worker didn't stop
  pub less-to-do : stopped ≡ false → SameRun b c →
      measure (length c.ranked.placed) c.budget c.core
      < measure (length b.ranked.placed) b.budget b.core
  less-to-do e same =
      let falls : measure (length b.ranked.placed) b.budget c.core
      < measure (length b.ranked.placed) b.budget b.core =
      round-lowers b.ranked b.charges b.budget so_far.ready.ranks b.core c.core
      so_far.ready.steady (sym whole ∙ ap (λ (s : Bool). (c.core, s)) e) in
      let same-measure : measure (length c.ranked.placed) c.budget c.core
      ≡ measure (length b.ranked.placed) b.budget c.core =
      ap (λ r. measure (length r.placed) c.budget c.core) same.ranked
      ∙ ap (λ n. measure (length b.ranked.placed) n c.core) same.budget in
      subst (λ m. m < measure (length b.ranked.placed) b.budget b.core) (sym same-measure) falls
