-- Each event lowers what is left to do, or is idle: it leaves what is shared as it was, its worker
-- as busy as it was, and nearer to its rest or to a path in its own deque, or as near. A ticket
-- pays for a whole closing, since a path has no more children than there are orders.
use Rattle.std.proofs.Common.{ℕ, zero, suc, ◌+◌, ◌*◌, ◌-◌, ◌<◌, ◌≤◌, ◌≡◌, ◌≢◌, ◌⊎◌, inl, inr}
use Rattle.std.proofs.Common.{Bool, true, false, cond, ◌&&◌, ◌||◌, not, ltb, List, [], ◌∷◌, ◌++◌}
use Rattle.std.proofs.Common.{length, filter, set, get_or, Option, Some, None, option_to_list}
use Rattle.std.proofs.Common.{refl, sym, ap, ◌∙◌, subst, arith, ltb-true, ltb-false, eq-eqb}
use Rattle.std.proofs.lemmas.List.{length-map}
use Rattle.list_laws.specs.Sets.{below}
use Rattle.list_laws.proofs.Lists.{length-below}
use Rattle.list_laws.proofs.Tests.{clash}
use Rattle.mill_model.specs.Charges.{ChargeTable}
use Rattle.mill_model.specs.Log.{Task}
use Rattle.mill_model.specs.Tree.{children, next_new, may_go_on}
use Rattle.mill_model.specs.declared.limits.Draw.TheVariants.{Ticket, Spent}
use Rattle.mill_model.specs.declared.limits.Standing.TheVariants.{Going, Halted, Drained}
use Rattle.mill_laws.proofs.Paths.{tree-bound, tree-length}
use Rattle.order_symmetry.specs.Ranked.{RankedOrders, orders_of}
use Rattle.split_tree.specs.Keys.{Key}
use Rattle.nogood_store.specs.Entries.{Stored}
use Rattle.nogood_store.specs.declared.store.Entry.{Entry as Noted}
use Rattle.search_step.specs.Parts.{Parts}
use Rattle.search_step.specs.Serving.{draw_at, IsPathOf}
use Rattle.search_step.specs.Moves.{Moves, to, hold, rested, took, stole, drew, pushed}
use Rattle.search_step.specs.Moves.{commits, verdict, verdict_leaf, verdict_inner, verdict_open}
use Rattle.search_step.specs.Moves.{found_at, first_prices, second_prices, is_leaf}
use Rattle.search_step.specs.Moves.{last_of, front, pushing_or_resting, loss_at}
use Rattle.search_step.specs.Steps.{IsSafe, HeldIn, WaitingIn, task_at}
use Rattle.search_step.specs.declared.parts.Phase.{Phase}
use Rattle.search_step.specs.declared.parts.Phase.TheVariants.{Resting, Taking, Stealing, Holding}
use Rattle.search_step.specs.declared.parts.Phase.TheVariants.{Halting, Ended, Bounding}
use Rattle.search_step.specs.declared.parts.Phase.TheVariants.{Closing as ClosingNow, Publishing}
use Rattle.search_step.specs.declared.parts.Phase.TheVariants.{Pushing}
use Rattle.search_step.specs.declared.parts.Turn.TheVariants.{Moved}
use Rattle.search_step.specs.declared.parts.Verdict.{Verdict}
use Rattle.search_step.specs.declared.parts.Verdict.TheVariants.{Better, Plain, ByPrices, ByOther}
use Rattle.search_step.specs.declared.parts.Verdict.TheVariants.{Open}
use Rattle.search_step.proofs.Lasts.{last-or-none}
use Rattle.core_machine.proofs.Lists.{sum-set}
use Rattle.core_machine.specs.Core.{Core, Shared, closed_held, deque, first_of, is_busy, is_empty}
use Rattle.core_machine.specs.Core.{is_stopped, no_worker, push_last, step, step_in, tail_of}
use Rattle.core_machine.specs.Core.{with_deque, with_draw, with_pushed, with_stolen, with_taken}
use Rattle.core_machine.specs.Core.{with_worker, worker}
use Rattle.core_machine.specs.Counts.{sum_of}
use Rattle.core_machine.specs.Ends.{distance, is_drained, is_over, left_to_do}
use Rattle.core_machine.specs.Ends.{phase_weight, weight}
use Rattle.core_machine.specs.Places.{live_key_at, plan_at}

filter-length : (p : ℕ → Bool) (xs : List ℕ) → length (filter p xs) ≤ length xs
filter-length p [] = omega arith
filter-length p (x ∷ xs) = go (p x) (filter-length p xs)
  where
    go : (b : Bool) → length (filter p xs) ≤ length xs →
        length (cond b (x ∷ filter p xs) (filter p xs)) ≤ suc (length xs)
    go true h = omega (arith, h)
    go false h = omega (arith, h)

few-children : (ranked : RankedOrders) (path : List ℕ) → IsPathOf ranked path →
    length path < length ranked.placed →
    length (children ranked.mill (orders_of ranked) path) ≤ length ranked.placed
few-children ranked path tree l =
    let test : ℕ → Bool = may_go_on ranked.mill (orders_of ranked) path in
    let bound = tree-bound ranked.mill (orders_of ranked) path tree.is in
    let mapped : length (children ranked.mill (orders_of ranked) path)
    ≡ length (filter test (below (suc (next_new path)))) =
    length-map (filter test (below (suc (next_new path)))) (λ g. path ++ g ∷ []) in
    let kept = filter-length test (below (suc (next_new path))) in
    let all = length-below (suc (next_new path)) in
    omega (arith, bound, mapped, kept, all)

no-last : (paths : List (List ℕ)) → last_of paths ≡ None → paths ≡ []
no-last [] e = refl
no-last (x ∷ paths) e =
    let r = last-or-none (x ∷ paths) x paths refl in absurd (some-none r.0 (sym r.1 ∙ e))
  where
    some-none : (y : List ℕ) → Some y ≡ None → ⊥
    some-none y q = cc

no-first : (paths : List (List ℕ)) → first_of paths ≡ None → paths ≡ []
no-first [] e = refl
no-first (x ∷ paths) e = absurd (cc)

front-length : (paths : List (List ℕ)) → 0 < length paths →
    length (front paths) + 1 ≡ length paths
front-length [] l = absurd (omega arith)
front-length (x ∷ []) l = omega arith
front-length (x ∷ y ∷ paths) l =
    let ih : length (front (y ∷ paths)) + 1 ≡ length (y ∷ paths) =
    front-length (y ∷ paths) (omega arith) in
    omega arith

set-empty : (ds : List (List (List ℕ))) (j : ℕ) (paths : List (List ℕ)) → get_or ds j [] ≡ [] →
    paths ≡ [] → set ds j paths ≡ ds
set-empty [] j paths z e = refl
set-empty (d ∷ ds) zero paths z e = ap (λ x. x ∷ ds) (e ∙ sym z)
set-empty (d ∷ ds) (suc j) paths z e = ap (λ l. d ∷ l) (set-empty ds j paths z e)

pub distance-same : (a v b u : Bool) (p q : Phase) → a ≡ v → b ≡ u → p ≡ q →
    distance a b p ≡ distance v u q
distance-same a v b u p q e f g =
    ap (λ x. distance x b p) e ∙ ap (λ x. distance v x p) f ∙ ap (distance v u) g

module _ (ranked : RankedOrders) (charges : ChargeTable) (budget : ℕ) where
  abbrev n : ℕ
  n = length ranked.placed

  abbrev left : Core → ℕ
  left c = left_to_do n budget c

  abbrev after : Core → ℕ → Shared × Moves → Core
  after c i m = (with_worker c i m.0 m.1).0

  abbrev pub is_empty_at : Core → ℕ → Bool
  is_empty_at c i = is_empty (deque c.shared i)

  abbrev far : Core → ℕ → Phase → ℕ
  far c i phase = distance (is_over c) (is_empty_at c i) phase

  abbrev near : Core → ℕ → Phase → Phase → Bool → Type 0
  near c i before phase stopped =
      (far c i phase < far c i before)
      ⊎ ((far c i phase ≡ far c i before) × (is_over c ≡ true → stopped ≡ true)
      × (is_over c ≡ false → (is_empty_at c i ≡ true) × (is_busy (worker c i) ≡ false)))

  -- what an event that lowers nothing leaves
  pub record IsIdle (c : Core) (i : ℕ) (m : Shared × Moves) : Type 0 where
    pub shared : m.0 ≡ c.shared
    pub busy : is_busy m.1.0 ≡ is_busy (worker c i)
    pub same : weight (length ranked.placed) m.1.0 ≡ weight (length ranked.placed) (worker c i)
    pub nearer : near c i (worker c i).phase m.1.0.phase (is_stopped m.1.1)

  abbrev pub LowersOrIdles : Core → ℕ → Shared × Moves → Type 0
  LowersOrIdles c i m =
      (left_to_do (length ranked.placed) budget (with_worker c i m.0 m.1).0
      < left_to_do (length ranked.placed) budget c) ⊎ IsIdle c i m

  module _ (c : Core) (i : ℕ) (l : i < length c.workers) where
    abbrev w : Parts
    w = worker c i

    weight-at : (phase : Phase) → w.phase ≡ phase →
        weight n w ≡ phase_weight n phase (length w.waiting)
    weight-at phase is = ap (λ p. phase_weight n p (length w.waiting)) is

    -- the tickets stay, and the worker has less before it
    lowers : (m : Shared × Moves) → m.0.drawn ≡ c.shared.drawn → weight n m.1.0 < weight n w →
        left (after c i m) < left c
    lowers m e k =
        let a : sum_of (weight n) (set c.workers i m.1.0) + weight n w
        ≡ sum_of (weight n) c.workers + weight n m.1.0 =
        sum-set (weight n) c.workers i m.1.0 no_worker l in
        let b : (n + 5) * (budget - m.0.drawn) ≡ (n + 5) * (budget - c.shared.drawn) =
        ap (λ d. (n + 5) * (budget - d)) e in
        omega arith

    times-more : (k a : ℕ) → k * (a + 1) ≡ k * a + k
    times-more k a = omega arith

    draw-lowers : w.phase ≡ Holding →
        left (after c i (with_draw c.shared, drew w (draw_at budget c.shared.drawn))) < left c
    draw-lowers is = go (ltb c.shared.drawn budget) refl
      where
        go : (b : Bool) → ltb c.shared.drawn budget ≡ b →
            left (after c i (
              with_draw c.shared,
              drew w (cond b (Ticket c.shared.drawn) (Spent c.shared.drawn)),
            )) < left c
        go true e =
            let less : c.shared.drawn < budget = ltb-true _ _ e in
            let a : sum_of (weight n) (set c.workers i (to Bounding w)) + weight n w
            ≡ sum_of (weight n) c.workers + weight n (to Bounding w) =
            sum-set (weight n) c.workers i (to Bounding w) no_worker l in
            let q : budget - c.shared.drawn ≡ (budget - (c.shared.drawn + 1)) + 1 = omega arith in
            let r : (n + 5) * (budget - c.shared.drawn)
            ≡ (n + 5) * (budget - (c.shared.drawn + 1)) + (n + 5) =
            ap (λ x. (n + 5) * x) q ∙ times-more (n + 5) (budget - (c.shared.drawn + 1)) in
            let v : weight n w ≡ 2 = weight-at Holding is in
            omega arith
        go false e =
            let more : budget ≤ c.shared.drawn = ltb-false _ _ e in
            let a : sum_of (weight n) (set c.workers i (to Halting w)) + weight n w
            ≡ sum_of (weight n) c.workers + weight n (to Halting w) =
            sum-set (weight n) c.workers i (to Halting w) no_worker l in
            let none : budget - c.shared.drawn ≡ 0 = omega arith in
            let still : budget - (c.shared.drawn + 1) ≡ 0 = omega arith in
            let p : (n + 5) * (budget - c.shared.drawn) ≡ (n + 5) * 0 =
            ap (λ x. (n + 5) * x) none in
            let q : (n + 5) * (budget - (c.shared.drawn + 1)) ≡ (n + 5) * 0 =
            ap (λ x. (n + 5) * x) still in
            let v : weight n w ≡ 2 = weight-at Holding is in
            omega arith

    -- Closing.

    pushing-weight : (paths : List (List ℕ)) →
        phase_weight n (pushing_or_resting paths) (length paths) ≤ 3 + length paths
    pushing-weight [] = omega arith
    pushing-weight (x ∷ paths) = omega arith

    committed-weight : (path : List ℕ) (v : Verdict) →
        ((paths : List (List ℕ)) (note : Option Noted) → v ≡ Open paths note →
        length paths ≤ n) → weight n (commits path w v) < n + 5
    committed-weight path (Better start) h = omega arith
    committed-weight path Plain h = omega arith
    committed-weight path (ByPrices prices) h = omega arith
    committed-weight path (ByOther other) h = omega arith
    committed-weight path (Open paths note) h =
        omega (arith, pushing-weight paths, h paths note refl)

    abbrev opened-by : Verdict → List (List ℕ)
    opened-by (Better start) = []
    opened-by Plain = []
    opened-by (ByPrices prices) = []
    opened-by (ByOther other) = []
    opened-by (Open paths _) = paths

    abbrev task : Task
    task = task_at ranked charges

    few-opened : (known : ℕ) (store : Stored) (key : Key) (plan path : List ℕ) →
        IsPathOf ranked path → length (opened-by (verdict task known store key plan path)) ≤ n
    few-opened known store key plan path tree = go (is_leaf task path) refl
      where
        leaf : (b : Bool) → length (opened-by
            (cond b (Better (record { plan = plan; loss = loss_at task path })) Plain)) ≤ n
        leaf true = omega arith
        leaf false = omega arith

        opens : length path < n → (other : Option (List ℕ)) →
            length (opened-by (verdict_open task key path other)) ≤ n
        opens k None = few-children ranked path tree k
        opens k (Some other) = omega arith

        inner : length path < n → (a b : Bool) →
            length (opened-by (cond a (ByPrices (first_prices task path))
            (cond b (ByPrices (second_prices task path))
            (verdict_open task key path (found_at task store key path))))) ≤ n
        inner k true b = omega arith
        inner k false true = omega arith
        inner k false false = opens k (found_at task store key path)

        short : is_leaf task path ≡ false → length path < n
        short e =
            let long = length-map ranked.placed (λ x. x.order) in
            let most = tree-length ranked.mill (orders_of ranked) path tree.is in
            let other : length path ≢ length (orders_of ranked) =
            λ q. clash (is_leaf task path) (eq-eqb (length path) (length (orders_of ranked)) q) e
            in
            omega (arith, long, most, other)

        go : (b : Bool) → is_leaf task path ≡ b →
            length (opened-by (cond b (verdict_leaf task known plan path)
            (verdict_inner task known store key path))) ≤ n
        go true e = leaf _
        go false e = inner (short e) _ _

    close-lowers : (path : List ℕ) → w.held ≡ Some path → w.phase ≡ ClosingNow →
        IsPathOf ranked path → left (after c i (c.shared, closed_held ranked charges w w.held))
        < left c
    close-lowers path held is tree =
        subst (λ (o : Option (List ℕ)). left (after c i (c.shared, closed_held ranked charges w o))
        < left c) (sym held)
        (lowers (c.shared, closed_held ranked charges w (Some path)) refl
        (let v : Verdict =
        verdict task w.known w.store (live_key_at ranked path) (plan_at ranked path) path in
        let few = few-opened w.known w.store (live_key_at ranked path) (plan_at ranked path) path
        tree in
        let less : weight n (commits path w v) < n + 5 =
        committed-weight path v (λ paths note e. subst (λ (u : Verdict).
        length (opened-by u) ≤ n) e few) in
        let before : weight n w ≡ n + 5 = weight-at ClosingNow is in
        omega arith))

    -- Idle events of a worker that holds nothing.

    module _ (held : w.held ≡ None) (waiting : w.waiting ≡ []) where
      calm : is_busy w ≡ false
      calm =
          ap (λ (o : Option (List ℕ)). not (is_empty (option_to_list o) && is_empty w.waiting)) held
          ∙ ap (λ q. not (is_empty (option_to_list None) && is_empty q)) waiting

      -- as near as before, where not all is over
      as-near : (phase : Phase) → is_over c ≡ false → is_empty_at c i ≡ true →
          distance false true phase ≡ distance false true w.phase →
          (stopped : Bool) → near c i w.phase phase stopped
      as-near phase o e same stopped = inr (
        distance-same (is_over c) false (is_empty_at c i) true phase phase o e refl ∙ same
            ∙ sym (distance-same (is_over c) false (is_empty_at c i) true w.phase w.phase o e refl),
        λ q. absurd (clash (is_over c) q o),
        λ q. (e, calm),
      )

      closer : (phase : Phase) (over empty : Bool) → is_over c ≡ over → is_empty_at c i ≡ empty →
          distance over empty phase < distance over empty w.phase → (stopped : Bool) →
          near c i w.phase phase stopped
      closer phase over empty o e less stopped =
          let a = distance-same (is_over c) over (is_empty_at c i) empty phase phase o e refl in
          let b =
          distance-same (is_over c) over (is_empty_at c i) empty w.phase w.phase o e refl in
          inl (omega (arith, a, b, less))

      empty-deque : (j : ℕ) (paths : List (List ℕ)) → deque c.shared j ≡ [] → paths ≡ [] →
          with_deque c.shared j paths ≡ c.shared
      empty-deque j paths z e =
          ap (λ (ds : List (List (List ℕ))). record c.shared { deques = ds })
          (set-empty c.shared.deques j paths z e)

      take-idles : (path : Option (List ℕ)) → last_of (deque c.shared i) ≡ path →
          w.phase ≡ Taking →
          LowersOrIdles c i (with_taken c.shared i, took (length c.workers) w path)
      take-idles (Some path) e is =
          let v : weight n w ≡ 3 = weight-at Taking is in
          inl (lowers (with_taken c.shared i, (hold path w, Moved)) refl (omega arith))
      take-idles None e is =
          let z : deque c.shared i ≡ [] = no-last (deque c.shared i) e in
          inr (record {
            shared = empty-deque i (front (deque c.shared i)) z (ap front z);
            busy = refl;
            same = three (ltb 1 (length c.workers)) ∙ sym (weight-at Taking is);
            nearer = next (ltb 1 (length c.workers)) (is_over c) refl (ap is_empty z);
          })
        where
          three : (b : Bool) →
              phase_weight n (cond b Stealing Resting) (length w.waiting) ≡ 3
          three true = refl
          three false = refl

          next : (b over : Bool) → is_over c ≡ over → is_empty_at c i ≡ true →
              near c i w.phase (cond b Stealing Resting) false
          next true true o em =
              closer Stealing true true o em
              (let d : distance true true w.phase ≡ 2 = ap (distance true true) is in omega arith)
              false
          next false true o em =
              closer Resting true true o em
              (let d : distance true true w.phase ≡ 2 = ap (distance true true) is in omega arith)
              false
          next true false o em =
              as-near Stealing o em (sym (ap (distance false true) is)) false
          next false false o em =
              as-near Resting o em (sym (ap (distance false true) is)) false

      steal-idles : (path : Option (List ℕ)) → first_of (deque c.shared w.victim) ≡ path →
          w.phase ≡ Stealing →
          LowersOrIdles c i (with_stolen c.shared w.victim, stole (length c.workers) i w path)
      steal-idles (Some path) e is =
          let v : weight n w ≡ 3 = weight-at Stealing is in
          inl (lowers (with_stolen c.shared w.victim, stole (length c.workers) i w (Some path))
          refl (omega arith))
      steal-idles None e is =
          let z : deque c.shared w.victim ≡ [] = no-first (deque c.shared w.victim) e in
          inr (record {
            shared = empty-deque w.victim (tail_of (deque c.shared w.victim)) z (ap tail_of z);
            busy = refl;
            same = sym (weight-at Stealing is);
            nearer = next (is_over c) refl (is_empty_at c i) refl;
          })
        where
          next : (over : Bool) → is_over c ≡ over → (empty : Bool) → is_empty_at c i ≡ empty →
              near c i w.phase Resting false
          next true o true em =
              closer Resting true true o em
              (let d : distance true true w.phase ≡ 1 = ap (distance true true) is in omega arith)
              false
          next true o false em =
              closer Resting true false o em
              (let d : distance true false w.phase ≡ 1 = ap (distance true false) is in
              omega arith) false
          next false o true em = as-near Resting o em (sym (ap (distance false true) is)) false
          next false o false em =
              closer Resting false false o em
              (let d : distance false false w.phase ≡ 3 = ap (distance false false) is in
              omega arith) false

      rest-idles : (halted drained : Bool) → is_over c ≡ (halted || drained) →
          w.phase ≡ Resting →
          LowersOrIdles c i (c.shared, rested w (cond halted Halted (cond drained Drained Going)))
      rest-idles true drained o is = inr (record {
        shared = refl;
        busy = refl;
        same = refl;
        nearer = inr (refl, (λ q. refl), λ q. absurd (clash (is_over c) o q));
      })
      rest-idles false true o is = inr (record {
        shared = refl;
        busy = refl;
        same = refl;
        nearer = inr (refl, (λ q. refl), λ q. absurd (clash (is_over c) o q));
      })
      rest-idles false false o is = inr (record {
        shared = refl;
        busy = refl;
        same = sym (weight-at Resting is);
        nearer = next (is_empty_at c i) refl;
      })
        where
          next : (empty : Bool) → is_empty_at c i ≡ empty → near c i w.phase Taking false
          next true em = as-near Taking o em (sym (ap (distance false true) is)) false
          next false em =
              closer Taking false false o em
              (let d : distance false false w.phase ≡ 2 = ap (distance false false) is in
              omega arith) false

    push-lowers : (path : Option (List ℕ)) → w.phase ≡ Pushing → 0 < length w.waiting →
        left (after c i (push_last c i w path)) < left c
    push-lowers None is k =
        let v : weight n w ≡ 3 + length w.waiting = weight-at Pushing is in
        lowers (c.shared, (to Resting w, Moved)) refl (omega arith)
    push-lowers (Some path) is k =
        let v : weight n w ≡ 3 + length w.waiting = weight-at Pushing is in
        let f : length (front w.waiting) + 1 ≡ length w.waiting = front-length w.waiting k in
        let p : phase_weight n (pushing_or_resting (front w.waiting)) (length (front w.waiting))
        ≤ 3 + length (front w.waiting) = pushing-weight (front w.waiting) in
        lowers (with_pushed c.shared i path, pushed w (front w.waiting)) refl (omega arith)

    module _ (workers : ℕ) (safe : IsSafe ranked charges workers i w)
        (last : w.phase ≡ Ended → c.shared.halted ≡ true) where
      idles-at : (phase : Phase) → w.phase ≡ phase → HeldIn phase w.held →
          WaitingIn phase w.waiting →
          LowersOrIdles c i (step_in ranked charges budget phase c i w)
      idles-at Resting is h k = rest-idles h k c.shared.halted (is_drained c) refl is
      idles-at Taking is h k = take-idles h k (last_of (deque c.shared i)) refl is
      idles-at Stealing is h k = steal-idles h k (first_of (deque c.shared w.victim)) refl is
      idles-at Holding is h k = inl (draw-lowers is)
      idles-at Halting is h k =
          let v : weight n w ≡ 1 = weight-at Halting is in
          inl (lowers (step_in ranked charges budget Halting c i w) refl (omega arith))
      idles-at Ended is h k = inr (record {
        shared = refl;
        busy = refl;
        same = refl;
        nearer = inr (
          refl,
          (λ q. refl),
          λ q. absurd (clash (is_over c)
              (ap (λ b. b || is_drained c) (last is)) q),
        );
      })
      idles-at Bounding is h k =
          let v : weight n w ≡ n + 6 = weight-at Bounding is in
          inl (lowers (step_in ranked charges budget Bounding c i w) refl (omega arith))
      idles-at ClosingNow is h k = inl (close-lowers h.0 h.1 is (safe.held h.0 h.1))
      idles-at Publishing is h k =
          let v : weight n w ≡ 4 = weight-at Publishing is in
          inl (lowers (step_in ranked charges budget Publishing c i w) refl (omega arith))
      idles-at Pushing is h k = inl (push-lowers (last_of w.waiting) is k)

      pub event-lowers-or-idles : LowersOrIdles c i (step ranked charges budget c i)
      event-lowers-or-idles = idles-at w.phase refl safe.held_in safe.waiting_in
