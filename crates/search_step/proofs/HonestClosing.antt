-- A closing keeps a worker honest: its record is sound and thrifty, what it names is split, and
-- what it splits is noted where a class starts. A plan is kept only where it loses less, and then
-- its loss is known and published next.
use Rattle.std.proofs.Common.{◌≡◌, ◌<◌, ◌≤◌, ◌≢◌, ℕ, Bool, true, false, cond, ltb, eqb}
use Rattle.std.proofs.Common.{List, [], ◌∷◌, ◌++◌, length, get_or, Option, Some, None, inl, inr}
use Rattle.std.proofs.Common.{refl, sym, ap, subst, arith, le-leb, lt-ltb, ltb-true, ltb-false}
use Rattle.std.proofs.Common.{eq-eqb}
use Rattle.list_laws.specs.Sets.{same_list}
use Rattle.list_laws.proofs.Among.{each-append, each-weaker}
use Rattle.list_laws.proofs.Tests.{clash}
use Rattle.list_laws.proofs.Times.{same_list-refl}
use Rattle.mill_laws.proofs.Paths.{tree-length}
use Rattle.mill_model.specs.Log.{Task, sound}
use Rattle.mill_model.specs.Tree.{children}
use Rattle.mill_model.specs.declared.closing.Entry.{Entry}
use Rattle.mill_model.specs.declared.closing.Closing.TheVariants.{Split, Leaf, Priced, Dominated}
use Rattle.mill_model.specs.declared.plan.Start.{Start}
use Rattle.nogood_store.specs.declared.store.Entry.{Entry as Noted}
use Rattle.order_symmetry.specs.Ranked.{orders_of}
use Rattle.search_step.specs.Honest.{IsKept, IsNotedIn, KeepsHonest, KeepsPlan, has_split}
use Rattle.search_step.specs.Moves.{closed, commits, exceeds, first_prices, found_at, is_leaf}
use Rattle.search_step.specs.Moves.{loss_at, noted, pushing_or_resting, second_prices}
use Rattle.search_step.specs.Moves.{starts, verdict, verdict_inner, verdict_leaf, verdict_open}
use Rattle.search_step.specs.Moves.{with_note}
use Rattle.search_step.specs.Parts.{Parts}
use Rattle.search_step.specs.Serving.{IsPathOf}
use Rattle.search_step.specs.Steps.{AreOf, Becomes, BecomesOrStays, Closes, IsNotedOf}
use Rattle.search_step.specs.Steps.{task_at}
use Rattle.search_step.specs.Worker.{WorkerParts, IsWorker}
use Rattle.search_step.specs.declared.parts.Phase.TheVariants.{Publishing}
use Rattle.search_step.specs.declared.parts.Phase.TheVariants.{Closing as ClosingNow}
use Rattle.search_step.specs.declared.parts.Turn.{Turn}
use Rattle.search_step.specs.declared.parts.Turn.TheVariants.{Moved, Drew, Idle, Stopped}
use Rattle.search_step.specs.declared.parts.Turn.TheVariants.{OutOfMemory}
use Rattle.search_step.specs.declared.parts.Verdict.TheVariants.{Better, Plain, ByPrices, Open}
use Rattle.split_tree.specs.Keys.{Key, IsLiveKey}
use Rattle.search_step.proofs.KeptByEvent.{held-in}
use Rattle.search_step.proofs.Notes.{notes-any, notes-each, notes-few, notes-now}
use Rattle.search_step.proofs.OneMoreRecord.{anew-more, named-more, not-publishing, one-more}
use Rattle.search_step.proofs.OneMoreRecord.{opened-publishing, plain-honest, record-honest}
use Rattle.search_step.proofs.OneMoreRecord.{records-more, split-still, thrifty-more}
use Rattle.search_step.proofs.Soundness.{all-at, and-both, first-sound, found-other, leaf-kept}
use Rattle.search_step.proofs.Soundness.{none-stands, open-thrifty, other-sound, second-sound}
use Rattle.search_step.proofs.SplitRecords.{split-last}

not-equal : (a b : ℕ) → a ≤ b → eqb a b ≡ false → a < b
not-equal a b below differ =
    let unlike : (a ≡ b) → ⊥ = λ same. clash (eqb a b) (eq-eqb a b same) differ in omega arith

module _ (worker : WorkerParts) (is : IsWorker worker) where
  abbrev parts : Parts
  parts = worker.parts

  abbrev task : Task
  task = task_at worker.ranked worker.charges

  abbrev StaysHonest : Parts → Type 0
  StaysHonest became = KeepsHonest worker.ranked worker.charges worker.parts became

  module _ (path : List ℕ) (tree : IsPathOf worker.ranked path) where
    leaf-honest : (key : Key) (plan : List ℕ) →
        AreOf worker.ranked worker.charges worker.parts.known path key plan →
        is_leaf task path ≡ true → (better : Bool) →
        ltb (loss_at task path) worker.parts.known ≡ better →
        StaysHonest (commits path worker.parts
        (cond better (Better (record { plan = plan; loss = loss_at task path })) Plain))
    leaf-honest key plan are leaf true better =
        let less : loss_at task path < parts.known = ltb-true _ _ better in
        let found : Start = record { plan = plan; loss = loss_at task path } in
        let keeps : KeepsPlan parts (commits path parts (Better found)) found =
        record { kept = refl; less = less; known = refl; next = refl } in
        record-honest worker path Leaf Publishing (loss_at task path) (Some found) (omega arith)
        (and-both _ _ leaf (le-leb (loss_at task path) (loss_at task path) (omega arith))) refl
        (λ start honest. refl)
        (λ start honest kept e. (let same = some-same found kept e in (
          subst (IsKept worker.ranked worker.charges) same
              (leaf-kept worker.ranked worker.charges path tree plan
              (are.lowered (rw (leaf, better) refl))),
          (let equal : loss_at task path ≡ kept.loss = ap (λ (s : Start). s.loss) same in
              omega arith),
        )))
        (inr (found, keeps)) (λ next. (found, keeps))
      where
        some-same : (x y : Start) → Some x ≡ Some y → x ≡ y
        some-same x y e = cc
    leaf-honest key plan are leaf false as_much =
        plain-honest worker path Leaf
        (and-both _ _ leaf (le-leb _ _ (ltb-false _ _ as_much))) refl (λ start honest. refl)

    module _ (key : Key) (keyed : starts (task_at worker.ranked worker.charges) path ≡ true →
        IsLiveKey (record { ranked = worker.ranked; path = path }) key) where
      abbrev notes : List Noted
      notes = (with_note worker.parts.store (noted task key path)).entries

      abbrev split : Entry
      split = record { path = path; closing = Split }

      -- a split path that is noted stays so, and the one that is split now is noted

      noted-still : (entry : Entry) → IsNotedIn task worker.parts.store.entries entry →
          IsNotedIn task notes entry
      noted-still entry is_noted = record {
        noted = λ splits start. notes-any task parts.store key path
            (λ note. same_list entry.path note.path) (is_noted.noted splits start);
      }

      noted-now : length worker.parts.store.entries < 65536 → IsNotedIn task notes split
      noted-now few = record {
        noted = λ splits start. notes-now task parts.store key path
            (λ note. same_list path note.path) (same_list-refl path) start
            (subst (λ room. length parts.store.entries < room) (sym is.safe.room) few);
      }

      split-honest : length path < length (orders_of worker.ranked) →
          exceeds task worker.parts.known path (first_prices task path) ≡ false →
          exceeds task worker.parts.known path (second_prices task path) ≡ false →
          found_at task worker.parts.store key path ≡ None →
          StaysHonest (commits path worker.parts
          (Open (children task.mill task.ranked path) (noted task key path)))
      split-honest inner first second none = record {
        falls = omega arith;
        plan = inl refl;
        publishes = λ e. absurd (not-publishing
            (pushing_or_resting (children task.mill task.ranked path))
            (opened-publishing (children task.mill task.ranked path)) e);
        keeps = λ start honest. record {
          at_most = honest.at_most;
          records = records-more worker path start honest Split parts.known (omega arith)
              (lt-ltb _ _ inner);
          named = named-more worker path start honest Split refl;
          split = notes-each task parts.store key path
              (λ (note : Noted). has_split (parts.piece ++ split ∷ []) note.path ≡ true)
              (split-still worker path start honest Split) (λ start. split-last parts.piece path);
          kept = honest.kept;
          above = honest.above;
          thrifty = thrifty-more worker path start honest Split
              (open-thrifty worker.ranked worker.charges path tree parts.known start
              honest.at_most first second);
          anew = anew-more worker path start honest Split (λ few earlier k m. record {
            anew = λ splits again. none-stands worker.ranked worker.charges path tree
                is.fits.of_instance key keyed parts.store (get_or parts.piece k earlier).path
                is.safe.stored none
                (λ start. (let there : IsNotedIn task parts.store.entries
                (get_or parts.piece k earlier) = all-at (IsNotedIn task parts.store.entries) k
                earlier parts.piece (honest.noted few) m in there.noted splits start));
          });
          noted = λ few.
              (let more = one-more worker path Split in let less = honest.notes in
              each-append (IsNotedIn task notes) parts.piece (split ∷ [])
              (each-weaker (IsNotedIn task parts.store.entries) (IsNotedIn task notes) parts.piece
              noted-still (honest.noted (omega arith))) (noted-now (omega arith), tt));
          notes = (let more = one-more worker path Split in let less = honest.notes in
              let few = notes-few task parts.store key path in omega arith);
        };
      }

      open-honest : length path < length (orders_of worker.ranked) →
          exceeds task worker.parts.known path (first_prices task path) ≡ false →
          exceeds task worker.parts.known path (second_prices task path) ≡ false →
          (other : Option (List ℕ)) → found_at task worker.parts.store key path ≡ other →
          StaysHonest (commits path worker.parts (verdict_open task key path other))
      open-honest inner first second None none = split-honest inner first second none
      open-honest inner first second (Some other) some =
          let found = found-other worker.ranked worker.charges path tree is.fits.of_instance key
          keyed parts.store (IsNotedOf worker.ranked worker.charges) other is.safe.stored some in
          plain-honest worker path (Dominated other)
          (subst (λ p. sound task parts.known path (Dominated p) ≡ true) found.2
          (other-sound worker.ranked worker.charges path tree is.fits.of_instance key keyed
          parts.store parts.known found.0 found.1.has found.1.same found.1.low found.3)) refl
          (λ start honest.
          (let split = found-other worker.ranked worker.charges path tree is.fits.of_instance key
          keyed parts.store (λ (note : Noted). has_split parts.piece note.path ≡ true) other
          honest.split some in
          subst (λ p. has_split parts.piece p ≡ true) split.2 split.1.has))

    inner-honest : (key : Key) (plan : List ℕ) →
        AreOf worker.ranked worker.charges worker.parts.known path key plan →
        is_leaf task path ≡ false → (first second : Bool) →
        exceeds task worker.parts.known path (first_prices task path) ≡ first →
        exceeds task worker.parts.known path (second_prices task path) ≡ second →
        StaysHonest (commits path worker.parts (cond first (ByPrices (first_prices task path))
        (cond second (ByPrices (second_prices task path))
        (verdict_open task key path (found_at task worker.parts.store key path)))))
    inner-honest key plan are inner true second e f =
        plain-honest worker path (Priced (first_prices task path))
        (first-sound worker.ranked worker.charges path tree parts.known e) refl
        (λ start honest. refl)
    inner-honest key plan are inner false true e f =
        plain-honest worker path (Priced (second_prices task path))
        (second-sound worker.ranked worker.charges path tree parts.known f) refl
        (λ start honest. refl)
    inner-honest key plan are inner false false e f =
        open-honest key (λ start. are.asked (rw (inner, e, f, start) refl))
        (not-equal _ _ (tree-length worker.ranked.mill (orders_of worker.ranked) path tree.is)
        inner) e f (found_at task parts.store key path) refl

    commit-honest : (key : Key) (plan : List ℕ) →
        AreOf worker.ranked worker.charges worker.parts.known path key plan →
        StaysHonest (commits path worker.parts
        (verdict task worker.parts.known worker.parts.store key plan path))
    commit-honest key plan are = go (is_leaf task path) refl
      where
        go : (leaf : Bool) → is_leaf (task_at worker.ranked worker.charges) path ≡ leaf →
            KeepsHonest worker.ranked worker.charges worker.parts (commits path worker.parts
            (cond leaf (verdict_leaf task parts.known plan path)
            (verdict_inner task parts.known parts.store key path)))
        go true e = leaf-honest key plan are e _ refl
        go false e = inner-honest key plan are e _ _ refl refl

  pub close-honest : worker.parts.phase ≡ ClosingNow → (turn : Turn) (became : Parts) →
      Closes worker.ranked worker.charges worker.parts turn became →
      KeepsHonest worker.ranked worker.charges worker.parts worker.parts →
      KeepsHonest worker.ranked worker.charges worker.parts became
  close-honest here turn became closes same = go turn closes.are closes.becomes
    where
      held : (path : List ℕ) × (worker.parts.held ≡ Some path)
      held = held-in worker (record { among = is.among; safe = is.safe }) ClosingNow here

      done : (turn : Turn) →
          AreOf worker.ranked worker.charges worker.parts.known held.0 closes.key closes.plan →
          Becomes became turn (closed (task_at worker.ranked worker.charges) closes.key closes.plan
          worker.parts worker.parts.held) →
          KeepsHonest worker.ranked worker.charges worker.parts became
      done turn are moves =
          let here : Becomes became turn (closed task closes.key closes.plan parts (Some held.0)) =
          subst (λ o. Becomes became turn (closed task closes.key closes.plan parts o)) held.1
          moves in
          subst StaysHonest (sym here.0)
          (commit-honest held.0 (is.safe.held held.0 held.1) closes.key closes.plan are)

      go : (turn : Turn) → (turn ≢ OutOfMemory → (path : List ℕ) → worker.parts.held ≡ Some path →
          AreOf worker.ranked worker.charges worker.parts.known path closes.key closes.plan) →
          BecomesOrStays worker.parts became turn
          (closed (task_at worker.ranked worker.charges) closes.key closes.plan worker.parts
          worker.parts.held) → KeepsHonest worker.ranked worker.charges worker.parts became
      go Moved are moves = done Moved (are (λ e. absurd (cc)) held.0 held.1) moves
      go Drew are moves = done Drew (are (λ e. absurd (cc)) held.0 held.1) moves
      go Idle are moves = done Idle (are (λ e. absurd (cc)) held.0 held.1) moves
      go Stopped are moves = done Stopped (are (λ e. absurd (cc)) held.0 held.1) moves
      go OutOfMemory are moves = subst StaysHonest (sym moves) same
