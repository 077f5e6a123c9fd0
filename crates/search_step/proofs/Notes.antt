-- What becomes of the notes where a path is split: they stay as they are, or the path is one more.
-- It is one more where it ends at the start of a class and the store has room.
use Rattle.std.proofs.Common.{◌≡◌, ◌<◌, ◌≤◌, ◌⊎◌, inl, inr, ℕ, ◌+◌, Bool, true, false, cond, ltb}
use Rattle.std.proofs.Common.{List, [], ◌∷◌, ◌++◌, length, Some, None, refl, sym, ap, ◌∙◌, subst}
use Rattle.std.proofs.Common.{arith, length-append, lt-ltb}
use Rattle.std.proofs.lemmas.List.Folds.{list_any-append}
use Rattle.std.specs.List.{AllByRecursion, list_any}
use Rattle.list_laws.proofs.Among.{each-append}
use Rattle.list_laws.proofs.Tests.{or-left, or-right}
use Rattle.mill_model.specs.Log.{Task}
use Rattle.nogood_store.specs.Entries.{Stored}
use Rattle.nogood_store.specs.declared.store.Entry.{Entry as Noted}
use Rattle.search_step.specs.Moves.{noted, note_of, starts, with_note}
use Rattle.split_tree.specs.Keys.{Key}

any-more : (test : Noted → Bool) (xs ys : List Noted) → list_any test xs ≡ true →
    list_any test (xs ++ ys) ≡ true
any-more test xs ys holds =
    list_any-append test xs ys ∙ or-left (list_any test xs) (list_any test ys) holds

any-last : (test : Noted → Bool) (xs : List Noted) (last : Noted) → test last ≡ true →
    list_any test (xs ++ last ∷ []) ≡ true
any-last test xs last holds =
    list_any-append test xs (last ∷ [])
    ∙ or-right (list_any test xs) (list_any test (last ∷ [])) (rw holds refl)

module _ (task : Task) (store : Stored) (key : Key) (path : List ℕ) where
  abbrev note : Noted
  note = note_of task key path

  abbrev notes : List Noted
  notes = (with_note store (noted task key path)).entries

  abbrev with_room : Bool → Stored
  with_room room =
      cond room (record { entries = store.entries ++ note ∷ []; room = store.room }) store

  notes-or-more : (notes ≡ store.entries)
      ⊎ ((starts task path ≡ true) × (notes ≡ store.entries ++ note ∷ []))
  notes-or-more = go (starts task path) refl
    where
      room : (b : Bool) → starts task path ≡ true → ((with_room b).entries ≡ store.entries)
          ⊎ ((starts task path ≡ true) × ((with_room b).entries ≡ store.entries ++ note ∷ []))
      room true start = inr (start, refl)
      room false start = inl refl

      go : (b : Bool) → starts task path ≡ b →
          ((with_note store (cond b (Some note) None)).entries ≡ store.entries)
          ⊎ ((starts task path ≡ true)
          × ((with_note store (cond b (Some note) None)).entries ≡ store.entries ++ note ∷ []))
      go true start = room (ltb (length store.entries) store.room) start
      go false inside = inl refl

  notes-more : starts task path ≡ true → length store.entries < store.room →
      notes ≡ store.entries ++ note ∷ []
  notes-more start room =
      ap (λ b. (with_note store (cond b (Some note) None)).entries) start
      ∙ ap (λ b. (with_room b).entries) (lt-ltb (length store.entries) store.room room)

  pub notes-room : (with_note store (noted task key path)).room ≡ store.room
  notes-room = go (starts task path)
    where
      more : (b : Bool) → (with_room b).room ≡ store.room
      more true = refl
      more false = refl

      go : (b : Bool) → (with_note store (cond b (Some note) None)).room ≡ store.room
      go true = more (ltb (length store.entries) store.room)
      go false = refl

  -- what holds of each note, and of the new one where a class starts, holds of each then
  pub notes-each : (P : Noted → Type 0) → AllByRecursion P store.entries →
      (starts task path ≡ true → P note) → AllByRecursion P notes
  notes-each P all new = elim notes-or-more [
    | inl same ↦ subst (AllByRecursion P) (sym same) all
    | inr more ↦ subst (AllByRecursion P) (sym more.1)
        (each-append P store.entries (note ∷ []) all (new more.0, tt))
  ]

  -- what is noted stays so
  pub notes-any : (test : Noted → Bool) → list_any test store.entries ≡ true →
      list_any test notes ≡ true
  notes-any test any = elim notes-or-more [
    | inl same ↦ subst (λ xs. list_any test xs ≡ true) (sym same) any
    | inr more ↦ subst (λ xs. list_any test xs ≡ true) (sym more.1)
        (any-more test store.entries (note ∷ []) any)
  ]

  -- and the path is noted where there is room
  pub notes-now : (test : Noted → Bool) → test note ≡ true → starts task path ≡ true →
      length store.entries < store.room → list_any test notes ≡ true
  notes-now test holds start room =
      subst (λ xs. list_any test xs ≡ true) (sym (notes-more start room))
      (any-last test store.entries note holds)

  pub notes-few : length notes ≤ length store.entries + 1
  notes-few = elim notes-or-more [
    | inl same ↦ (let l : length notes ≡ length store.entries = ap length same in omega arith)
    | inr more ↦ (let l : length notes ≡ length store.entries + 1 =
        ap length more.1 ∙ length-append store.entries (note ∷ []) in omega arith)
  ]
