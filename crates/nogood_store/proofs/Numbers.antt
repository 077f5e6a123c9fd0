-- Keys that are added go behind the others, so that the keys of numbered entries stay what they
-- are.
use Rattle.std.proofs.Common.{ℕ, zero, suc, ◌+◌, ◌<◌, ◌≤◌, ◌≡◌, List, [], ◌∷◌}
use Rattle.std.proofs.Common.{◌++◌, length, get_or, Some, refl, sym, ap, ap₂, ◌∙◌, inl, inr, arith}
use Rattle.std.proofs.lemmas.Option.{slice_get-get_or, slice_get-map}
use Rattle.std.specs.List.{position_or_len}
use Rattle.std.specs.Map.{keys_of}
use Rattle.std.specs.Prelude.{option_map, slice_get}
use Rattle.indexmap.specs.IndexMap.{insert_entry}
use Rattle.list_laws.proofs.Tests.{either}
use Rattle.split_tree.specs.Keys.{Key, same_key}
use Rattle.split_tree.specs.KeyLaws.{same-key-is-equal}
use Rattle.nogood_store.specs.Places.{AreNumbered, entries_of, entry_of, key_at}
use Rattle.nogood_store.specs.declared.store.Entry.{Entry}
use Rattle.nogood_store.specs.declared.store.Numbered.{Numbered}

-- each key keeps its number
key-stays : (places : List (Key × ℕ)) (key : Key) (best number : ℕ) →
    number < length (keys_of places) →
    key_at (keys_of (insert_entry same_key places key best)) number
    ≡ key_at (keys_of places) number
key-stays [] key best number l = absurd (omega arith)
key-stays (p ∷ places) key best zero l = elim (either (same_key key p.0)) [
  | inl s ↦ rw s refl
  | inr s ↦ rw s refl
]
key-stays (p ∷ places) key best (suc number) l = elim (either (same_key key p.0)) [
  | inl s ↦ rw s refl
  | inr s ↦ rw s (key-stays places key best number (omega arith))
]

-- no key is lost
keys-grow : (places : List (Key × ℕ)) (key : Key) (best : ℕ) →
    length (keys_of places) ≤ length (keys_of (insert_entry same_key places key best))
keys-grow [] key best = omega arith
keys-grow (p ∷ places) key best = elim (either (same_key key p.0)) [
  | inl s ↦ rw s (omega arith)
  | inr s ↦ rw s (let more = keys-grow places key best in omega arith)
]

past-first : (first : Key) (keys : List Key) (number : ℕ) →
    key_at (first ∷ keys) (1 + number) ≡ key_at keys number
past-first first keys number =
    let next : 1 + number ≡ suc number = omega arith in
    ap (key_at (first ∷ keys)) next

-- the key that is added has its number
key-has-number : (places : List (Key × ℕ)) (key : Key) (best : ℕ) →
    key_at (keys_of (insert_entry same_key places key best))
    (position_or_len (same_key key) (keys_of places)) ≡ key
key-has-number [] key best = refl
key-has-number (p ∷ places) key best = elim (either (same_key key p.0)) [
  | inl s ↦ rw s (sym (same-key-is-equal key p.0 s))
  | inr s ↦ rw s (past-first p.0 (keys_of (insert_entry same_key places key best))
      (position_or_len (same_key key) (keys_of places)) ∙ key-has-number places key best)
]

pub entry-there : (keys : List Key) (entries : List Numbered) (place : ℕ) (entry : Numbered) →
    place < length entries → entry ≡ get_or entries place entry →
    slice_get (entries_of keys entries) place ≡ Some (entry_of keys entry)
entry-there keys entries place entry low is =
    slice_get-map (entry_of keys) entries place
    ∙ ap (option_map (entry_of keys))
    (slice_get-get_or entries place entry low ∙ ap Some (sym is))

-- An entry of the key is noted behind the others, with the key's number.
module _ (places : List (Key × ℕ)) (key : Key) (best : ℕ) (new : Numbered)
    (number : new.key ≡ position_or_len (same_key key) (keys_of places)) where
  abbrev grown : List Key
  grown = keys_of (insert_entry same_key places key best)

  pub one-more : (entries : List Numbered) → AreNumbered (keys_of places) entries →
      entries_of grown (entries ++ new ∷ [])
      ≡ entries_of (keys_of places) entries
      ++ record { key = key; dead = new.dead; path = new.path } ∷ []
  one-more [] are =
      ap (λ k. record { key = k; dead = new.dead; path = new.path } ∷ [])
      (ap (key_at grown) number ∙ key-has-number places key best)
  one-more (entry ∷ entries) are =
      ap₂ (λ (e : Entry) es. e ∷ es)
      (ap (λ k. record { key = k; dead = entry.dead; path = entry.path })
      (key-stays places key best entry.key (are 0 entry (omega arith))))
      (one-more entries (λ i d l. are (suc i) d (omega arith)))

  pub still-numbered : new.key < length grown → (entries : List Numbered) →
      AreNumbered (keys_of places) entries → AreNumbered grown (entries ++ new ∷ [])
  still-numbered low [] are zero d l = low
  still-numbered low [] are (suc i) d l = absurd (omega arith)
  still-numbered low (entry ∷ entries) are zero d l =
      let old : entry.key < length (keys_of places) = are 0 d (omega arith) in
      let more = keys-grow places key best in
      omega arith
  still-numbered low (entry ∷ entries) are (suc i) d l =
      still-numbered low entries (λ j d l. are (suc j) d (omega arith)) i d (omega arith)
