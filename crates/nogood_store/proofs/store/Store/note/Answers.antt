-- The entry is noted behind the others, with the number of its key, and each key keeps the place of
-- its best entry.
use Rattle.std.proofs.Common.{rules, ◌≡◌, ◌<◌, ◌++◌, ◌∷◌, [], List, ℕ, Some, IfSome, length, cond}
use Rattle.std.proofs.Common.{sym, ap, ◌∙◌, subst, arith}
use Rattle.std.proofs.lemmas.List.{length-map}
use Rattle.std.specs.Prelude.{unwrap_or}
use Rattle.std.specs.List.{position_or_len}
use Rattle.std.specs.Map.{keys_of}
use Rattle.indexmap.specs.IndexMap.{get, insert_entry, keys, Updates}
use Rattle.split_tree.specs.Keys.{Key, same_key}
use Rattle.nogood_store.specs.Entries.{Stored, found}
use Rattle.nogood_store.specs.Places.{AreNumbered, HasBest, entries_of, entry_at, entry_of}
use Rattle.nogood_store.specs.declared.store.Entry.{Entry}
use Rattle.nogood_store.specs.declared.store.Numbered.{Numbered}
use Rattle.nogood_store.proofs.Bests.{noted}
use Rattle.nogood_store.proofs.Numbers.{one-more, still-numbered}
use Rattle.nogood_store.proofs.store.Store.note.Goals as goal

-- the entries before the call, and the one that is noted
module _ (c : goal.After-push_reserved) where
  abbrev places : List (Key × ℕ)
  places = c.self.inside.places.entries

  abbrev numbered : List Numbered
  numbered = c.self.inside.entries.items

  abbrev entries : List Entry
  entries = entries_of (keys c.self.inside.places) numbered

  abbrev new : Numbered
  new = record { key = c.in-Ok.key; dead = c.args.dead; path = c.args.path }

  abbrev entry : Entry
  entry = record { key = c.args.key; dead = c.args.dead; path = c.args.path }

  abbrev best : ℕ
  best = c.unwrap_or-best.result

  pushed : c.push_reserved.new.self.items ≡ numbered ++ new ∷ []
  pushed = search rules

  inserted : c.insert_full.new.self.entries ≡ insert_entry same_key places c.args.key best
  inserted = search rules

  number : c.in-Ok.key ≡ position_or_len (same_key c.args.key) (keys_of places)
  number = search rules

  entries-after : entries_of (keys c.insert_full.new.self) c.push_reserved.new.self.items
      ≡ entries ++ entry ∷ []
  entries-after =
      (λ i. entries_of (keys_of (inserted i)) (pushed i))
      ∙ one-more places c.args.key best new number numbered c.self.invariant.0

  numbered-after : AreNumbered (keys c.insert_full.new.self) c.push_reserved.new.self.items
  numbered-after =
      let low : c.in-Ok.key < length c.insert_full.new.self.entries = search rules in
      let below : c.in-Ok.key < length (keys c.insert_full.new.self) =
      omega (arith, low, length-map c.insert_full.new.self.entries (λ (p : Key × ℕ). p.0)) in
      subst (AreNumbered (keys c.insert_full.new.self)) (sym pushed)
      (subst (λ (list : List (Key × ℕ)). AreNumbered (keys_of list) (numbered ++ new ∷ []))
      (sym inserted)
      (still-numbered places c.args.key best new number
      (subst (λ (list : List (Key × ℕ)). c.in-Ok.key < length (keys_of list)) inserted below)
      numbered c.self.invariant.0))

  best-after : HasBest (get same_key c.insert_full.new.self) (entries ++ entry ∷ [])
  best-after =
      let there : entry_at entries c.place.result ≡ found entries c.args.key c.args.dead =
      search rules in
      let low : IfSome c.place.result (λ place. place < length entries) = search rules in
      let last : c.len-last.result ≡ length entries =
      (search rules) ∙ sym (length-map numbered (entry_of (keys c.self.inside.places))) in
      let is : best ≡ unwrap_or c.place.result (length entries) =
      (search rules) ∙ ap (unwrap_or c.place.result) last in
      let put : Updates same_key c.self.inside.places c.insert_full.new.self c.args.key
      (Some best) = search rules in
      noted (get same_key c.self.inside.places) entries c.self.invariant.1 entry c.place.result
      there low (get same_key c.insert_full.new.self)
      (λ key. put.0 key ∙ ap (λ n. cond (same_key c.args.key key) (Some n)
      (get same_key c.self.inside.places key)) is)

pub invariant_of-self-3 : goal.invariant_of-self-3
invariant_of-self-3 c = (
  numbered-after c,
  subst (HasBest (get same_key c.insert_full.new.self)) (sym (entries-after c)) (best-after c),
)

pub returns-clause-kept : goal.returns-clause-kept
returns-clause-kept c kept =
    let after : Stored = record {
      entries = entries_of (keys c.insert_full.new.self) c.push_reserved.new.self.items;
      room = c.self.inside.room;
    } in
    subst (λ (s : Stored). after
    ≡ record { entries = s.entries ++ entry c ∷ []; room = s.room }) c.self.view_is
    (λ i. record { entries = entries-after c i; room = c.self.inside.room })
