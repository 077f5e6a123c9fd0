-- A key has the place of its best entry, which is the one that is found where its dead loss is low
-- enough.
use Rattle.std.proofs.Common.{rules, ◌≡◌, ◌<◌, List, ℕ, Option, Some, None, length, sym, ap, ◌∙◌}
use Rattle.std.proofs.Common.{subst, arith}
use Rattle.std.proofs.lemmas.List.{length-map}
use Rattle.std.specs.Prelude.{slice_get}
use Rattle.indexmap.specs.IndexMap.{get, keys}
use Rattle.split_tree.specs.Keys.{Key, same_key}
use Rattle.nogood_store.specs.Entries.{Stored, found}
use Rattle.nogood_store.specs.Places.{entries_of, entry_at, entry_of}
use Rattle.nogood_store.specs.declared.store.Entry.{Entry}
use Rattle.nogood_store.specs.declared.store.Numbered.{Numbered}
use Rattle.nogood_store.proofs.Bests.{none-there, one-above, one-there}
use Rattle.nogood_store.proofs.Numbers.{entry-there}
use Rattle.nogood_store.proofs.store.Store.place.Goals as goal

pub returns-in_err-place-clause-found : goal.returns-in_err-place-clause-found
returns-in_err-place-clause-found c =
    let places : Key → Option ℕ = get same_key c.self.inside.places in
    let entries : List Entry =
    entries_of (keys c.self.inside.places) c.self.inside.entries.items in
    let absent : None ≡ places c.args.key.now = search rules in
    let none : c.from_residual.result ≡ None = search rules in
    subst (λ (s : Stored). entry_at s.entries c.from_residual.result
    ≡ found s.entries c.args.key.now c.args.dead) c.self.view_is
    (ap (entry_at entries) none
    ∙ none-there places entries c.self.invariant.1 c.args.key.now c.args.dead absent)

pub returns-then-index-dead-clause-found : goal.returns-then-index-dead-clause-found
returns-then-index-dead-clause-found c =
    let places : Key → Option ℕ = get same_key c.self.inside.places in
    let numbered : List Numbered = c.self.inside.entries.items in
    let entries : List Entry = entries_of (keys c.self.inside.places) numbered in
    let place : ℕ = c.in_ok-place.field-0.now in
    let is : Some place ≡ places c.args.key.now = search rules in
    let low : place < length entries =
    c.self.invariant.1.within c.args.key.now place (sym is) in
    let entry : Entry = entry_of (keys c.self.inside.places) c.index.result.now in
    let there : slice_get entries place ≡ Some entry =
    entry-there (keys c.self.inside.places) numbered place c.index.result.now
    (omega (arith, length-map numbered (entry_of (keys c.self.inside.places)))) c.index.ensures in
    subst (λ (s : Stored). slice_get s.entries place
    ≡ found s.entries c.args.key.now c.args.dead) c.self.view_is
    (there ∙ one-there places entries c.self.invariant.1 c.args.key.now c.args.dead entry
    (ap (entry_at entries) (sym is) ∙ there) c.if-index-dead.true)

pub returns-else-index-dead-clause-found : goal.returns-else-index-dead-clause-found
returns-else-index-dead-clause-found c =
    let places : Key → Option ℕ = get same_key c.self.inside.places in
    let numbered : List Numbered = c.self.inside.entries.items in
    let entries : List Entry = entries_of (keys c.self.inside.places) numbered in
    let place : ℕ = c.in_ok-place.field-0.now in
    let is : Some place ≡ places c.args.key.now = search rules in
    let low : place < length entries =
    c.self.invariant.1.within c.args.key.now place (sym is) in
    let entry : Entry = entry_of (keys c.self.inside.places) c.index.result.now in
    let there : slice_get entries place ≡ Some entry =
    entry-there (keys c.self.inside.places) numbered place c.index.result.now
    (omega (arith, length-map numbered (entry_of (keys c.self.inside.places)))) c.index.ensures in
    subst (λ (s : Stored). None ≡ found s.entries c.args.key.now c.args.dead) c.self.view_is
    (one-above places entries c.self.invariant.1 c.args.key.now c.args.dead entry
    (ap (entry_at entries) (sym is) ∙ there) c.if-index-dead.false)
