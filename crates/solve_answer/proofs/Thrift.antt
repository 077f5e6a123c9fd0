-- Thrift for a loss is thrift for each greater one; and a run that is thrifty for a loss, with a
-- path left, has fewer records than the thrifty tree of that loss has paths.
use Rattle.std.proofs.Common.{◌≡◌, ◌≢◌, ℕ, ◌<◌, ◌≤◌, true, List, [], ◌∷◌, ◌++◌}
use Rattle.std.proofs.Common.{length, refl, arith, ℤ, pos, ◌-ℤ◌, ◌*ℤ◌, int_le}
use Rattle.std.proofs.lemmas.Int.{ints}
use Rattle.std.specs.List.{AllByRecursion}
use Rattle.mill_model.specs.Bounds.{ascent_worth, swept_worth}
use Rattle.mill_model.specs.Conserved.{joined, IsConserved}
use Rattle.mill_model.specs.Log.{Task, sound}
use Rattle.mill_model.specs.Size.{may_split, thrifty_size}
use Rattle.mill_model.specs.Thrift.{splits_thriftily, AreThrifty}
use Rattle.mill_model.specs.declared.closing.Closing.{Closing}
use Rattle.mill_model.specs.declared.closing.Closing.TheVariants.{Split, Leaf, Priced, Dominated}
use Rattle.mill_model.specs.declared.closing.Entry.{Entry}
use Rattle.mill_model.proofs.Records.{recorded-length}
use Rattle.list_laws.proofs.Among.{each-weaker}
use Rattle.list_laws.proofs.Tests.{and-left, and-right}
use Rattle.mill_laws.specs.RunLaws.{EachRecord, splits_only_where}
use Rattle.mill_laws.proofs.RunLaws.{thrifty-run-fits-the-thrifty-tree}

-- a worth that is at most 60 * (less - 1) is at most 60 * (more - 1)
within-more : (less more : ℕ) (worth : ℤ) → less ≤ more →
    int_le worth (pos 60 *ℤ (pos less -ℤ pos 1)) ≡ true →
    int_le worth (pos 60 *ℤ (pos more -ℤ pos 1)) ≡ true
within-more less more worth l h = grind (arith, ints)

thriftily-more : (task : Task) (less more : ℕ) (path : List ℕ) (closing : Closing) →
    less ≤ more → splits_thriftily task less path closing ≡ true →
    splits_thriftily task more path closing ≡ true
thriftily-more task less more path Split l h =
    let ascent = ascent_worth task.mill task.charge task.ranked path in
    let swept = swept_worth task.mill task.charge task.ranked path in
    let first = within-more less more ascent l (and-left (may_split task less path) _ h) in
    let second = within-more less more swept l (and-right (may_split task less path) _ h) in
    rw (first, second) refl
thriftily-more task less more path Leaf l h = refl
thriftily-more task less more path (Priced prices) l h = refl
thriftily-more task less more path (Dominated other) l h = refl

pub thrifty-more : (task : Task) (less more : ℕ) (log : List Entry) → less ≤ more →
    AreThrifty task less log → AreThrifty task more log
thrifty-more task less more log l h =
    each-weaker (λ entry. splits_thriftily task less entry.path entry.closing ≡ true)
    (λ entry. splits_thriftily task more entry.path entry.closing ≡ true) log
    (λ entry one. thriftily-more task less more entry.path entry.closing l one) h

-- a sound and thrifty record splits only a path that may be split
splits-where : (task : Task) (loss start : ℕ) (path : List ℕ) (closing : Closing) →
    sound task loss path closing ≡ true → splits_thriftily task start path closing ≡ true →
    splits_only_where task (may_split task start) path closing ≡ true
splits-where task loss start path Split s h =
    let may = and-left (may_split task start path) _ h in rw (may, s) refl
splits-where task loss start path Leaf s h = refl
splits-where task loss start path (Priced prices) s h = refl
splits-where task loss start path (Dominated other) s h = refl

each-splits-where : (task : Task) (loss start : ℕ) (pieces : List (List Entry)) →
    EachRecord pieces (λ entry. sound task loss entry.path entry.closing ≡ true) →
    EachRecord pieces (λ entry. splits_thriftily task start entry.path entry.closing ≡ true) →
    EachRecord pieces
    (λ entry. splits_only_where task (may_split task start) entry.path entry.closing ≡ true)
each-splits-where task loss start [] s h = tt
each-splits-where task loss start (piece ∷ pieces) s h =
    (in-piece piece s.0 h.0, each-splits-where task loss start pieces s.1 h.1)
  where
    in-piece : (piece : List Entry) →
        AllByRecursion (λ entry. sound task loss entry.path entry.closing ≡ true) piece →
        AllByRecursion (λ entry. splits_thriftily task start entry.path entry.closing ≡ true)
        piece →
        AllByRecursion
        (λ entry. splits_only_where task (may_split task start) entry.path entry.closing ≡ true)
        piece
    in-piece [] s h = tt
    in-piece (entry ∷ piece) s h =
        (splits-where task loss start entry.path entry.closing s.0 h.0, in-piece piece s.1 h.1)

-- what holds of each joined record holds of each record of each piece
each-apart : (P : Entry → Type 0) (pieces : List (List Entry)) →
    AllByRecursion P (joined pieces) → EachRecord pieces P
each-apart P [] h = tt
each-apart P (piece ∷ pieces) h = (front piece h, each-apart P pieces (back piece h))
  where
    front : (piece : List Entry) → AllByRecursion P (piece ++ joined pieces) →
        AllByRecursion P piece
    front [] h = tt
    front (entry ∷ piece) h = (h.0, front piece h.1)

    back : (piece : List Entry) → AllByRecursion P (piece ++ joined pieces) →
        AllByRecursion P (joined pieces)
    back [] h = h
    back (entry ∷ piece) h = back piece h.1

some-length : {X : Type 0} (xs : List X) → xs ≢ [] → 0 < length xs
some-length [] some = absurd (some refl)
some-length (x ∷ xs) some = omega arith

pub below-thrifty-tree : (task : Task) (loss start : ℕ) (pieces : List (List Entry))
    (unclosed : List (List ℕ)) → IsConserved task pieces unclosed →
    EachRecord pieces (λ entry. sound task loss entry.path entry.closing ≡ true) →
    AreThrifty task start (joined pieces) → unclosed ≢ [] →
    length (joined pieces) < thrifty_size task start
below-thrifty-tree task loss start pieces unclosed conserved sound thrifty some =
    omega (
      arith,
      thrifty-run-fits-the-thrifty-tree task start pieces unclosed conserved
          (each-splits-where task loss start pieces sound
          (each-apart (λ entry. splits_thriftily task start entry.path entry.closing ≡ true)
          pieces thrifty)),
      recorded-length (joined pieces),
      some-length unclosed some,
    )
