-- Pieces of a run with nothing unclosed: joined, they are a log that refutes what each of their
-- records is sound for. The joined log is complete, and what a piece names the joined log has too.
use Rattle.std.proofs.Common.{ℕ, ◌+◌, ◌≤◌, ◌≡◌, true, ◌&&◌, ◌||◌, eqb, List, [], ◌∷◌, ◌++◌, length}
use Rattle.std.proofs.Common.{refl, arith, append-nil, ℤ, pos, ◌-ℤ◌, ◌*ℤ◌, int_lt}
use Rattle.std.proofs.lemmas.Bool.Decides.{nat_tests}
use Rattle.std.proofs.lemmas.Int.{ints}
use Rattle.std.specs.List.{AllByRecursion}
use Rattle.mill_model.specs.Prices.{valid}
use Rattle.mill_model.specs.Tree.{later_orders}
use Rattle.mill_model.specs.Log.{Task, sound, is_settled, names_settled, Refutes}
use Rattle.mill_model.specs.Conserved.{joined, IsConserved}
use Rattle.mill_model.specs.declared.closing.Entry.{Entry}
use Rattle.mill_model.specs.declared.closing.Closing.{Closing}
use Rattle.mill_model.specs.declared.closing.Closing.TheVariants.{Split, Leaf, Priced, Dominated}
use Rattle.list_laws.proofs.Tests.{and-left, and-right, or-left, or-right}
use Rattle.list_laws.proofs.Among.{each-append}
use Rattle.list_laws.proofs.Among.{each-weaker}

-- A record that is sound for a loss is sound for a lesser one.
pub sound-less : (task : Task) (more less : ℕ) (path : List ℕ) (c : Closing) → less ≤ more →
    sound task more path c ≡ true → sound task less path c ≡ true
sound-less task more less path Split l h = h
sound-less task more less path Leaf l h = grind (arith, nat_tests)
sound-less task more less path (Priced prices) l h =
    let front =
    eqb (length path + length prices) (length task.ranked)
    && valid task.mill task.charge (later_orders task.ranked path) prices in
    rw (and-left front _ h) (still _ (and-right front _ h))
  where
    still : (x : ℤ) → int_lt (pos 60 *ℤ (pos more -ℤ pos 1)) x ≡ true →
        int_lt (pos 60 *ℤ (pos less -ℤ pos 1)) x ≡ true
    still x h = grind (arith, ints)
sound-less task more less path (Dominated other) l h = h

-- What one piece has, the joined pieces have.

pub settled-append : (xs ys : List Entry) (p : List ℕ) →
    is_settled (xs ++ ys) p ≡ (is_settled xs p || is_settled ys p)
settled-append [] ys p = refl
settled-append (e ∷ xs) ys p = grind (arith, settled-append xs ys p)

pub names-left : (xs ys : List Entry) (c : Closing) → names_settled xs c ≡ true →
    names_settled (xs ++ ys) c ≡ true
names-left xs ys Split h = refl
names-left xs ys Leaf h = refl
names-left xs ys (Priced prices) h = refl
names-left xs ys (Dominated other) h =
    rw (settled-append xs ys other) (or-left (is_settled xs other) (is_settled ys other) h)

pub names-right : (xs ys : List Entry) (c : Closing) → names_settled ys c ≡ true →
    names_settled (xs ++ ys) c ≡ true
names-right xs ys Split h = refl
names-right xs ys Leaf h = refl
names-right xs ys (Priced prices) h = refl
names-right xs ys (Dominated other) h =
    rw (settled-append xs ys other) (or-right (is_settled xs other) (is_settled ys other) h)

-- What holds of each record of each piece.

pub each-joined : (P : Entry → Type 0) (pieces : List (List Entry)) →
    AllByRecursion (λ piece. AllByRecursion P piece) pieces → AllByRecursion P (joined pieces)
each-joined P [] h = h
each-joined P (piece ∷ pieces) h =
    each-append P piece (joined pieces) h.0 (each-joined P pieces h.1)

pub named-all : (pieces : List (List Entry)) →
    AllByRecursion (λ piece. AllByRecursion (λ e. names_settled piece e.closing ≡ true) piece)
    pieces → AllByRecursion (λ e. names_settled (joined pieces) e.closing ≡ true) (joined pieces)
named-all [] h = h
named-all (piece ∷ pieces) h =
    let all = piece ++ joined pieces in
    let in-all : Entry → Type 0 = λ e. names_settled all e.closing ≡ true in
    each-append in-all piece (joined pieces)
    (each-weaker (λ e. names_settled piece e.closing ≡ true) in-all piece
    (λ e i. names-left piece (joined pieces) e.closing i) h.0)
    (each-weaker (λ e. names_settled (joined pieces) e.closing ≡ true) in-all (joined pieces)
    (λ e i. names-right piece (joined pieces) e.closing i) (named-all pieces h.1))

pub conserved-refutes : (task : Task) (bound : ℕ) (pieces : List (List Entry)) →
    IsConserved task pieces [] → AllByRecursion (λ e. sound task bound e.path e.closing ≡ true)
    (joined pieces) → Refutes task bound (joined pieces)
conserved-refutes task bound pieces c s = record {
  complete = λ path. rw append-nil at (c.paths path);
  each_sound = s;
  each_named = named-all pieces c.named;
}
