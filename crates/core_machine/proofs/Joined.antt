-- What the pieces and the unclosed paths of workers come to, counted worker by worker.
use Rattle.std.proofs.Common.{ℕ, ◌+◌, ◌≡◌, Bool, true, false, ◌||◌, ◌&&◌, not, List, [], ◌∷◌}
use Rattle.std.proofs.Common.{◌++◌, length, map, flat_map, refl, sym, ap, ◌∙◌, arith}
use Rattle.std.proofs.Common.{append_assoc, length-append}
use Rattle.std.specs.List.{AllByRecursion}
use Rattle.list_laws.specs.Sets.{same_list, times}
use Rattle.list_laws.proofs.Among.{each-weaker}
use Rattle.list_laws.proofs.Times.{times-append}
use Rattle.mill_model.specs.Conserved.{joined}
use Rattle.mill_model.specs.Log.{Task, is_settled, is_dominated, names_settled, recorded}
use Rattle.mill_model.specs.Log.{split_children}
use Rattle.mill_model.specs.declared.closing.Entry.{Entry}
use Rattle.mill_model.specs.declared.closing.Closing.{Closing}
use Rattle.mill_model.specs.declared.closing.Closing.TheVariants.{Split, Leaf, Priced, Dominated}
use Rattle.mill_model.proofs.Records.{recorded-append, split-append}
use Rattle.search_step.specs.Honest.{has_split, is_split, names_split}
use Rattle.search_step.specs.Parts.{Parts}
use Rattle.core_machine.specs.Core.{unclosed_by}
use Rattle.core_machine.specs.Counts.{own_count, split_count, sum_of}

pub joined-append : (xs ys : List (List Entry)) → joined (xs ++ ys) ≡ joined xs ++ joined ys
joined-append [] ys = refl
joined-append (piece ∷ xs) ys =
    ap (λ l. piece ++ l) (joined-append xs ys) ∙ sym (append_assoc piece (joined xs) (joined ys))

abbrev pub pieces_in : List Parts → List (List Entry)
pieces_in ws = map (λ w. w.piece) ws

module _ (x : List ℕ) where
  abbrev t : List (List ℕ) → ℕ
  t = times same_list x

  recorded-times : (xs ys : List Entry) →
      t (recorded (xs ++ ys)) ≡ t (recorded xs) + t (recorded ys)
  recorded-times xs ys =
      ap t (recorded-append xs ys) ∙ times-append same_list x (recorded xs) (recorded ys)

  -- the recorded and the unclosed paths of workers
  pub own-counted : (ws : List Parts) →
      t (recorded (joined (pieces_in ws))) + t (flat_map unclosed_by ws)
      ≡ sum_of (own_count x) ws
  own-counted [] = refl
  own-counted (w ∷ ws) =
      omega (
        arith,
        own-counted ws,
        recorded-times w.piece (joined (pieces_in ws)),
        times-append same_list x (unclosed_by w) (flat_map unclosed_by ws),
        times-append same_list x (recorded w.piece) (unclosed_by w),
      )

  -- the paths of deques
  pub queued-counted : (deques : List (List (List ℕ))) →
      t (flat_map (λ paths. paths) deques) ≡ sum_of t deques
  queued-counted [] = refl
  queued-counted (paths ∷ deques) =
      omega (
        arith,
        queued-counted deques,
        times-append same_list x paths (flat_map (λ (paths : List (List ℕ)). paths) deques),
      )

  split-times : (task : Task) (xs ys : List Entry) →
      t (split_children task (xs ++ ys)) ≡ t (split_children task xs) + t (split_children task ys)
  split-times task xs ys =
      ap t (split-append task xs ys)
      ∙ times-append same_list x (split_children task xs) (split_children task ys)

  -- the children of what workers split
  pub split-counted : (task : Task) (ws : List Parts) →
      t (split_children task (joined (pieces_in ws))) ≡ sum_of (split_count task x) ws
  split-counted task [] = refl
  split-counted task (w ∷ ws) =
      omega (arith, split-counted task ws, split-times task w.piece (joined (pieces_in ws)))

  -- the same of two runs' records
  pub recorded-both : (xs ys : List (List Entry)) →
      t (recorded (joined (xs ++ ys))) ≡ t (recorded (joined xs)) + t (recorded (joined ys))
  recorded-both xs ys =
      ap (λ l. t (recorded l)) (joined-append xs ys) ∙ recorded-times (joined xs) (joined ys)

  pub split-both : (task : Task) (xs ys : List (List Entry)) →
      t (split_children task (joined (xs ++ ys)))
      ≡ t (split_children task (joined xs)) + t (split_children task (joined ys))
  split-both task xs ys =
      ap (λ l. t (split_children task l)) (joined-append xs ys)
      ∙ split-times task (joined xs) (joined ys)

pub length-counted : (ws : List Parts) →
    length (joined (pieces_in ws)) ≡ sum_of (λ (w : Parts). length w.piece) ws
length-counted [] = refl
length-counted (w ∷ ws) =
    omega (arith, length-counted ws, length-append w.piece (joined (pieces_in ws)))

pub length-both : (xs ys : List (List Entry)) →
    length (joined (xs ++ ys)) ≡ length (joined xs) + length (joined ys)
length-both xs ys = ap length (joined-append xs ys) ∙ length-append (joined xs) (joined ys)

-- what is so of each piece of workers is so of their pieces
pub each-piece : (P : List Entry → Type 0) (ws : List Parts) →
    AllByRecursion (λ (w : Parts). P w.piece) ws → AllByRecursion P (pieces_in ws)
each-piece P [] a = tt
each-piece P (w ∷ ws) a = (a.0, each-piece P ws a.1)

-- a split record isn't dominated
split-here : (same : Bool) (c : Closing) (split settled : Bool) →
    (split ≡ true → settled ≡ true) → ((same && is_split c) || split) ≡ true →
    ((same && not (is_dominated c)) || settled) ≡ true
split-here true Split split settled h k = refl
split-here true Leaf split settled h k = refl
split-here true (Priced prices) split settled h k = refl
split-here true (Dominated other) split settled h k = h k
split-here false c split settled h k = h k

split-settled : (piece : List Entry) (path : List ℕ) → has_split piece path ≡ true →
    is_settled piece path ≡ true
split-settled [] path h = h
split-settled (entry ∷ piece) path h =
    split-here (same_list path entry.path) entry.closing (has_split piece path)
    (is_settled piece path) (split-settled piece path) h

split-names-settled : (piece : List Entry) (c : Closing) → names_split piece c ≡ true →
    names_settled piece c ≡ true
split-names-settled piece Split h = refl
split-names-settled piece Leaf h = refl
split-names-settled piece (Priced prices) h = refl
split-names-settled piece (Dominated other) h = split-settled piece other h

-- what names split paths names settled ones
pub named-settled : (piece : List Entry) →
    AllByRecursion (λ entry. names_split piece entry.closing ≡ true) piece →
    AllByRecursion (λ entry. names_settled piece entry.closing ≡ true) piece
named-settled piece =
    each-weaker (λ entry. names_split piece entry.closing ≡ true)
    (λ entry. names_settled piece entry.closing ≡ true) piece
    (λ entry h. split-names-settled piece entry.closing h)
