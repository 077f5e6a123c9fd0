-- A change of one deque, as a change of one list.
use Rattle.std.proofs.Common.{◌≡◌, ℕ, zero, suc, ◌<◌, List, [], ◌∷◌, ◌++◌, length, set, get_or}
use Rattle.std.proofs.Common.{Option, Some, None, MatchOption, option_to_list, replicate, sym}
use Rattle.std.proofs.Common.{ap, ◌∙◌, subst, append-nil, ◌+◌}
use Rattle.std.proofs.lemmas.List.{get_or-map, length-map, map-set, map_push, nil_from_length}
use Rattle.std.proofs.lemmas.List.{replicate_more, set-get_or}
use Rattle.std.specs.List.{AllByRecursion}
use Rattle.order_symmetry.specs.Ranked.{RankedOrders}
use Rattle.search_step.specs.Moves.{last_of, front}
use Rattle.search_step.specs.Serving.{IsPathOf}
use Rattle.search_step.proofs.Lasts.{last-snoc, front-snoc}
use Rattle.core_machine.specs.Core.{first_of, tail_of}
use Rattle.core_replay.specs.Lists.{AllInTree, DequeLists, PathDeque, list_at, lists_of, with_list}

lists-set : (ds : List PathDeque) (i : ℕ) (q : PathDeque) →
    lists_of (set ds i q) ≡ set (lists_of ds) i q.items
lists-set ds i q = map-set (λ (r : PathDeque). r.items) ds i q

list-is : (ds : List PathDeque) (i : ℕ) (q : PathDeque) → i < length ds → q ≡ get_or ds i q →
    get_or (lists_of ds) i [] ≡ q.items
list-is ds i q l e =
    get_or-map (λ (r : PathDeque). r.items) ds i q [] l ∙ ap (λ (r : PathDeque). r.items) (sym e)

pub lists-length : (ds : List PathDeque) → length (lists_of ds) ≡ length ds
lists-length ds = length-map ds (λ (r : PathDeque). r.items)

set-itself : (ds : List PathDeque) (i : ℕ) (q q' : PathDeque) → i < length ds →
    q ≡ get_or ds i q → q'.items ≡ q.items → lists_of (set ds i q') ≡ lists_of ds
set-itself ds i q q' l e same =
    lists-set ds i q' ∙ ap (set (lists_of ds) i) (same ∙ sym (list-is ds i q l e))
    ∙ set-get_or (lists_of ds) i []

-- what was taken from the back or the front
took-back : (xs ys : List (List ℕ)) (r : Option (List ℕ)) → xs ≡ ys ++ option_to_list r →
    MatchOption r (length xs ≡ 0) (λ _. Unit {0}) → (r ≡ last_of xs) × (ys ≡ front xs)
took-back xs ys None e n =
    let z : xs ≡ [] = nil_from_length xs n in
    let y : ys ≡ [] = sym (append-nil ys) ∙ sym e ∙ z in
    (sym (ap last_of z), y ∙ sym (ap front z))
took-back xs ys (Some x) e n =
    (sym (ap last_of e ∙ last-snoc ys x), sym (ap front e ∙ front-snoc ys x))

took-front : (xs ys : List (List ℕ)) (r : Option (List ℕ)) → xs ≡ option_to_list r ++ ys →
    MatchOption r (length xs ≡ 0) (λ _. Unit {0}) → (r ≡ first_of xs) × (ys ≡ tail_of xs)
took-front xs ys None e n =
    let z : xs ≡ [] = nil_from_length xs n in
    let y : ys ≡ [] = sym e ∙ z in
    (sym (ap first_of z), y ∙ sym (ap tail_of z))
took-front xs ys (Some x) e n = (sym (ap first_of e), sym (ap tail_of e))

-- where nothing was taken there was nothing
pub none-there : (Q : List ℕ → Type 0) (r : Option (List ℕ)) (n m k : ℕ) →
    MatchOption r ((n ≡ 0) × (m ≡ 0)) Q → k ≡ n → MatchOption r (k ≡ 0) (λ _. Unit {0})
none-there Q None n m k h e = e ∙ h.0
none-there Q (Some x) n m k h e = tt

module _ (ranked : RankedOrders) (ds : List PathDeque) (i k : ℕ) (same : k ≡ i)
    (q q' : PathDeque) (lt : i < length ds) (at : q ≡ get_or ds k q) where
  abbrev before : DequeLists
  before = record { ranked = ranked; lists = lists_of ds }

  abbrev after : DequeLists
  after = record { ranked = ranked; lists = lists_of (set ds k q') }

  here : q ≡ get_or ds i q
  here = subst (λ n. q ≡ get_or ds n q) same at

  its-list : list_at before i ≡ q.items
  its-list = list-is ds i q lt here

  changed : (ys : List (List ℕ)) → q'.items ≡ ys → after ≡ with_list before i ys
  changed ys e =
      ap (λ n. record { ranked = ranked; lists = lists_of (set ds n q') }) same
      ∙ ap (λ (l : List (List (List ℕ))). record { ranked = ranked; lists = l })
      (lists-set ds i q' ∙ ap (set (lists_of ds) i) e)

  pub popped-back : (r : Option (List ℕ)) → q.items ≡ q'.items ++ option_to_list r →
      MatchOption r (length q.items ≡ 0) (λ _. Unit {0}) →
      (r ≡ last_of (list_at before i)) × (after ≡ with_list before i (front (list_at before i)))
  popped-back r e n =
      let t = took-back q.items q'.items r e n in (
        t.0 ∙ sym (ap last_of its-list),
        changed (front (list_at before i)) (t.1 ∙ sym (ap front its-list)),
      )

  pub popped-front : (r : Option (List ℕ)) → q.items ≡ option_to_list r ++ q'.items →
      MatchOption r (length q.items ≡ 0) (λ _. Unit {0}) →
      (r ≡ first_of (list_at before i)) × (after ≡ with_list before i (tail_of (list_at before i)))
  popped-front r e n =
      let t = took-front q.items q'.items r e n in (
        t.0 ∙ sym (ap first_of its-list),
        changed (tail_of (list_at before i)) (t.1 ∙ sym (ap tail_of its-list)),
      )

  pub pushed-back : (x : List ℕ) → q'.items ≡ q.items ++ x ∷ [] →
      after ≡ with_list before i (list_at before i ++ x ∷ [])
  pushed-back x e =
      changed (list_at before i ++ x ∷ []) (e ∙ ap (λ l. l ++ x ∷ []) (sym its-list))

  pub unchanged : q'.items ≡ q.items → after ≡ before
  unchanged e =
      ap (λ n. record { ranked = ranked; lists = lists_of (set ds n q') }) same
      ∙ ap (λ (l : List (List (List ℕ))). record { ranked = ranked; lists = l })
      (set-itself ds i q q' lt here e)

-- Deques without a path.

pub one-more-empty : (ds : List PathDeque) (q : PathDeque) (n : ℕ) → q.items ≡ [] →
    lists_of ds ≡ replicate n [] → lists_of (ds ++ q ∷ []) ≡ replicate (n + 1) []
one-more-empty ds q n e h =
    map_push (λ (r : PathDeque). r.items) ds q ∙ ap (λ l. lists_of ds ++ l ∷ []) e
    ∙ ap (λ l. l ++ [] ∷ []) h ∙ replicate_more n []

pub empty-in-tree : (ranked : RankedOrders) (ds : List PathDeque) (n : ℕ) →
    lists_of ds ≡ replicate n [] → AllInTree ranked ds
empty-in-tree ranked [] n e = tt
empty-in-tree ranked (d ∷ ds) zero e = absurd (cc)
empty-in-tree ranked (d ∷ ds) (suc n) e = (
  subst (AllByRecursion (IsPathOf ranked)) (sym (ap first e)) tt,
  empty-in-tree ranked ds n (ap rest e),
)
  where
    first : List (List (List ℕ)) → List (List ℕ)
    first [] = []
    first (l ∷ ls) = l

    rest : List (List (List ℕ)) → List (List (List ℕ))
    rest [] = []
    rest (l ∷ ls) = ls
