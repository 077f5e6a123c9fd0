-- What linked tables tell of their lists: the plan that these stand for, and that each order is in
-- exactly one of them.
use Rattle.std.proofs.Common.{ℕ, zero, suc, ◌<◌, ◌≤◌, ◌≡◌, true, false, List, [], ◌∷◌, ◌++◌}
use Rattle.std.proofs.Common.{length, get_or, eqb, Option, Some, None, refl, sym, ap, ◌∙◌, arith}
use Rattle.std.proofs.Common.{subst, inl, inr, eq-eqb, ne_eqb}
use Rattle.std.proofs.lemmas.List.{get_or-map, get_or_append_left, get_or_default, length-map}
use Rattle.std.proofs.lemmas.List.{same_lists}
use Rattle.std.proofs.lemmas.List.Elements.{All-get_or}
use Rattle.list_laws.specs.Sets.{holds, different, below}
use Rattle.list_laws.proofs.Tests.{either, last-or-below}
use Rattle.list_laws.proofs.Different.{different-bounded}
use Rattle.list_laws.proofs.Lists.{length-below}
use Rattle.std.proofs.Math.Seq.{get_or-append_seam}
use Rattle.index_links.specs.Lists.{list_at, slab_in, plan_of, Apart, AreSlabLists, after}
use Rattle.index_links.specs.Links.{look, walk, lists_of, IsLinked}
use Rattle.index_links.proofs.LinkedLists.{chain-after, chain-first, first-holds, holds-rest}
use Rattle.index_links.proofs.LinkedLists.{walk-is}

-- a list without repeats has as many numbers as there are different ones
pub apart-different : (xs : List ℕ) → Apart xs → different xs ≡ length xs
apart-different [] a = refl
apart-different (x ∷ xs) a = rw a.0 (ap suc (apart-different xs a.1))

-- the first list that has a number
pub slab_in-is : (lists : List (List ℕ)) (o s : ℕ) → s < length lists →
    holds o (list_at lists s) ≡ true →
    ((t : ℕ) → t < s → holds o (list_at lists t) ≡ false) → slab_in lists o ≡ s
slab_in-is [] o s l h lower = absurd (omega arith)
slab_in-is (xs ∷ lists) o zero l h lower = rw h
slab_in-is (xs ∷ lists) o (suc s) l h lower =
    rw (lower 0 (omega arith))
    (ap suc (slab_in-is lists o s (omega arith) h (λ t b. lower (suc t) (omega arith))))

pub get_or-below : (n k : ℕ) → k < n → get_or (below n) k 0 ≡ k
get_or-below zero k l = absurd (omega arith)
get_or-below (suc n) k l = elim (last-or-below k n l) [
  | inl e ↦ subst (λ m. get_or (below n ++ n ∷ []) m 0 ≡ m) (sym e)
      (subst (λ m. get_or (below n ++ n ∷ []) m 0 ≡ n) (length-below n)
      (get_or-append_seam (below n) n [] 0))
  | inr b ↦ get_or_append_left (below n) (n ∷ []) 0 k (omega (arith, b, length-below n))
      ∙ get_or-below n k b
]

after-holds : (o : ℕ) (xs : List ℕ) (z : ℕ) → after o xs ≡ Some z → holds z xs ≡ true
after-holds o [] z e = absurd (cc)
after-holds o (x ∷ xs) z e = elim (either (eqb o x)) [
  | inl h ↦ holds-rest z x xs (first-holds xs z (rw h at e))
  | inr f ↦ holds-rest z x xs (after-holds o xs z (rw f at e))
]

module _ (firsts nexts previous : List (Option ℕ)) (slabs : List ℕ) (lists : List (List ℕ))
    (is : IsLinked firsts nexts previous slabs lists) where
  long-enough : (s : ℕ) → s < length nexts → length (list_at lists s) ≤ length nexts
  long-enough s l =
      let few = different-bounded (length nexts) (list_at lists s) (λ o h. is.orders s o l h) in
      let same = apart-different (list_at lists s) (is.apart s l) in
      omega (arith, few, same)

  -- the chains make the lists
  pub lists-are : lists_of firsts nexts ≡ lists
  lists-are =
      same_lists (lists_of firsts nexts) lists
      (length-map firsts (λ first. walk nexts first (length nexts)) ∙ is.firsts_count
      ∙ sym is.lists_count) (λ s d l. at s d (omega (
        arith,
        l,
        length-map firsts (λ first. walk nexts first (length nexts)),
        is.firsts_count,
      )))
    where
      at : (s : ℕ) (d : List ℕ) → s < length nexts → get_or (lists_of firsts nexts) s d
          ≡ get_or lists s d
      at s d l =
          get_or-map (λ first. walk nexts first (length nexts)) firsts s None d
          (omega (arith, l, is.firsts_count))
          ∙ walk-is nexts previous None (look firsts s) (list_at lists s) (length nexts)
          (long-enough s l) (is.chained s l)
          ∙ get_or_default lists s [] d (omega (arith, l, is.lists_count))

  -- an order is in the list of its slab
  pub slab-is : (o : ℕ) → o < length nexts → slab_in lists o ≡ get_or slabs o 0
  slab-is o l =
      let low = All-get_or (λ s. s < length nexts) slabs o 0 (omega (arith, l, is.slabs_count))
      is.slabs_below in
      slab_in-is lists o (get_or slabs o 0) (omega (arith, low, is.lists_count))
      (is.slab_is (get_or slabs o 0) o low l ∙ eq-eqb (get_or slabs o 0) (get_or slabs o 0) refl)
      (λ t b. is.slab_is t o (omega (arith, b, low)) l
      ∙ ne_eqb t (get_or slabs o 0) (λ e. absurd (omega (arith, b, e))))

  -- what stands behind an order in its list
  pub next-is : (o : ℕ) → o < length nexts →
      look nexts o ≡ after o (list_at lists (slab_in lists o))
  next-is o l =
      let s = get_or slabs o 0 in
      let low : s < length nexts =
      All-get_or (λ s. s < length nexts) slabs o 0 (omega (arith, l, is.slabs_count))
      is.slabs_below in
      chain-after nexts previous None (look firsts s) (list_at lists s) o
      (is.slab_is s o low l ∙ eq-eqb s s refl) (is.chained s low)
      ∙ ap (λ t. after o (list_at lists t)) (sym (slab-is o l))

  pub plan-is : plan_of lists ≡ slabs
  plan-is =
      let count : length (below (length lists)) ≡ length nexts =
      length-below (length lists) ∙ is.lists_count in
      same_lists (plan_of lists) slabs
      (length-map (below (length lists)) (slab_in lists) ∙ count ∙ sym is.slabs_count)
      (λ o d l. at o d
      (omega (arith, l, length-map (below (length lists)) (slab_in lists), count)))
    where
      at : (o d : ℕ) → o < length nexts → get_or (plan_of lists) o d ≡ get_or slabs o d
      at o d l =
          get_or-map (slab_in lists) (below (length lists)) o 0 d
          (omega (arith, l, length-below (length lists), is.lists_count))
          ∙ ap (slab_in lists) (get_or-below (length lists) o (omega (arith, l, is.lists_count)))
          ∙ slab-is o l ∙ get_or_default slabs o 0 d (omega (arith, l, is.slabs_count))

  pub are-lists : AreSlabLists lists
  are-lists = record {
    few = omega (arith, is.lists_count, is.few);
    orders = λ s o l h. (let low = is.orders s o (omega (arith, l, is.lists_count)) h in
        omega (arith, low, is.lists_count));
    one_list = λ s o l k. (let here : o < length nexts = omega (arith, k, is.lists_count) in
        is.slab_is s o (omega (arith, l, is.lists_count)) here
        ∙ ap (eqb s) (sym (slab-is o here)));
    once = λ s l. is.apart s (omega (arith, l, is.lists_count));
  }

  -- the tables name orders alone
  pub first-in-range : (s z : ℕ) → s < length nexts → look firsts s ≡ Some z → z < length nexts
  first-in-range s z l e =
      is.orders s z l
      (first-holds (list_at lists s) z
      (sym (chain-first nexts previous None (look firsts s) (list_at lists s) (is.chained s l))
      ∙ e))

  pub next-in-range : (o z : ℕ) → o < length nexts → look nexts o ≡ Some z → z < length nexts
  next-in-range o z l e =
      let low : slab_in lists o < length nexts =
      subst (λ s. s < length nexts) (sym (slab-is o l))
      (All-get_or (λ s. s < length nexts) slabs o 0 (omega (arith, l, is.slabs_count))
      is.slabs_below) in
      is.orders (slab_in lists o) z low
      (after-holds o (list_at lists (slab_in lists o)) z (sym (next-is o l) ∙ e))
