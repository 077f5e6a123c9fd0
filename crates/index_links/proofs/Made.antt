-- The chains of a plan, made from its last order to its first.
use Rattle.std.proofs.Common.{ℕ, zero, suc, ◌+◌, ◌-◌, ◌<◌, ◌≤◌, ◌≡◌, ◌⊎◌, Bool, true, false, cond}
use Rattle.std.proofs.Common.{List, [], ◌∷◌, length, get_or, set, drop, eqb, replicate, Option}
use Rattle.std.proofs.Common.{Some}
use Rattle.std.proofs.Common.{None, refl, sym, ap, ◌∙◌, arith, subst, inl, inr, eqb-true, ne_eqb}
use Rattle.std.proofs.Common.{eq-eqb}
use Rattle.std.proofs.Math.Seq.{drop-cons}
use Rattle.std.specs.List.{All}
use Rattle.std.proofs.lemmas.List.{get_or-drop, get_or-map, length-drop, length-map}
use Rattle.std.proofs.lemmas.List.{length-replicate, length-set}
use Rattle.std.proofs.lemmas.List.Elements.{All-get_or}
use Rattle.list_laws.specs.Sets.{holds, below}
use Rattle.mill_model.specs.declared.order.TheConstants.{MAX_ORDERS}
use Rattle.list_laws.proofs.Tests.{either, or-cases}
use Rattle.list_laws.proofs.Lists.{length-below}
use Rattle.index_links.specs.Lists.{Apart, list_at, lists_of_plan, places_where}
use Rattle.index_links.specs.Links.{look, set_at, Chain, IsLinked}
use Rattle.index_links.proofs.LinkedLists.{first-holds, chain-first}
use Rattle.index_links.proofs.Moved.{look-set, look-set_at, length-set_at}
use Rattle.index_links.proofs.Relinked.{chains-with}
use Rattle.index_links.proofs.Views.{get_or-below}

-- the places of the numbers of a kind

pub places-low : (kind : ℕ → Bool) (k : ℕ) (plan : List ℕ) (z : ℕ) →
    holds z (places_where kind k plan) ≡ true → k ≤ z
places-low kind k [] z h = absurd (cc)
places-low kind k (t ∷ plan) z h = elim (either (kind t)) [
  | inl e ↦ elim (or-cases (eqb z k) (holds z (places_where kind (suc k) plan)) (rw e at h)) [
    | inl same ↦ omega (arith, eqb-true z k same)
    | inr i ↦ omega (arith, places-low kind (suc k) plan z i)
  ]
  | inr f ↦ omega (arith, places-low kind (suc k) plan z (rw f at h))
]

pub places-high : (kind : ℕ → Bool) (k : ℕ) (plan : List ℕ) (z : ℕ) →
    holds z (places_where kind k plan) ≡ true → z < k + length plan
places-high kind k [] z h = absurd (cc)
places-high kind k (t ∷ plan) z h = elim (either (kind t)) [
  | inl e ↦ elim (or-cases (eqb z k) (holds z (places_where kind (suc k) plan)) (rw e at h)) [
    | inl same ↦ omega (arith, eqb-true z k same)
    | inr i ↦ omega (arith, places-high kind (suc k) plan z i)
  ]
  | inr f ↦ omega (arith, places-high kind (suc k) plan z (rw f at h))
]

lacks : (kind : ℕ → Bool) (k : ℕ) (plan : List ℕ) (z : ℕ) → z < k →
    holds z (places_where kind k plan) ≡ false
lacks kind k plan z l = elim (either (holds z (places_where kind k plan))) [
  | inl t ↦ absurd (omega (arith, places-low kind k plan z t))
  | inr f ↦ f
]

pub places-apart : (kind : ℕ → Bool) (k : ℕ) (plan : List ℕ) → Apart (places_where kind k plan)
places-apart kind k [] = tt
places-apart kind k (t ∷ plan) = elim (either (kind t)) [
  | inl e ↦ rw e (lacks kind (suc k) plan k (omega arith), places-apart kind (suc k) plan)
  | inr f ↦ rw f (places-apart kind (suc k) plan)
]

-- a place is one of the kind where the number that stands there is
pub places-at : (kind : ℕ → Bool) (k : ℕ) (plan : List ℕ) (j z : ℕ) → j < length plan → z ≡ k + j →
    holds z (places_where kind k plan) ≡ kind (get_or plan j 0)
places-at kind k [] j z l e = absurd (omega arith)
places-at kind k (t ∷ plan) zero z l e = elim (either (kind t)) [
  | inl h ↦ rw (h, eq-eqb z k (omega arith))
  | inr f ↦ rw f (lacks kind (suc k) plan z (omega arith))
]
places-at kind k (t ∷ plan) (suc j) z l e = elim (either (kind t)) [
  | inl h ↦ rw (h, ne_eqb z k (λ q. absurd (omega (arith, q, e))))
      (places-at kind (suc k) plan j z (omega arith) (omega arith))
  | inr f ↦ rw f (places-at kind (suc k) plan j z (omega arith) (omega arith))
]

-- the orders of a slab from one on
abbrev pub behind : List ℕ → ℕ → ℕ → List ℕ
behind plan k s = places_where (eqb s) k (drop k plan)

behind-at : (plan : List ℕ) (k s z : ℕ) → k ≤ z → z < length plan →
    holds z (behind plan k s) ≡ eqb s (get_or plan z 0)
behind-at plan k s z l h =
    let j : z ≡ k + (z - k) = omega arith in
    places-at (eqb s) k (drop k plan) (z - k) z (omega (arith, length-drop k plan)) j
    ∙ ap (eqb s) (get_or-drop k plan (z - k) 0 ∙ ap (λ i. get_or plan i 0) (sym j))

behind-in : (plan : List ℕ) (k s z : ℕ) → k ≤ length plan → holds z (behind plan k s) ≡ true →
    (k ≤ z) × (z < length plan)
behind-in plan k s z l h = (
  places-low (eqb s) k (drop k plan) z h,
  omega (arith, places-high (eqb s) k (drop k plan) z h, length-drop k plan),
)

-- chains of the orders from one on
pub record AreMade (plan : List ℕ) (k : ℕ) (firsts nexts previous : List (Option ℕ)) : Type 0 where
  pub firsts_count : length firsts ≡ length plan
  pub nexts_count : length nexts ≡ length plan
  pub previous_count : length previous ≡ length plan
  pub chained : (s : ℕ) → s < length plan →
      Chain nexts previous None (look firsts s) (behind plan k s)

look-none : (n s : ℕ) → look (replicate n None) s ≡ None
look-none zero s = refl
look-none (suc n) zero = refl
look-none (suc n) (suc s) = look-none n s

drop-all : (plan : List ℕ) → drop (length plan) plan ≡ []
drop-all [] = refl
drop-all (t ∷ plan) = drop-all plan

pub made-none : (plan : List ℕ) (k : ℕ) (firsts nexts previous : List (Option ℕ)) →
    k ≡ length plan → firsts ≡ replicate (length plan) None →
    nexts ≡ replicate (length plan) None → previous ≡ replicate (length plan) None →
    AreMade plan k firsts nexts previous
made-none plan k firsts nexts previous all ef en ep = record {
  firsts_count = ap length ef ∙ length-replicate (length plan) None;
  nexts_count = ap length en ∙ length-replicate (length plan) None;
  previous_count = ap length ep ∙ length-replicate (length plan) None;
  chained = λ s l.
      rw (all, drop-all plan) (ap (λ table. look table s) ef ∙ look-none (length plan) s);
}

module _ (plan : List ℕ) (k : ℕ) (firsts nexts previous : List (Option ℕ)) (here : k < length plan)
    (low : All (λ s. s < length plan) plan)
    (made : AreMade plan (suc k) firsts nexts previous) where
  abbrev s : ℕ
  s = get_or plan k 0

  pub slab-low : s < length plan
  slab-low = All-get_or (λ s. s < length plan) plan k 0 here low

  one : (r q z : ℕ) → r < length plan → q < length plan →
      holds z (behind plan (suc k) r) ≡ true → holds z (behind plan (suc k) q) ≡ true → r ≡ q
  one r q z lr lq h i =
      let range = behind-in plan (suc k) r z (omega arith) h in
      eqb-true r (get_or plan z 0) (sym (behind-at plan (suc k) r z range.0 range.1) ∙ h)
      ∙ sym (eqb-true q (get_or plan z 0)
      (sym (behind-at plan (suc k) q z range.0 range.1) ∙ i))

  pub first-made : (z : ℕ) → look firsts s ≡ Some z → z < length plan
  first-made z e =
      (behind-in plan (suc k) s z (omega arith) (first-holds (behind plan (suc k) s) z
      (sym (chain-first nexts previous None (look firsts s) (behind plan (suc k) s)
      (made.chained s slab-low)) ∙ e))).1

  more : (r : ℕ) → behind plan k r
      ≡ cond (eqb r s) (k ∷ behind plan (suc k) s) (behind plan (suc k) r)
  more r = ap (places_where (eqb r) k) (drop-cons plan k 0 here) ∙ same (either (eqb r s))
    where
      same : (eqb r s ≡ true) ⊎ (eqb r s ≡ false) →
          cond (eqb r s) (k ∷ behind plan (suc k) r) (behind plan (suc k) r)
          ≡ cond (eqb r s) (k ∷ behind plan (suc k) s) (behind plan (suc k) r)
      same (inl e) = rw e (ap (λ q. k ∷ behind plan (suc k) q) (eqb-true r s e))
      same (inr f) = rw f refl

  pub made-more : (f n p : List (Option ℕ)) → f ≡ set firsts s (Some k) →
      n ≡ set nexts k (look firsts s) →
      p ≡ set (set_at (look firsts s) (Some k) previous) k None → AreMade plan k f n p
  made-more f n p ef en ep = record {
    firsts_count = ap length ef ∙ length-set firsts s (Some k) ∙ made.firsts_count;
    nexts_count = ap length en ∙ length-set nexts k (look firsts s) ∙ made.nexts_count;
    previous_count =
        ap length ep ∙ length-set (set_at (look firsts s) (Some k) previous) k None
        ∙ length-set_at (look firsts s) (Some k) previous ∙ made.previous_count;
    chained = λ r l. subst (λ xs. Chain n p None (look f r) xs) (sym (more r))
        (chains-with (length plan) firsts nexts previous (behind plan (suc k)) made.chained
        (λ r l. places-apart (eqb r) (suc k) (drop (suc k) plan)) one k s slab-low
        (λ r l. lacks (eqb r) (suc k) (drop (suc k) plan) k (omega arith)) f n p
        (λ r. ap (λ t. look t r) ef ∙ look-set firsts s (Some k) r
        (omega (arith, slab-low, made.firsts_count)))
        (λ z. ap (λ t. look t z) en ∙ look-set nexts k (look firsts s) z
        (omega (arith, here, made.nexts_count)))
        (λ z. ap (λ t. look t z) ep
        ∙ look-set (set_at (look firsts s) (Some k) previous) k None z
        (omega (
          arith,
          here,
          made.previous_count,
          length-set_at (look firsts s) (Some k) previous,
        ))
        ∙ ap (λ v. cond (eqb z k) None v) (look-set_at (look firsts s) (Some k) previous z
        (λ y e. let within = first-made y e in omega (arith, within, made.previous_count)))) r l);
  }

-- the chains of all orders make the lists of the plan
lists_of_plan-at : (plan : List ℕ) (s : ℕ) → s < length plan →
    list_at (lists_of_plan plan) s ≡ places_where (eqb s) 0 plan
lists_of_plan-at plan s l =
    get_or-map (λ s. places_where (eqb s) 0 plan) (below (length plan)) s 0 []
    (omega (arith, l, length-below (length plan)))
    ∙ ap (λ t. places_where (eqb t) 0 plan) (get_or-below (length plan) s l)

pub made-linked : (plan : List ℕ) (firsts nexts previous : List (Option ℕ)) →
    length plan ≤ MAX_ORDERS → All (λ s. s < length plan) plan →
    AreMade plan 0 firsts nexts previous →
    IsLinked firsts nexts previous plan (lists_of_plan plan)
made-linked plan firsts nexts previous few low made = record {
  few = omega (arith, few, made.nexts_count);
  firsts_count = made.firsts_count ∙ sym made.nexts_count;
  previous_count = made.previous_count ∙ sym made.nexts_count;
  slabs_count = sym made.nexts_count;
  lists_count =
      length-map (below (length plan)) (λ s. places_where (eqb s) 0 plan)
      ∙ length-below (length plan) ∙ sym made.nexts_count;
  slabs_below = subst (λ m. All (λ s. s < m) plan) (sym made.nexts_count) low;
  chained = λ s l. (let here : s < length plan = omega (arith, l, made.nexts_count) in
      subst (λ xs. Chain nexts previous None (look firsts s) xs)
      (sym (lists_of_plan-at plan s here)) (made.chained s here));
  apart = λ s l. (let here : s < length plan = omega (arith, l, made.nexts_count) in
      subst (λ xs. Apart xs) (sym (lists_of_plan-at plan s here)) (places-apart (eqb s) 0 plan));
  orders = λ s o l h. (let here : s < length plan = omega (arith, l, made.nexts_count) in
      let range = places-high (eqb s) 0 plan o
      (subst (λ xs. holds o xs ≡ true) (lists_of_plan-at plan s here) h) in
      omega (arith, range, made.nexts_count));
  slab_is = λ s o l k. (let here : s < length plan = omega (arith, l, made.nexts_count) in
      ap (holds o) (lists_of_plan-at plan s here)
      ∙ places-at (eqb s) 0 plan o o (omega (arith, k, made.nexts_count)) (omega arith));
}
