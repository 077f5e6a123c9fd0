-- The lightest orders from a rank on, and whether a group may take an order. Weights fall in rank,
-- so the last order of a colour is its lightest. A group with as many colours as may be takes only
-- orders of its own colours, and of each the lightest or none; a group with fewer takes the
-- lightest order of all or none. So a few tests say whether a group is live, however many orders
-- come.
use Rattle.std.proofs.Common.{ℕ, zero, suc, ◌+◌, ◌-◌, ◌<◌, ◌≤◌, ◌≡◌, Bool, true, false, cond, ◌&&◌}
use Rattle.std.proofs.Common.{◌||◌, List, [], ◌∷◌, ◌++◌, length, drop, get_or, eqb, ltb, leb, refl}
use Rattle.std.proofs.Common.{sym, ap, ◌∙◌, subst, arith, inl, inr, eqb-true, eq-eqb, ltb-true}
use Rattle.std.proofs.Common.{lt-ltb, le-ltb, leb-true, le-leb, length-append}
use Rattle.std.specs.List.{list_any}
use Rattle.std.proofs.lemmas.Bool.{cases_lt}
use Rattle.std.proofs.lemmas.List.{drop_all, drop_more, get_or-drop, get_or_default, get_or_past}
use Rattle.std.proofs.lemmas.List.{length-drop}
use Rattle.std.proofs.lemmas.List.Folds.{list_any_at, list_any_none}
use Rattle.list_laws.specs.Sets.{holds}
use Rattle.mill_model.specs.Slab.{Mill}
use Rattle.mill_model.specs.LiveKey.{has_colour}
use Rattle.mill_model.specs.declared.order.Order.{Order}
use Rattle.list_laws.proofs.Tests.{either, or-right, or-cases, and-left, and-right, clash}
use Rattle.list_laws.proofs.Among.{Among, any-among, any-from}
use Rattle.log_checker.specs.Groups.{Seen, joined, may_be, no_order, with_colour}
use Rattle.log_checker.specs.Setting.{AreEnds}
use Rattle.log_checker.specs.Live.{IsLightest, AreNone, lives, takes_of}

abbrev Falls : List Order → Type 0
Falls ranked =
    (i j : ℕ) (d : Order) → i ≤ j → j < length ranked →
    (get_or ranked j d).weight ≤ (get_or ranked i d).weight

-- in rank the last order that passes a test is the lightest
pub last-lightest : (test : Order → Bool) (ranked : List Order) (k at : ℕ) (order : Order) →
    Falls ranked → k ≤ at → at < length ranked → order ≡ get_or ranked at no_order →
    test order ≡ true →
    ((i : ℕ) → i < length ranked → test (get_or ranked i no_order) ≡ true → i ≤ at) →
    IsLightest test (drop k ranked) order
last-lightest test ranked k at order falls h b e t last =
    let long : length (drop k ranked) ≡ length ranked - k = length-drop k ranked in
    record {
      passes = t;
      there = (
        at - k,
        omega arith,
        get_or-drop k ranked (at - k) order ∙ ap (λ i. get_or ranked i order) back
            ∙ get_or_default ranked at order no_order b ∙ sym e,
      );
      least = λ i d l p. (let n : k + i < length ranked = omega arith in
          let o : get_or (drop k ranked) i d ≡ get_or ranked (k + i) no_order =
          get_or-drop k ranked i d ∙ get_or_default ranked (k + i) d no_order n in
          let w = falls (k + i) at no_order (last (k + i) n (subst (λ x. test x ≡ true) o p)) b in
          subst (λ (x : Order). order.weight ≤ x.weight) (sym o)
          (subst (λ (x : Order). x.weight ≤ (get_or ranked (k + i) no_order).weight) (sym e) w));
    }
  where
    back : k + (at - k) ≡ at
    back = omega arith

pub none-has : (orders : List Order) (c : ℕ) → has_colour orders c ≡ false →
    AreNone (λ o. eqb c o.colour) orders
none-has orders c e i d h = elim (either (eqb c (get_or orders i d).colour)) [
  | inr q ↦ q
  | inl q ↦ absurd (clash (has_colour orders c) (has-at orders i h q) e)
]
  where
    has-at : (orders : List Order) (i : ℕ) → i < length orders →
        eqb c (get_or orders i d).colour ≡ true → has_colour orders c ≡ true
    has-at [] i h q = absurd (omega arith)
    has-at (o ∷ orders) zero h q = rw q refl
    has-at (o ∷ orders) (suc i) h q =
        or-right (eqb c o.colour) (has_colour orders c) (has-at orders i (omega arith) q)

module _ (ranked : List Order) (c n : ℕ)
    (ends : (k : ℕ) → has_colour (drop k ranked) c ≡ ltb k n) where
  -- one more than the last rank of a colour
  end-inside : n ≤ length ranked
  end-inside =
      let d : drop (length ranked) ranked ≡ [] = drop_all (length ranked) ranked (omega arith) in
      elim (cases_lt (length ranked) n) [
        | inl l ↦ absurd (clash (ltb (length ranked) n) (lt-ltb (length ranked) n l)
            (sym (rw d at (ends (length ranked)))))
        | inr l ↦ l
      ]

  end-last : (i : ℕ) → i < length ranked → eqb c (get_or ranked i no_order).colour ≡ true →
      i < n
  end-last i l e =
      let d : drop i ranked ≡ get_or ranked i no_order ∷ drop (i + 1) ranked =
      drop_more ranked i no_order l in
      ltb-true i n (sym (rw (d, e) at (ends i)))

  end-has : 0 < n → eqb c (get_or ranked (n - 1) no_order).colour ≡ true
  end-has h =
      let i = end-inside in
      let d : drop (n - 1) ranked ≡ get_or ranked (n - 1) no_order ∷ drop (n - 1 + 1) ranked =
      drop_more ranked (n - 1) no_order (omega arith) in
      let m : n - 1 + 1 ≡ n = omega arith in
      let a = rw (d, m) at (ends (n - 1)) in
      held (eqb c (get_or ranked (n - 1) no_order).colour) (has_colour (drop n ranked) c)
      (a ∙ lt-ltb (n - 1) n (omega arith)) (ends n ∙ le-ltb n n (omega arith))
    where
      held : (a b : Bool) → (a || b) ≡ true → b ≡ false → a ≡ true
      held true b x y = refl
      held false b x y = cc

module _ (ranked : List Order) (last : List ℕ) (ends : AreEnds ranked last) (c k n : ℕ)
    (comes : true ≡ has_colour (drop k ranked) c) (at : n ≡ get_or last c n) where
  -- one more than the last rank of a colour that comes
  pub last-of : (k < n) × (n ≤ length ranked) × (n ≡ get_or last c 0)
  last-of =
      let l : k < get_or last c 0 = ltb-true k (get_or last c 0) (sym (comes ∙ ends c k)) in
      let e : n ≡ get_or last c 0 = elim (cases_lt c (length last)) [
        | inl b ↦ at ∙ get_or_default last c n 0 b
        | inr b ↦ (let z : get_or last c 0 ≡ 0 = get_or_past last c 0 b in absurd (omega arith))
      ] in
      let i = end-inside ranked c (get_or last c 0) (ends c) in
      (omega arith, omega (arith, e, i), e)

  pub colour-lightest : (order : Order) → Falls ranked → order ≡ get_or ranked (n - 1) no_order →
      IsLightest (λ o. eqb c o.colour) (drop k ranked) order
  colour-lightest order falls is =
      let l = last-of in
      let same : (i : ℕ) → has_colour (drop i ranked) c ≡ ltb i n =
      λ i. ends c i ∙ ap (ltb i) (sym l.2) in
      let has = end-has ranked c n same (omega (arith, l.0)) in
      last-lightest (λ o. eqb c o.colour) ranked k (n - 1) order falls (omega (arith, l.0))
      (omega (arith, l.0, l.1)) is
      (subst (λ (o : Order). eqb c o.colour ≡ true) (sym is) has)
      (λ i h e. (let b = end-last ranked c n same i h e in omega (arith, b)))

-- of orders that bring a group to few enough colours, if at all, it may take the lightest or none
pub takes-lightest : (mill : Mill) (seen : Seen) (test : Order → Bool) (orders : List Order)
    (order : Order) → IsLightest test orders order →
    ((o : Order) → test o ≡ true → length (with_colour o.colour seen.colours) ≤ mill.most_colours →
    length (with_colour order.colour seen.colours) ≤ mill.most_colours) →
    list_any (λ o. test o && may_be mill (joined seen o)) orders ≡ may_be mill (joined seen order)
takes-lightest mill seen test orders order it few =
    go (may_be mill (joined seen order)) refl
  where
    may : Order → Bool
    may o = test o && may_be mill (joined seen o)

    none : may_be mill (joined seen order) ≡ false → (o : Order) →
        (test o ≡ true → order.weight ≤ o.weight) → may o ≡ false
    none e o w = elim (either (may o)) [
      | inr q ↦ q
      | inl q ↦ (let t : test o ≡ true = and-left (test o) (may_be mill (joined seen o)) q in
          let m = and-right (test o) (may_be mill (joined seen o)) q in
          let l : seen.load + o.weight ≤ mill.largest = leb-true _ _ (and-left _ _ m) in
          let n : length (with_colour o.colour seen.colours) ≤ mill.most_colours =
          leb-true _ _ (and-right (leb (seen.load + o.weight) mill.largest) _ m) in
          let a : leb (seen.load + order.weight) mill.largest ≡ true =
          le-leb (seen.load + order.weight) mill.largest (omega (arith, w t)) in
          let b : leb (length (with_colour order.colour seen.colours)) mill.most_colours ≡ true =
          le-leb (length (with_colour order.colour seen.colours)) mill.most_colours (few o t n) in
          absurd (clash (may_be mill (joined seen order)) (rw (a, b) refl) e))
    ]

    go : (b : Bool) → may_be mill (joined seen order) ≡ b → list_any may orders ≡ b
    go true e =
        list_any_at may orders it.there.0 order it.there.1
        (subst (λ o. may o ≡ true) (sym it.there.2) (rw (it.passes, e) refl))
    go false e = list_any_none may orders (λ i d h. none e (get_or orders i d) (it.least i d h))

holds-among : (x : ℕ) (xs : List ℕ) → holds x xs ≡ true → Among x xs
holds-among x [] h = absurd (grind arith)
holds-among x (y ∷ ys) h = elim (or-cases (eqb x y) (holds x ys) h) [
  | inl e ↦ inl (eqb-true x y e)
  | inr e ↦ inr (holds-among x ys e)
]

-- a group with as many colours as may be takes orders of its own colours alone
pub takes-own : (mill : Mill) (rest : List Order) (seen : Seen) →
    mill.most_colours ≤ length seen.colours →
    lives mill rest seen ≡ list_any (takes_of mill rest seen) seen.colours
takes-own mill rest seen full =
    go (list_any (takes_of mill rest seen) seen.colours) refl
  where
    may : Order → Bool
    may o = may_be mill (joined seen o)

    own : (o : Order) → may o ≡ true → holds o.colour seen.colours ≡ true
    own o m = elim (either (holds o.colour seen.colours)) [
      | inl h ↦ h
      | inr h ↦ (let n : length (with_colour o.colour seen.colours) ≤ mill.most_colours =
          leb-true _ _ (and-right (leb (seen.load + o.weight) mill.largest) _ m) in
          let l : length (seen.colours ++ o.colour ∷ []) ≡ length seen.colours + 1 =
          length-append seen.colours (o.colour ∷ []) in
          let k : length (seen.colours ++ o.colour ∷ []) ≤ mill.most_colours = rw h at n in
          absurd (omega arith))
    ]

    go : (b : Bool) → list_any (takes_of mill rest seen) seen.colours ≡ b →
        lives mill rest seen ≡ b
    go true e =
        let c = any-from (takes_of mill rest seen) seen.colours e in
        let o = any-from (λ o. eqb c.0 o.colour && may o) rest c.2 in
        any-among may o.0 rest (and-right (eqb c.0 o.0.colour) (may o.0) o.2) o.1
    go false e = elim (either (lives mill rest seen)) [
      | inr h ↦ h
      | inl h ↦ (let o = any-from may rest h in
          let q : eqb o.0.colour o.0.colour ≡ true = eq-eqb o.0.colour o.0.colour refl in
          let t : takes_of mill rest seen o.0.colour ≡ true =
          any-among (λ x. eqb o.0.colour x.colour && may x) o.0 rest (rw (q, o.2) refl) o.1 in
          absurd (clash (list_any (takes_of mill rest seen) seen.colours)
          (any-among (takes_of mill rest seen) o.0.colour seen.colours t
          (holds-among o.0.colour seen.colours (own o.0 o.2))) e))
    ]

-- a group with fewer takes any order that is light enough
pub takes-any : (mill : Mill) (rest : List Order) (seen : Seen) (order : Order) →
    length seen.colours < mill.most_colours → IsLightest (λ o. true) rest order →
    lives mill rest seen ≡ may_be mill (joined seen order)
takes-any mill rest seen order free it =
    takes-lightest mill seen (λ o. true) rest order it (λ o t n. fewer (holds order.colour
    seen.colours))
  where
    fewer : (b : Bool) → length (cond b seen.colours (seen.colours ++ order.colour ∷ []))
        ≤ mill.most_colours
    fewer true = omega arith
    fewer false =
        let l : length (seen.colours ++ order.colour ∷ []) ≡ length seen.colours + 1 =
        length-append seen.colours (order.colour ∷ []) in
        omega arith

pub takes-colour : (mill : Mill) (rest : List Order) (seen : Seen) (c : ℕ) (order : Order) →
    IsLightest (λ o. eqb c o.colour) rest order →
    takes_of mill rest seen c ≡ may_be mill (joined seen order)
takes-colour mill rest seen c order it =
    takes-lightest mill seen (λ o. eqb c o.colour) rest order it (λ o t n.
    subst (λ d. length (with_colour d seen.colours) ≤ mill.most_colours)
    (sym (eqb-true c o.colour t) ∙ eqb-true c order.colour it.passes) n)

pub takes-none : (mill : Mill) (rest : List Order) (seen : Seen) (test : Order → Bool) →
    AreNone test rest → false ≡ list_any (λ o. test o && may_be mill (joined seen o)) rest
takes-none mill rest seen test none =
    sym (list_any_none (λ o. test o && may_be mill (joined seen o)) rest (λ i d h. fails
    (get_or rest i d) (none i d h)))
  where
    fails : (o : Order) → test o ≡ false → (test o && may_be mill (joined seen o)) ≡ false
    fails o e = rw e refl
