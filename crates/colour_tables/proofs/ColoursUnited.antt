-- Sets with at most one colour: those of one colour more, and those of no load.
use Rattle.std.proofs.Common.{ℕ, suc, ◌+◌, ◌<◌, ◌≤◌, ◌≡◌, Bool, true, false, List, [], ◌∷◌}
use Rattle.std.proofs.Common.{map, length, get_or, ℤ, pos, Option, Some, eqb, eqb-true, eq-eqb}
use Rattle.std.proofs.Common.{refl, sym, ap, ◌∙◌, subst, arith, inl, inr, ne_eqb, not, set, ◌-◌}
use Rattle.list_laws.specs.Sets.{chosen, int_sum, holds, different}
use Rattle.mill_model.specs.Slab.{load}
use Rattle.mill_model.specs.Bounds.{in_set}
use Rattle.mill_model.specs.declared.order.Order.{Order}
use Rattle.list_laws.proofs.Tests.{either, or-cases, or-left, or-right}
use Rattle.list_laws.proofs.Different.{different-mono}
use Rattle.set_minima.specs.Packs.{nobody, colour_at, colours_in, Packs, IsBest, better}
use Rattle.set_minima.specs.Joins.{AreOrders}
use Rattle.set_minima.proofs.Places.{in-set-below, place-colour, load-place}
use Rattle.set_minima.proofs.Places.{marked}
use Rattle.list_laws.proofs.Tests.{clash}
use Rattle.set_minima.proofs.Tops.{top-same, top-union}
use Rattle.set_minima.proofs.OneOrder.{few-less}
use Rattle.set_minima.proofs.OneColour.{table-none, table-empty, layer-spread}
use Rattle.list_laws.proofs.Tests.{and-left, and-right}
use Rattle.colour_tables.specs.Colours.{IsUnion, of_colour, of_colours}
use Rattle.set_minima.specs.Cells.{found}
use Rattle.colour_tables.specs.Threes.{three, once}
use Rattle.set_minima.proofs.CellNumbers.{found-max}

pub inside : (rest : List Order) (B : ℕ → Bool) (own : List ℕ) (k l i : ℕ) (marks : List Bool) →
    Packs B own k rest l marks → in_set i marks ≡ true → i < length rest
inside rest B own k l i marks p e =
    let b : i < length marks = in-set-below i marks e in
    let n : length marks ≡ length rest = p.long in
    omega arith

-- two colours of a list are one where it has at most one
one-alike : (x c : ℕ) (cs : List ℕ) → different cs ≤ 1 → holds x cs ≡ true → holds c cs ≡ true →
    x ≡ c
one-alike x c cs h a b = elim (either (eqb x c)) [
  | inl e ↦ eqb-true x c e
  | inr n ↦ (let d : different (x ∷ c ∷ []) ≤ different cs =
      different-mono (x ∷ c ∷ []) cs (λ y q. elim (or-cases (eqb y x) _ q) [
        | inl e ↦ subst (λ z. holds z cs ≡ true) (sym (eqb-true y x e)) a
        | inr r ↦ elim (or-cases (eqb y c) false r) [
          | inl e ↦ subst (λ z. holds z cs ≡ true) (sym (eqb-true y c e)) b
          | inr f ↦ absurd (clash false f refl)
        ]
      ]) in
      let t : different (x ∷ c ∷ []) ≡ 2 = rw n refl in
      absurd (omega arith))
]

-- the sets of some colours and those of another
module _ (rest : List Order) (A B C : ℕ → Bool) (c : ℕ) (u : IsUnion rest A B C c) where
  has-colour : (l : ℕ) (m : List Bool) → Packs C [] 1 rest l m →
      holds c (colours_in m rest) ≡ true → Packs B (c ∷ []) 1 rest l m
  has-colour l m p h = record {
    long = p.long;
    weighs = p.weighs;
    fine = λ i e.
        let b : i < length rest = inside rest C [] 1 l i m p e in
        let s : colour_at rest i ≡ c =
        one-alike (colour_at rest i) c (colours_in m rest) p.few (place-colour i m rest e b) h in
        elim (u.only i b (p.fine i e)) [
          | inl a ↦ absurd (clash (eqb (colour_at rest i) c) (eq-eqb (colour_at rest i) c s) (u.new
              i b a))
          | inr a ↦ a
        ];
    few = rw h p.few;
  }

  lacks-colour : (l : ℕ) (m : List Bool) → Packs C [] 1 rest l m →
      holds c (colours_in m rest) ≡ false → Packs A [] 1 rest l m
  lacks-colour l m p h = record {
    long = p.long;
    weighs = p.weighs;
    fine = λ i e.
        let b : i < length rest = inside rest C [] 1 l i m p e in
        elim (u.only i b (p.fine i e)) [
          | inl a ↦ a
          | inr a ↦ (let s : colour_at rest i ≡ c = eqb-true (colour_at rest i) c (u.one i b a) in
              absurd (clash (holds c (colours_in m rest))
              (subst (λ z. holds z (colours_in m rest) ≡ true) s (place-colour i m rest e b)) h))
        ];
    few = p.few;
  }

  from-old : (l : ℕ) (m : List Bool) → Packs A [] 1 rest l m → Packs C [] 1 rest l m
  from-old l m p = record {
    long = p.long;
    weighs = p.weighs;
    fine = λ i e. u.kept i (inside rest A [] 1 l i m p e) (p.fine i e);
    few = p.few;
  }

  from-new : (l : ℕ) (m : List Bool) → Packs B (c ∷ []) 1 rest l m → Packs C [] 1 rest l m
  from-new l m p = record {
    long = p.long;
    weighs = p.weighs;
    fine = λ i e. u.more i (inside rest B (c ∷ []) 1 l i m p e) (p.fine i e);
    few = few-less rest [] (c ∷ []) m m 1 (λ x t. or-right (eqb x c) _ t) p.few;
  }

  pub best-union : (prices : List ℤ) (l : ℕ) (a b : Option ℤ) → IsBest A [] 1 rest prices l a →
      IsBest B (c ∷ []) 1 rest prices l b → IsBest C [] 1 rest prices l (better a b)
  best-union prices l a b h k =
      top-union (Packs A [] 1 rest l) (Packs B (c ∷ []) 1 rest l) (Packs C [] 1 rest l)
      (λ m. int_sum (chosen m prices)) a b
      (λ m p. elim (either (holds c (colours_in m rest))) [
        | inl t ↦ inr (has-colour l m p t)
        | inr f ↦ inl (lacks-colour l m p f)
      ])
      (λ m p. from-old l m p) (λ m p. from-new l m p) h k

-- a set of no load holds nothing
light-empty : (i : ℕ) (m : List Bool) (rest : List Order) → AreOrders rest → i < length rest →
    in_set i m ≡ true → 0 < load (chosen m rest)
light-empty i m rest w b e =
    let s : i < length m = in-set-below i m e in
    let o : 0 < (get_or rest i nobody).weight = w i b in
    let q : load (chosen m rest) ≡ (get_or rest i nobody).weight + load (chosen (set m i false)
    rest) =
    ap (λ z. load (chosen z rest)) (sym (marked i m e)) ∙ load-place i m rest s b in
    omega arith

pub load-zero : (rest : List Order) → AreOrders rest → (A : ℕ → Bool) (own : List ℕ) (k : ℕ)
    (prices : List ℤ) → different own ≤ k → IsBest A own k rest prices 0 (Some (pos 0))
load-zero rest w A own k prices h =
    top-same (Packs (λ i. false) own k rest 0) (Packs A own k rest 0) (λ m. int_sum (chosen m
    prices))
    (Some (pos 0))
    (λ m p. record {
      long = p.long;
      weighs = p.weighs;
      fine = λ i e. absurd (clash false (p.fine i e) refl);
      few = p.few;
    })
    (λ m p. record {
      long = p.long;
      weighs = p.weighs;
      fine = λ i e.
          let b : i < length rest = inside rest A own k 0 i m p e in
          let z : 0 < load (chosen m rest) = light-empty i m rest w b e in
          let y : load (chosen m rest) ≡ 0 = p.weighs in
          absurd (omega arith);
      few = p.few;
    }) (spread (k - different own) (omega arith))
  where
    spread : (more : ℕ) → different own + more ≡ k →
        IsBest (λ i. false) own k rest prices 0 (Some (pos 0))
    spread more e = subst (λ z. IsBest (λ i. false) own z rest prices 0 (Some (pos 0))) e
        (layer-spread rest (λ i. false) own prices (different own) more 0 (Some (pos 0)) refl
        (λ i q. absurd (clash false q refl))
        (table-empty rest (λ i. false) own prices (λ i. refl) (different own) refl))

-- all sets with at most one of some colours, from those of each
pub best-of-colours : (rest : List Order) → AreOrders rest → (prices : List ℤ) (l : ℕ)
    (name : ℕ → ℕ) (f : ℕ → ℤ) (cs : List ℕ) → once (map name cs) ≡ true →
    ((c : ℕ) → holds c cs ≡ true →
    IsBest (of_colour rest (name c)) (name c ∷ []) 1 rest prices (suc l) (found (f c))) →
    IsBest (of_colours rest (map name cs)) [] 1 rest prices (suc l) (found (three f cs).best)
best-of-colours rest w prices l name f [] o h =
    table-none rest (of_colours rest []) [] prices (λ i. refl) 1 l
best-of-colours rest w prices l name f (c ∷ cs) o h =
    subst (λ z. IsBest (of_colours rest (map name (c ∷ cs))) [] 1 rest prices (suc l) z)
    (sym (found-max (three f cs).best (f c)))
    (best-union rest (of_colours rest (map name cs)) (of_colour rest (name c))
    (of_colours rest (map name (c ∷ cs))) (name c)
    (record {
      new = λ i b a. ne_eqb (colour_at rest i) (name c) (λ q. clash (holds (name c) (map name cs))
          (subst (λ z. holds z (map name cs) ≡ true) q a) n);
      one = λ i b a. a;
      kept = λ i b a. or-right (eqb (colour_at rest i) (name c)) _ a;
      more = λ i b a. or-left (eqb (colour_at rest i) (name c)) _ a;
      only = λ i b a. elim (or-cases (eqb (colour_at rest i) (name c))
          (holds (colour_at rest i) (map name cs)) a) [
            | inl e ↦ inr e
            | inr e ↦ inl e
          ];
    }) prices (suc l) (found (three f cs).best) (found (f c))
    (best-of-colours rest w prices l name f cs
    (and-right (not (holds (name c) (map name cs))) (once (map name cs)) o) (λ d k.
    h d (or-right (eqb d c) _ k)))
    (h c (or-left (eqb c c) _ (eq-eqb c c refl))))
  where
    not-true : (b : Bool) → not b ≡ true → b ≡ false
    not-true true h = sym h
    not-true false h = refl

    n : holds (name c) (map name cs) ≡ false
    n = not-true (holds (name c) (map name cs))
        (and-left (not (holds (name c) (map name cs))) (once (map name cs)) o)
