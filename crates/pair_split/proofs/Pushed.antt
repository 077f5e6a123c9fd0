-- What one more order leads to from a row.
use Rattle.std.proofs.Common.{ℕ, ◌+◌, ◌-◌, ◌*◌, ◌<◌, ◌≤◌, ◌≡◌, ◌⊎◌, Bool, true, false, cond, List}
use Rattle.std.proofs.Common.{max, refl, sym, ap, ◌∙◌, arith, inl, inr, subst}
use Rattle.std.proofs.lemmas.Bool.{cases_eq, cases_lt}
use Rattle.std.proofs.lemmas.Nat.{row_fits}
use Rattle.mill_model.specs.Slab.{Mill}
use Rattle.list_laws.proofs.Tests.{last-or-below, either}
use Rattle.pair_split.specs.States.{IsWithin, loaded, row, with_first, with_order, with_second}
use Rattle.pair_split.specs.Tables.{Comes, Marked, Pushes, Spreads, row_bit}
use Rattle.pair_split.specs.declared.state.State.{State}
use Rattle.pair_split.proofs.Front.{row-apart, same}

pub row_bit-lt : (words : ℕ) (table : List ℕ) (r l : ℕ) → row_bit words table r l < 2
unfolding row_bit
row_bit-lt words table r l = omega arith

-- a row lies in the table
pub row-inside : (s : State) (p words : ℕ) → s.first ≤ p → s.second ≤ p → p ≤ 8 →
    row s * words + words ≤ 36 * (p + 1) * words
row-inside s p words a b h =
    row_fits (row s) words (36 * (p + 1)) words
    (go s.first s.second s.on_first s.on_second p a b h) (omega arith)
  where
    go : (f s : ℕ) (x y : Bool) (p : ℕ) → f ≤ p → s ≤ p → p ≤ 8 →
        f * 36 + s * 4 + cond x 2 0 + cond y 1 0 < 36 * (p + 1)
    go f s true true p a b h = omega arith
    go f s true false p a b h = omega arith
    go f s false true p a b h = omega arith
    go f s false false p a b h = omega arith

module _ (largest p words : ℕ) (few : p ≤ 8) (wide : largest < 64 * words) (old tab new : List ℕ)
    (b a : State) (af : a.first ≤ p) (ag : a.second ≤ p)
    (shifted : (l : ℕ) → a.load ≤ l → l < 64 * words →
    row_bit words new (row a) l
    ≡ max (row_bit words tab (row a) l) (row_bit words old (row b) (l - a.load)))
    (low : (l : ℕ) → l < a.load → l < 64 * words →
    row_bit words new (row a) l ≡ row_bit words tab (row a) l)
    (others : (r l : ℕ) → (r ≡ row a → ⊥) → l < 64 * words →
    row_bit words new r l ≡ row_bit words tab r l) where
  push-kept : (s : State) → IsWithin (record { largest = largest; most_colours = p }) s →
      Marked words tab s → Marked words new s
  push-kept s h m =
      let light : s.load ≤ largest = h.light in
      elim (cases_eq (row s) (row a)) [
        | inr d ↦ others (row s) s.load d (omega arith) ∙ m
        | inl e ↦ (let x = ap (λ r. row_bit words new r s.load) e in
            let y = ap (λ r. row_bit words tab r s.load) e in
            elim (cases_lt s.load a.load) [
              | inl l ↦ x ∙ low s.load l (omega arith) ∙ sym y ∙ m
              | inr g ↦ (let z = shifted s.load g (omega arith) in
                  let q = row_bit-lt words old (row b) (s.load - a.load) in
                  let n : row_bit words tab (row a) s.load ≡ 1 = sym y ∙ m in
                  x ∙ omega (arith, z, q, n))
            ])
      ]

  push-here : (l : ℕ) →
      IsWithin (record { largest = largest; most_colours = p }) (loaded a (a.load + l)) →
      Marked words old (loaded b l) → Marked words new (loaded a (a.load + l))
  push-here l h m =
      let light : a.load + l ≤ largest = h.light in
      let z = shifted (a.load + l) (omega arith) (omega arith) in
      let e : a.load + l - a.load ≡ l = omega arith in
      let q = row_bit-lt words tab (row a) (a.load + l) in
      let n : row_bit words old (row b) (a.load + l - a.load) ≡ 1 =
      ap (row_bit words old (row b)) e ∙ m in
      omega (arith, z, q, n)

  push-only : (t : State) → IsWithin (record { largest = largest; most_colours = p }) t →
      Marked words new t →
      Marked words tab t
      ⊎ ((a.load ≤ t.load) × Marked words old (loaded b (t.load - a.load)) × (t ≡ loaded a t.load))
  push-only t h m =
      let light : t.load ≤ largest = h.light in
      let tf : t.first ≤ p = h.few in
      let ts : t.second ≤ p = h.few_others in
      elim (cases_eq (row t) (row a)) [
        | inr d ↦ inl (sym (others (row t) t.load d (omega arith)) ∙ m)
        | inl e ↦ (let x = ap (λ r. row_bit words new r t.load) e in
            let y = ap (λ r. row_bit words tab r t.load) e in
            elim (cases_lt t.load a.load) [
              | inl l ↦ inl (y ∙ sym (low t.load l (omega arith)) ∙ sym x ∙ m)
              | inr g ↦ (let z = shifted t.load g (omega arith) in
                  let n : row_bit words new (row a) t.load ≡ 1 = sym x ∙ m in
                  elim (cases_eq (row_bit words tab (row a) t.load) 1) [
                    | inl k ↦ inl (y ∙ k)
                    | inr k ↦ (let q = row_bit-lt words tab (row a) t.load in
                        inr (
                          g,
                          omega (arith, z, n, q, k),
                          row-apart t a (omega arith) (omega arith) (omega arith) (omega arith) e,
                        ))
                  ])
            ])
      ]

  pub pushed : Pushes (record { largest = largest; most_colours = p }) words old tab new b a
  pushed = record { kept = push-kept; here = push-here; only = push-only }

-- the same, of rows by other names
pub pushed-at : (largest p words : ℕ) → p ≤ 8 → largest < 64 * words →
    (old tab new : List ℕ) (b a : State) → a.first ≤ p → a.second ≤ p → (to from : ℕ) →
    to ≡ row a → from ≡ row b →
    ((l : ℕ) → a.load ≤ l → l < 64 * words →
    row_bit words new to l ≡ max (row_bit words tab to l) (row_bit words old from (l - a.load))) →
    ((l : ℕ) → l < a.load → l < 64 * words → row_bit words new to l ≡ row_bit words tab to l) →
    ((r l : ℕ) → (r ≡ to → ⊥) → l < 64 * words → row_bit words new r l ≡ row_bit words tab r l) →
    Pushes (record { largest = largest; most_colours = p }) words old tab new b a
pushed-at largest p words few wide old tab new b a af ag to from te fe s l o =
    let Shifted : ℕ → ℕ → Type 0 = λ to from. (l : ℕ) → a.load ≤ l → l < 64 * words →
    row_bit words new to l ≡ max (row_bit words tab to l) (row_bit words old from (l - a.load)) in
    let Low : ℕ → Type 0 = λ to. (l : ℕ) → l < a.load → l < 64 * words →
    row_bit words new to l ≡ row_bit words tab to l in
    let Others : ℕ → Type 0 = λ to. (r l : ℕ) → (r ≡ to → ⊥) → l < 64 * words →
    row_bit words new r l ≡ row_bit words tab r l in
    pushed largest p words few wide old tab new b a af ag
    (subst (λ from. Shifted (row a) from) fe (subst (λ to. Shifted to from) te s))
    (subst Low te l) (subst Others te o)

pub row-inside-at : (s : State) (p words r n : ℕ) → s.first ≤ p → s.second ≤ p → p ≤ 8 →
    r ≡ row s → n ≡ 36 * (p + 1) * words → r * words + words ≤ n
row-inside-at s p words r n a b h e f =
    let g = subst (λ r. r * words + words ≤ 36 * (p + 1) * words) (sym e)
    (row-inside s p words a b h) in
    subst (λ n. r * words + words ≤ n) (sym f) g

-- nothing is pushed where there are too many colours
pub unpushed : (largest p words : ℕ) (old tab : List ℕ) (b a : State) →
    ((a.first ≤ p) × (a.second ≤ p) → ⊥) →
    Pushes (record { largest = largest; most_colours = p }) words old tab tab b a
unpushed largest p words old tab b a many = record {
  kept = λ s h m. m;
  here = λ l h m. absurd (many (h.few, h.few_others));
  only = λ t h m. inl m;
}

module _ (largest p words weight : ℕ) (same-colour : Bool) (old tab mid new : List ℕ)
    (layer : State) (none : layer.load ≡ 0) (lf : layer.first ≤ p) (ls : layer.second ≤ p)
    (one : Pushes (record { largest = largest; most_colours = p }) words old tab mid layer
    (with_first weight same-colour layer))
    (two : Pushes (record { largest = largest; most_colours = p }) words old mid new layer
    (with_second same-colour layer)) where
  spread-here : (l : ℕ) →
      IsWithin (record { largest = largest; most_colours = p }) (loaded layer l) →
      Marked words old (loaded layer l) → (mark : Bool) →
      IsWithin (record { largest = largest; most_colours = p })
      (with_order mark weight same-colour (loaded layer l)) →
      Marked words new (with_order mark weight same-colour (loaded layer l))
  spread-here l h m true w =
      let e : with_first weight same-colour (loaded layer l)
      ≡ loaded (with_first weight same-colour layer) (layer.load + weight + l) =
      same _ _ (omega arith) refl refl refl refl in
      let w2 : IsWithin (record { largest = largest; most_colours = p })
      (loaded (with_first weight same-colour layer) (layer.load + weight + l)) =
      subst (IsWithin (record { largest = largest; most_colours = p })) e w in
      let k : Marked words mid
      (loaded (with_first weight same-colour layer) (layer.load + weight + l)) =
      one.here l w2 m in
      subst (Marked words new) (sym e) (two.kept _ w2 k)
  spread-here l h m false w =
      let e : with_second same-colour (loaded layer l)
      ≡ loaded (with_second same-colour layer) (layer.load + l) =
      same _ _ (omega arith) refl refl refl refl in
      let w2 : IsWithin (record { largest = largest; most_colours = p })
      (loaded (with_second same-colour layer) (layer.load + l)) =
      subst (IsWithin (record { largest = largest; most_colours = p })) e w in
      let k : Marked words new (loaded (with_second same-colour layer) (layer.load + l)) =
      two.here l w2 m in
      subst (Marked words new) (sym e) k

  spread-only : (t : State) → IsWithin (record { largest = largest; most_colours = p }) t →
      Marked words new t →
      Marked words tab t
      ⊎ Comes (record { largest = largest; most_colours = p }) words weight same-colour old t
  spread-only t h m =
      let light : t.load ≤ largest = h.light in
      elim (two.only t h m) [
        | inr y ↦ inr (record {
          mark = false;
          state = loaded layer (t.load - layer.load);
          within = record { light = omega arith; few = lf; few_others = ls };
          marked = y.1;
          to = same _ _ (omega arith) refl refl refl refl ∙ sym y.2;
        })
        | inl k ↦ elim (one.only t h k) [
          | inl z ↦ inl z
          | inr y ↦ (let g : layer.load + weight ≤ t.load = y.0 in
              inr (record {
                mark = true;
                state = loaded layer (t.load - (layer.load + weight));
                within = record { light = omega arith; few = lf; few_others = ls };
                marked = y.1;
                to = same _ _ (omega (arith, none, g)) refl refl refl refl ∙ sym y.2;
              }))
        ]
      ]

  pub spread-layer : Spreads (record { largest = largest; most_colours = p }) words weight
      same-colour old tab new (λ s. s ≡ loaded layer s.load)
  spread-layer = record {
    kept = λ s h m. two.kept s h (one.kept s h m);
    here = λ s e h m mark w. subst (λ x. Marked words new (with_order mark weight same-colour x))
        (sym e)
        (spread-here s.load (subst (IsWithin (record { largest = largest; most_colours = p })) e h)
        (subst (Marked words old) e m) mark
        (subst (λ x. IsWithin (record { largest = largest; most_colours = p })
        (with_order mark weight same-colour x)) e w));
    only = spread-only;
  }

-- nothing is spread from a row of zeros
pub spread-none : (largest p words weight : ℕ) (same-colour : Bool) (old tab : List ℕ)
    (layer : State) (r : ℕ) → largest < 64 * words → r ≡ row layer →
    ((l : ℕ) → l < 64 * words → row_bit words old r l ≡ 0) →
    Spreads (record { largest = largest; most_colours = p }) words weight same-colour old tab tab
    (λ s. s ≡ loaded layer s.load)
spread-none largest p words weight same-colour old tab layer r wide re zero = record {
  kept = λ s h m. m;
  here = λ s e h m mark w. (let light : s.load ≤ largest = h.light in
      let q : row s ≡ r = ap row e ∙ sym re in
      let z = zero s.load (omega arith) in
      let n : row_bit words old r s.load ≡ 1 = ap (λ x. row_bit words old x s.load) (sym q) ∙ m in
      absurd (omega (arith, z, n)));
  only = λ t h m. inl m;
}

-- one spreading after another
pub spreads-then : (mill : Mill) (words weight : ℕ) (same-colour : Bool) (old a b c : List ℕ)
    (first second all : State → Type 0) → Spreads mill words weight same-colour old a b first →
    Spreads mill words weight same-colour old b c second →
    ((s : State) → all s → IsWithin mill s → first s ⊎ second s) →
    Spreads mill words weight same-colour old a c all
spreads-then mill words weight same-colour old a b c first second all x y which = record {
  kept = λ s h m. y.kept s h (x.kept s h m);
  here = λ s q h m mark w. elim (which s q h) [
    | inl f ↦ y.kept _ w (x.here s f h m mark w)
    | inr g ↦ y.here s g h m mark w
  ];
  only = λ t h m. elim (y.only t h m) [
    | inr k ↦ inr k
    | inl k ↦ x.only t h k
  ];
}

pub spreads-less : (mill : Mill) (words weight : ℕ) (same-colour : Bool) (old a b : List ℕ)
    (first all : State → Type 0) → Spreads mill words weight same-colour old a b first →
    ((s : State) → all s → IsWithin mill s → first s) →
    Spreads mill words weight same-colour old a b all
spreads-less mill words weight same-colour old a b first all x which = record {
  kept = x.kept;
  here = λ s q h m mark w. x.here s (which s q h) h m mark w;
  only = x.only;
}

pub spreads-nothing : (mill : Mill) (words weight : ℕ) (same-colour : Bool) (old a : List ℕ)
    (all : State → Type 0) → ((s : State) → all s → ⊥) →
    Spreads mill words weight same-colour old a a all
spreads-nothing mill words weight same-colour old a all none = record {
  kept = λ s h m. m;
  here = λ s q h m mark w. absurd (none s q);
  only = λ t h m. inl m;
}

abbrev pub layer_of : ℕ → ℕ → Bool → Bool → State
layer_of f g x y = record { load = 0; first = f; second = g; on_first = x; on_second = y }

-- the four flags
pub spreads-flags : (mill : Mill) (words weight : ℕ) (same-colour : Bool) (old a b c d e : List ℕ)
    (f g : ℕ) →
    Spreads mill words weight same-colour old a b
    (λ s. s ≡ loaded (layer_of f g false false) s.load) →
    Spreads mill words weight same-colour old b c
    (λ s. s ≡ loaded (layer_of f g false true) s.load) →
    Spreads mill words weight same-colour old c d
    (λ s. s ≡ loaded (layer_of f g true false) s.load) →
    Spreads mill words weight same-colour old d e
    (λ s. s ≡ loaded (layer_of f g true true) s.load) →
    Spreads mill words weight same-colour old a e (λ s. (s.first ≡ f) × (s.second ≡ g))
spreads-flags mill words weight same-colour old a b c d e f g w x y z =
    let wx = spreads-then mill words weight same-colour old a b c _ _
    (λ s. (s.first ≡ f) × (s.second ≡ g) × (s.on_first ≡ false)) w x
    (λ s q h. elim (either s.on_second) [
      | inl v ↦ inr (same s (loaded (layer_of f g false true) s.load) refl q.0 q.1 q.2 v)
      | inr v ↦ inl (same s (loaded (layer_of f g false false) s.load) refl q.0 q.1 q.2 v)
    ]) in
    let yz = spreads-then mill words weight same-colour old c d e _ _
    (λ s. (s.first ≡ f) × (s.second ≡ g) × (s.on_first ≡ true)) y z
    (λ s q h. elim (either s.on_second) [
      | inl v ↦ inr (same s (loaded (layer_of f g true true) s.load) refl q.0 q.1 q.2 v)
      | inr v ↦ inl (same s (loaded (layer_of f g true false) s.load) refl q.0 q.1 q.2 v)
    ]) in
    spreads-then mill words weight same-colour old a c e _ _ (λ s. (s.first ≡ f) × (s.second ≡ g))
    wx yz (λ s q h. elim (either s.on_first) [
      | inl v ↦ inr (q.0, q.1, v)
      | inr v ↦ inl (q.0, q.1, v)
    ])

-- one number of colours on the second slab more
pub spreads-second : (mill : Mill) (words weight : ℕ) (same-colour : Bool) (old a b c : List ℕ)
    (f k : ℕ) →
    Spreads mill words weight same-colour old a b (λ s. (s.first ≡ f) × (s.second < k)) →
    Spreads mill words weight same-colour old b c (λ s. (s.first ≡ f) × (s.second ≡ k)) →
    Spreads mill words weight same-colour old a c (λ s. (s.first ≡ f) × (s.second < k + 1))
spreads-second mill words weight same-colour old a b c f k x y = spreads-then mill words weight
    same-colour old a b c _ _ _ x y
    (λ s q h. elim (last-or-below s.second k (omega (arith, q.1))) [
      | inl e ↦ inr (q.0, e)
      | inr l ↦ inl (q.0, l)
    ])

-- and on the first
pub spreads-first : (mill : Mill) (words weight : ℕ) (same-colour : Bool) (old a b c : List ℕ)
    (k : ℕ) → Spreads mill words weight same-colour old a b (λ s. s.first < k) →
    Spreads mill words weight same-colour old b c (λ s. s.first ≡ k) →
    Spreads mill words weight same-colour old a c (λ s. s.first < k + 1)
spreads-first mill words weight same-colour old a b c k x y = spreads-then mill words weight
    same-colour old a b c _ _ _ x y (λ s q h. elim (last-or-below s.first k (omega (arith, q))) [
      | inl e ↦ inr e
      | inr l ↦ inl l
    ])
