-- The loads of the marked states, and the cheapest of them.
use Rattle.std.proofs.Common.{ℕ, ◌+◌, ◌-◌, ◌*◌, ◌/◌, ◌%◌, ◌<◌, ◌≤◌, ◌≡◌, Bool, true, false, cond}
use Rattle.std.proofs.Common.{List, length, max, refl, sym, ap, ◌∙◌, arith, inl, inr, subst}
use Rattle.std.proofs.Common.{get_or, Option, Some, None}
use Rattle.std.specs.List.{between}
use Rattle.std.proofs.lemmas.Bool.{cases_eq}
use Rattle.std.proofs.lemmas.Nat.{row_fits}
use Rattle.std.proofs.lemmas.Nat.Bits.{bit_at-zero}
use Rattle.std.specs.Int.{bit_at}
use Rattle.list_laws.proofs.Tests.{last-or-below}
use Rattle.pair_split.specs.States.{row}
use Rattle.pair_split.specs.Tables.{row_bit}
use Rattle.pair_split.specs.Loads.{Gathers, IsCheapest, IsLoads, loss_of_load}
use Rattle.pair_split.specs.Words.{bit}
use Rattle.pair_split.specs.declared.state.State.{State}
use Rattle.pair_split.proofs.RowBits.{row-between}
use Rattle.pair_split.proofs.Pushed.{row_bit-lt}

pub bit-lt : (xs : List ℕ) (l : ℕ) → bit xs l < 2
unfolding bit
bit-lt xs l = omega arith

pub bit-clear : (xs : List ℕ) → ((k : ℕ) → get_or xs k 0 ≡ 0) → (l : ℕ) → bit xs l ≡ 1 → ⊥
unfolding bit
bit-clear xs clear l h =
    let e : bit_at (get_or xs (l / 64) 0) (l % 64) ≡ 0 =
    ap (λ w. bit_at w (l % 64)) (clear (l / 64)) ∙ bit_at-zero (l % 64) in
    absurd (omega (arith, e, h))

pub gather-one : (words : ℕ) (table before after : List ℕ) (r : ℕ) → length before ≡ words →
    ((l : ℕ) → 0 ≤ l → l < 64 * length before →
    bit after l
    ≡ max (bit before l) (bit (between (r * words) (r * words + words) table) (l - 0))) →
    Gathers words table before after (λ q. q ≡ r)
gather-one words table before after r len s = record {
  kept = λ l h m. (let z = at l h in let b = row_bit-lt words table r l in omega (arith, z, b, m));
  here = λ q l e h m. (let z = at l h in
      let b = bit-lt before l in
      let n : row_bit words table r l ≡ 1 = ap (λ x. row_bit words table x l) (sym e) ∙ m in
      omega (arith, z, b, n));
  only = λ l h m. (let z = at l h in elim (cases_eq (bit before l) 1) [
    | inl e ↦ inl e
    | inr d ↦ (let b = bit-lt before l in inr (r, refl, omega (arith, z, b, d, m)))
  ]);
}
  where
    at : (l : ℕ) → l < 64 * words → bit after l ≡ max (bit before l) (row_bit words table r l)
    at l h =
        let e : l - 0 ≡ l = omega arith in
        let a = s l (omega arith) (omega (arith, len, h)) in
        a
        ∙ ap (max (bit before l))
        (ap (bit (between (r * words) (r * words + words) table)) e
        ∙ row-between words table r l h)

pub row-fits-in : (r first p words n : ℕ) → first ≤ p → p ≤ 8 → r < first * 36 + 4 * (p + 1) →
    n ≡ 36 * (p + 1) * words → r * words + words ≤ n
row-fits-in r first p words n a b h e =
    let f = row_fits r words (36 * (p + 1)) words (omega arith) (omega arith) in
    omega (arith, f, e)

-- a state of each row of few colours
pub row-state : (r l p : ℕ) → r / 36 ≤ p → r % 36 < 4 * (p + 1) →
    (s : State) × (row s ≡ r) × (s.load ≡ l) × (s.first ≤ p) × (s.second ≤ p)
row-state r l p a b =
    let state : Bool → Bool → State = λ on_first on_second. record {
      load = l;
      first = r / 36;
      second = r % 36 / 4;
      on_first = on_first;
      on_second = on_second;
    } in
    elim (cases_eq (r % 4) 0) [
      | inl e ↦ (state false false, omega (arith, e), refl, a, omega arith)
      | inr d ↦ elim (cases_eq (r % 4) 1) [
        | inl e ↦ (state false true, omega (arith, e), refl, a, omega arith)
        | inr f ↦ elim (cases_eq (r % 4) 2) [
          | inl e ↦ (state true false, omega (arith, e), refl, a, omega arith)
          | inr g ↦ (state true true, omega (arith, d, f, g), refl, a, omega arith)
        ]
      ]
    ]

row-of-state : (s : State) (p : ℕ) → s.first ≤ p → s.second ≤ p → p ≤ 8 →
    (row s / 36 ≤ p) × (row s % 36 < 4 * (p + 1))
row-of-state s p a b h = go s.first s.second s.on_first s.on_second a b
  where
    go : (f g : ℕ) (x y : Bool) → f ≤ p → g ≤ p →
        ((f * 36 + g * 4 + cond x 2 0 + cond y 1 0) / 36 ≤ p)
        × ((f * 36 + g * 4 + cond x 2 0 + cond y 1 0) % 36 < 4 * (p + 1))
    go f g true true a b = (omega arith, omega arith)
    go f g true false a b = (omega arith, omega arith)
    go f g false true a b = (omega arith, omega arith)
    go f g false false a b = (omega arith, omega arith)

pub loads-gathered : (largest p words : ℕ) → p ≤ 8 → largest < 64 * words →
    (table none loads : List ℕ) (n : ℕ) → n ≡ p + 1 → ((k : ℕ) → bit none k ≡ 1 → ⊥) →
    Gathers words table none loads (λ q. (q / 36 < n) × (q % 36 < 4 * (p + 1))) →
    IsLoads (record { largest = largest; most_colours = p }) words table loads
loads-gathered largest p words few wide table none loads n e clear g = record {
  found = λ l h m. elim (g.only l (omega arith) m) [
    | inl k ↦ absurd (clear l k)
    | inr k ↦ (let s = row-state k.0 l p (omega (arith, e, k.1.0)) k.1.1 in
        let q : row_bit words table (row s.0) s.0.load ≡ row_bit words table k.0 l =
        ap (λ r. row_bit words table r s.0.load) s.1 ∙ ap (row_bit words table k.0) s.2 in
        (s.0, record { light = omega (arith, s.2, h); few = s.3; few_others = s.4 }, q ∙ k.2, s.2))
  ];
  every = λ s h m. (let light : s.load ≤ largest = h.light in
      let r = row-of-state s p h.few h.few_others few in
      g.here (row s) s.load (omega (arith, r.0, e), r.1) (omega arith) m);
}

module _ (charge : ℕ → ℕ) (whole largest n : ℕ) (loads : List ℕ) (best : Option (ℕ × ℕ))
    (c : IsCheapest charge whole largest n loads best) where
  -- a load that no light split has
  pub cheapest-skip : (bit loads n ≡ 1 → n + largest < whole) →
      IsCheapest charge whole largest (n + 1) loads best
  cheapest-skip dark = record {
    none = λ e l h m. elim (last-or-below l n (omega arith)) [
      | inr b ↦ c.none e l b m
      | inl q ↦ subst (λ x. x + largest < whole) (sym q) (dark (subst (λ x. bit loads x ≡ 1) q m))
    ];
    marked = λ b e. (let k = c.marked b e in (k.0, omega (arith, k.1), k.2, k.3));
    least = λ b e l h m w. elim (last-or-below l n (omega arith)) [
      | inr k ↦ c.least b e l k m w
      | inl q ↦ (let z : n + largest < whole = dark (subst (λ x. bit loads x ≡ 1) q m) in
          absurd (omega (arith, z, q, w)))
    ];
  }

  -- a load that loses no less
  pub cheapest-keep : (b : ℕ × ℕ) → best ≡ Some b →
      ((d : ℕ × ℕ) → best ≡ Some d → d.1 ≤ loss_of_load charge whole n) →
      IsCheapest charge whole largest (n + 1) loads best
  cheapest-keep b is less = record {
    none = λ e. not-none b (sym is ∙ e);
    marked = λ b e. (let k = c.marked b e in (k.0, omega (arith, k.1), k.2, k.3));
    least = λ b e l h m w. elim (last-or-below l n (omega arith)) [
      | inr k ↦ c.least b e l k m w
      | inl q ↦ subst (λ x. b.1 ≤ loss_of_load charge whole x) (sym q) (less b e)
    ];
  }
    where
      not-none : {A : Type 0} (b : ℕ × ℕ) → ◌≡◌ {A = Option (ℕ × ℕ)} (Some b) None → A
      not-none b e = absurd (cc)

pub not-true : ◌≡◌ {A = Bool} false true → ⊥
not-true h = absurd (cc)

pub some-cost : (a b : ℕ × ℕ) → ◌≡◌ {A = Option (ℕ × ℕ)} (Some a) (Some b) → a.1 ≡ b.1
some-cost a b e = let q : a ≡ b = cc in ap (λ (z : ℕ × ℕ). z.1) q
