-- One order more is let in: the best prices of the sets without it, and of those with it.
use Rattle.std.proofs.Common.{ℕ, ◌+◌, ◌-◌, ◌<◌, ◌≤◌, ◌≡◌, ◌≢◌, Bool, true, false, ◌||◌, List, ◌++◌}
use Rattle.std.proofs.Common.{length, get_or, set, ℤ, pos, ◌+ℤ◌, Option, eqb, refl, sym, ap, subst}
use Rattle.std.proofs.Common.{◌∙◌, arith, inl, inr, eq-eqb, eqb-true, length-set}
use Rattle.list_laws.specs.Sets.{chosen, int_sum, holds, different}
use Rattle.mill_model.specs.Slab.{load}
use Rattle.mill_model.specs.Bounds.{in_set}
use Rattle.mill_model.specs.declared.order.Order.{Order}
use Rattle.list_laws.proofs.Tests.{either, or-cases, or-left, or-right, clash}
use Rattle.list_laws.proofs.Different.{different-mono, holds-append, Within}
use Rattle.set_minima.specs.Packs.{nobody, colour_at, colours_in, Packs, IsBest, IsNext, better}
use Rattle.set_minima.specs.Packs.{with_price}
use Rattle.set_minima.proofs.Places.{in-set-same, in-set-other, in-set-below, load-place, sum-place}
use Rattle.set_minima.proofs.Places.{colours-place, marked, unmarked}
use Rattle.set_minima.proofs.Tops.{top-same, top-union, top-shift}

module _ (rest : List Order) where
  -- sets of fewer colours
  pub few-less : (own own' : List ℕ) (marks marks' : List Bool) (k : ℕ) →
      Within (own ++ colours_in marks rest) (own' ++ colours_in marks' rest) →
      different (own' ++ colours_in marks' rest) ≤ k → different (own ++ colours_in marks rest) ≤ k
  few-less own own' marks marks' k w h =
      let d : different (own ++ colours_in marks rest) ≤ different (own'
      ++ colours_in marks' rest) = different-mono _ _ w in omega arith

  -- other places, of which a set has the same
  pub packs-allowed : (A A' : ℕ → Bool) (own : List ℕ) (k l : ℕ) (marks : List Bool) →
      ((i : ℕ) → i < length rest → A i ≡ true → A' i ≡ true) → Packs A own k rest l marks →
      Packs A' own k rest l marks
  packs-allowed A A' own k l marks to p = record {
    long = p.long;
    weighs = p.weighs;
    fine =
        λ i e. to i (let b : i < length marks = in-set-below i marks e in
        let n : length marks ≡ length rest = p.long in omega arith) (p.fine i e);
    few = p.few;
  }

  pub best-allowed : (prices : List ℤ) (A A' : ℕ → Bool) (own : List ℕ) (k l : ℕ) (b : Option ℤ) →
      ((i : ℕ) → i < length rest → A i ≡ A' i) → IsBest A own k rest prices l b →
      IsBest A' own k rest prices l b
  best-allowed prices A A' own k l b e h =
      top-same _ _ _ b (λ m p. packs-allowed A A' own k l m (λ i b t. sym (e i b) ∙ t) p) (λ m p.
      packs-allowed A' A own k l m (λ i b t. e i b ∙ t) p) h

  module _ (prices : List ℤ) (same : length prices ≡ length rest) (A A' : ℕ → Bool)
      (own : List ℕ) (k j : ℕ) (here : j < length rest) (next : IsNext A A' j)
      (paid : holds (colour_at rest j) own ≡ true) where
    abbrev w : ℕ
    w = (get_or rest j nobody).weight

    abbrev y : ℤ
    y = get_or prices j (pos 0)

    abbrev on : List Bool → List Bool
    on marks = set marks j true

    abbrev off : List Bool → List Bool
    off marks = set marks j false

    abbrev Holding : ℕ → List Bool → Type 0
    Holding l marks = Packs A' own k rest l marks × (in_set j marks ≡ true)

    pub without-it : (l : ℕ) (marks : List Bool) → Packs A' own k rest l marks →
        in_set j marks ≡ false → Packs A own k rest l marks
    without-it l marks p f = record {
      long = p.long;
      weighs = p.weighs;
      fine = λ i e. elim (either (eqb i j)) [
        | inl q ↦ absurd (clash (in_set i marks) e (rw (eqb-true i j q) f))
        | inr q ↦ next.only i (p.fine i e) q
      ];
      few = p.few;
    }

    widened : (l : ℕ) (marks : List Bool) → Packs A own k rest l marks → Packs A' own k rest l marks
    widened l marks p = packs-allowed A A' own k l marks (λ i b t. next.kept i t) p

    pub weight-of : (l : ℕ) (marks : List Bool) → Holding l marks →
        l ≡ w + load (chosen (off marks) rest)
    weight-of l marks q =
        let b : j < length marks = in-set-below j marks q.1 in
        let e : load (chosen (on marks) rest) ≡ w + load (chosen (off marks) rest) =
        load-place j marks rest b here in
        sym q.0.weighs ∙ ap (λ m. load (chosen m rest)) (sym (marked j marks q.1)) ∙ e

    pub taken-off : (l : ℕ) (marks : List Bool) → Holding l marks →
        Packs A own k rest (l - w) (off marks)
        × (int_sum (chosen marks prices) ≡ y +ℤ int_sum (chosen (off marks) prices))
    taken-off l marks q =
        let b : j < length marks = in-set-below j marks q.1 in
        let e : l ≡ w + load (chosen (off marks) rest) = weight-of l marks q in
        let m : on marks ≡ marks = marked j marks q.1 in (
          record {
            long = length-set marks j false ∙ q.0.long;
            weighs = omega arith;
            fine = λ i t. elim (either (eqb i j)) [
              | inl s ↦ absurd (clash (in_set i (off marks)) t
                  (rw (eqb-true i j s) (in-set-same j marks false b)))
              | inr s ↦ (let n : i ≢ j = λ z. clash (eqb i j) (eq-eqb i j z) s in
                  let t' : in_set i marks ≡ true = sym (in-set-other i j marks false n) ∙ t in
                  next.only i (q.0.fine i t') s)
            ];
            few = few-less own own (off marks) marks k (λ x h. fewer x h) q.0.few;
          },
          ap (λ z. int_sum (chosen z prices)) (sym m) ∙ sum-place j marks prices b (rw same here),
        )
      where
        fewer : Within (own ++ colours_in (off marks) rest) (own ++ colours_in marks rest)
        fewer x h =
            let b : j < length marks = in-set-below j marks q.1 in
            let c : holds x (colours_in (on marks) rest) ≡ (eqb x (colour_at rest j)
            || holds x (colours_in (off marks) rest)) = colours-place x j marks rest b here in
            let m : on marks ≡ marks = marked j marks q.1 in
            rw holds-append (elim (or-cases (holds x own) _
            (sym (holds-append x own (colours_in (off marks) rest)) ∙ h)) [
              | inl a ↦ or-left (holds x own) _ a
              | inr a ↦ or-right (holds x own) _ (subst (λ z.
                  holds x (colours_in z rest) ≡ true) m (c
                  ∙ or-right (eqb x (colour_at rest j)) _ a))
            ])

    put-on : (l : ℕ) (marks : List Bool) → w ≤ l → Packs A own k rest (l - w) marks →
        Holding l (on marks) × (int_sum (chosen (on marks) prices) ≡ y
        +ℤ int_sum (chosen marks prices))
    put-on l marks h p =
        let b : j < length marks = (let n : length marks ≡ length rest = p.long in omega arith) in
        let e : load (chosen (on marks) rest) ≡ w + load (chosen (off marks) rest) =
        load-place j marks rest b here in
        let f : in_set j marks ≡ false = unset (in_set j marks) refl in
        let m : off marks ≡ marks = unmarked j marks f in
        let v : load (chosen (off marks) rest) ≡ l - w =
        ap (λ z. load (chosen z rest)) m ∙ p.weighs in (
          (
            record {
              long = length-set marks j true ∙ p.long;
              weighs = omega arith;
              fine = λ i t. elim (either (eqb i j)) [
                | inl s ↦ rw (eqb-true i j s) next.now
                | inr s ↦ next.kept i (p.fine i (sym (in-set-other i j marks true (λ z.
                    clash (eqb i j) (eq-eqb i j z) s)) ∙ t))
              ];
              few = few-less own own (on marks) marks k (λ x q. fewer b m x q) p.few;
            },
            in-set-same j marks true b,
          ),
          sum-place j marks prices b (rw same here) ∙ ap (λ z. y +ℤ int_sum (chosen z prices)) m,
        )
      where
        unset : (v : Bool) → in_set j marks ≡ v → in_set j marks ≡ false
        unset true e = absurd (clash (A j) (p.fine j e) next.new)
        unset false e = e

        fewer : j < length marks → off marks ≡ marks →
            Within (own ++ colours_in (on marks) rest) (own ++ colours_in marks rest)
        fewer b m x q =
            let c : holds x (colours_in (on marks) rest) ≡ (eqb x (colour_at rest j)
            || holds x (colours_in (off marks) rest)) = colours-place x j marks rest b here in
            rw holds-append (elim (or-cases (holds x own) _
            (sym (holds-append x own (colours_in (on marks) rest)) ∙ q)) [
              | inl a ↦ or-left (holds x own) _ a
              | inr a ↦ elim (or-cases (eqb x (colour_at rest j)) _ (sym c ∙ a)) [
                | inl s ↦ or-left (holds x own) _ (rw (eqb-true x (colour_at rest j) s) paid)
                | inr s ↦ or-right (holds x own) _ (subst (λ z.
                    holds x (colours_in z rest) ≡ true) m s)
              ]
            ])

    -- the order is let in
    pub best-added : (l : ℕ) → w ≤ l → (b c : Option ℤ) → IsBest A own k rest prices l b →
        IsBest A own k rest prices (l - w) c → IsBest A' own k rest prices l
        (better b (with_price y c))
    best-added l h b c p q =
        top-union (Packs A own k rest l) (Holding l) (Packs A' own k rest l) (λ m.
        int_sum (chosen m prices)) b (with_price y c)
        (λ m r. elim (either (in_set j m)) [
          | inl t ↦ inr (r, t)
          | inr f ↦ inl (without-it l m r f)
        ])
        (λ m r. widened l m r)
        (λ m r. r.0)
        p
        (top-shift (Packs A own k rest (l - w)) (Holding l) (λ m. int_sum (chosen m prices)) (λ m.
        int_sum (chosen m prices)) y on off c (λ m r. put-on l m h r) (λ m r.
        taken-off l m r) q)

    -- it is too heavy
    pub best-heavy : (l : ℕ) → l < w → (b : Option ℤ) → IsBest A own k rest prices l b →
        IsBest A' own k rest prices l b
    best-heavy l h b p =
        top-same (Packs A own k rest l) (Packs A' own k rest l) (λ m.
        int_sum (chosen m prices)) b (λ m r. widened l m r) (λ m r.
        without-it l m r (unset (in_set j m) refl r)) p
      where
        unset : {m : List Bool} (v : Bool) → in_set j m ≡ v → Packs A' own k rest l m →
            in_set j m ≡ false
        unset {m} true e r =
            let x : l ≡ w + load (chosen (off m) rest) =
            weight-of l m (r, e) in absurd (omega arith)
        unset false e r = e
