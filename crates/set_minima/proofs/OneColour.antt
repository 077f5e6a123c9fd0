-- One colour more is let in, from a table of at most k colours to one of k + 1. While its orders
-- are let in, the colour counts as an own one; sets with it then pay for it once.
use Rattle.std.proofs.Common.{ℕ, suc, ◌+◌, ◌<◌, ◌≤◌, ◌≡◌, Bool, true, false, List, [], ◌∷◌, ◌++◌}
use Rattle.std.proofs.Common.{length, ℤ, pos, Option, Some, None, eqb, refl, sym, ap, subst, ◌∙◌}
use Rattle.std.proofs.Common.{arith, inl, inr, eqb-true, eq-eqb, append-nil}
use Rattle.std.proofs.lemmas.Int.{ints}
use Rattle.list_laws.specs.Sets.{chosen, int_sum, holds, different}
use Rattle.mill_model.specs.Slab.{load}
use Rattle.mill_model.specs.Bounds.{in_set}
use Rattle.mill_model.specs.declared.order.Order.{Order}
use Rattle.mill_laws.proofs.Slacks.{nothing-in}
use Rattle.list_laws.proofs.Lists.{nothing, nothing-chosen, nothing-length}
use Rattle.list_laws.proofs.Tests.{either, or-cases, or-right, clash}
use Rattle.list_laws.proofs.Different.{different-mono, holds-append, Within-left, Within-right}
use Rattle.set_minima.specs.Packs.{colour_at, colours_in, Packs, IsBest, IsNextColour, better}
use Rattle.set_minima.proofs.Places.{in-set-below, colour-place, place-colour}
use Rattle.set_minima.proofs.Tops.{top-same, top-union}
use Rattle.set_minima.proofs.OneOrder.{few-less}

module _ (rest : List Order) (A A' : ℕ → Bool) (own : List ℕ) (c : ℕ)
    (next : IsNextColour rest A A' c) (not-own : holds c own ≡ false) where
  inside : (l k i : ℕ) (B : ℕ → Bool) (own' : List ℕ) (marks : List Bool) →
      Packs B own' k rest l marks → in_set i marks ≡ true → i < length rest
  inside l k i B own' marks p e =
      let b : i < length marks = in-set-below i marks e in
      let n : length marks ≡ length rest = p.long in
      omega arith

  -- no set of the old places has the new colour
  pub lacks : (k l : ℕ) (own' : List ℕ) (marks : List Bool) → Packs A own' k rest l marks →
      holds c (own ++ colours_in marks rest) ≡ false
  lacks k l own' marks p = go (holds c (own ++ colours_in marks rest)) refl
    where
      go : (v : Bool) → holds c (own ++ colours_in marks rest) ≡ v →
          holds c (own ++ colours_in marks rest) ≡ false
      go false e = e
      go true e =
          elim (or-cases (holds c own) _ (sym (holds-append c own (colours_in marks rest)) ∙ e)) [
            | inl a ↦ absurd (clash (holds c own) a not-own)
            | inr a ↦ (let r = colour-place c marks rest a in
                absurd (clash (eqb (colour_at rest r.0) c) (eq-eqb (colour_at rest r.0) c r.3)
                (next.new r.0 r.2 (p.fine r.0 r.1))))
          ]

  -- the layer below, where the new colour is paid for
  pub layer-start : (prices : List ℤ) (k l : ℕ) (b : Option ℤ) →
      IsBest A own k rest prices l b → IsBest A (c ∷ own) (suc k) rest prices l b
  layer-start prices k l b h =
      top-same _ _ _ b
      (λ m p. (let e : holds c (own ++ colours_in m rest) ≡ false = lacks k l own m p in
      let f : different (own ++ colours_in m rest) ≤ k = p.few in
      record { long = p.long; weighs = p.weighs; fine = p.fine; few = rw e (omega arith) }))
      (λ m p. (let e : holds c (own ++ colours_in m rest) ≡ false = lacks (suc k) l (c ∷ own) m p in
      let f : suc (different (own ++ colours_in m rest)) ≤ suc k = rw e at p.few in
      record { long = p.long; weighs = p.weighs; fine = p.fine; few = omega arith })) h

  -- a set without the new colour has old places alone
  pub old-places : (k l : ℕ) (own' : List ℕ) (marks : List Bool) → Packs A' own' k rest l marks →
      holds c (colours_in marks rest) ≡ false → (i : ℕ) → in_set i marks ≡ true → A i ≡ true
  old-places k l own' marks p f i e =
      let b : i < length rest = inside l k i A' own' marks p e in
      elim (either (eqb (colour_at rest i) c)) [
        | inl q ↦ absurd (clash (holds c (colours_in marks rest))
            (subst (λ z. holds z (colours_in marks rest) ≡ true) (eqb-true (colour_at rest i) c q)
            (place-colour i marks rest e b)) f)
        | inr q ↦ next.only i b (p.fine i e) q
      ]

  wider : (k l : ℕ) (own' : List ℕ) (marks : List Bool) → Packs A own' k rest l marks →
      Packs A' own' k rest l marks
  wider k l own' marks p =
      record {
        long = p.long;
        weighs = p.weighs;
        fine = λ i e. next.kept i (inside l k i A own' marks p e) (p.fine i e);
        few = p.few;
      }

  -- the sets of a layer, without the new colour and with it
  pub layer-end : (prices : List ℤ) (k l : ℕ) (a b : Option ℤ) → IsBest A own k rest prices l a →
      IsBest A' (c ∷ own) k rest prices l b → IsBest A' own k rest prices l (better a b)
  layer-end prices k l a b h q =
      top-union (Packs A own k rest l) (Packs A' (c ∷ own) k rest l) (Packs A' own k rest l)
      (λ m. int_sum (chosen m prices)) a b
      (λ m p. elim (either (holds c (colours_in m rest))) [
        | inl t ↦ inr (let e : holds c (own ++ colours_in m rest) ≡ true =
            holds-append c own (colours_in m rest) ∙ or-right (holds c own) _ t in
            record { long = p.long; weighs = p.weighs; fine = p.fine; few = rw e p.few })
        | inr f ↦ inl (record {
          long = p.long;
          weighs = p.weighs;
          fine = old-places k l own m p f;
          few = p.few;
        })
      ])
      (λ m p. wider k l own m p)
      (λ m p. record {
        long = p.long;
        weighs = p.weighs;
        fine = p.fine;
        few = few-less rest own (c ∷ own) m m k (λ x t. or-right (eqb x c) _ t) p.few;
      })
      h q

  -- with no colour to spare no set has the new colour
  pub layer-free : (few l : ℕ) → few ≡ different own → (m : List Bool) →
      Packs A' own few rest l m → Packs A own few rest l m
  layer-free few l e m p = record {
    long = p.long;
    weighs = p.weighs;
    fine = old-places few l own m p (free (holds c (colours_in m rest)) refl);
    few = p.few;
  }
    where
      free : (v : Bool) → holds c (colours_in m rest) ≡ v → holds c (colours_in m rest) ≡ false
      free false t = t
      free true t =
          let d : different (c ∷ own) ≤ different (own ++ colours_in m rest) =
          different-mono (c ∷ own) (own ++ colours_in m rest)
          (λ x q. elim (or-cases (eqb x c) (holds x own) q) [
            | inl z ↦ Within-right own (colours_in m rest) x (rw (eqb-true x c z) t)
            | inr z ↦ Within-left own (colours_in m rest) x z
          ]) in
          let n : suc (different own) ≤ different (own ++ colours_in m rest) = rw not-own at d in
          let f : different (own ++ colours_in m rest) ≤ few = p.few in
          absurd (omega arith)

  -- so nothing changes
  pub layer-keep : (prices : List ℤ) (few l : ℕ) (b : Option ℤ) → few ≡ different own →
      IsBest A own few rest prices l b → IsBest A' own few rest prices l b
  layer-keep prices few l b e h =
      top-same _ _ _ b (λ m p. wider few l own m p) (λ m p. layer-free few l e m p) h

-- The first tables.

-- own colours alone need none of the others
pub layer-spread : (rest : List Order) (A : ℕ → Bool) (own : List ℕ) (prices : List ℤ)
    (few more l : ℕ) (b : Option ℤ) → few ≡ different own →
    ((i : ℕ) → A i ≡ true → holds (colour_at rest i) own ≡ true) →
    IsBest A own few rest prices l b → IsBest A own (few + more) rest prices l b
layer-spread rest A own prices few more l b e paid h =
    top-same _ _ _ b
    (λ m p. (let f : different (own ++ colours_in m rest) ≤ few = p.few in
    record { long = p.long; weighs = p.weighs; fine = p.fine; few = omega arith }))
    (λ m p. record { long = p.long; weighs = p.weighs; fine = p.fine; few = fewer m p }) h
  where
    fewer : (m : List Bool) → Packs A own (few + more) rest l m →
        different (own ++ colours_in m rest) ≤ few
    fewer m p =
        let d : different (own ++ colours_in m rest) ≤ different own =
        different-mono (own ++ colours_in m rest) own
        (λ x q. elim (or-cases (holds x own) _ (sym (holds-append x own (colours_in m rest)) ∙ q)) [
          | inl z ↦ z
          | inr z ↦ (let r = colour-place x m rest z in
              subst (λ y. holds y own ≡ true) r.3 (paid r.0 (p.fine r.0 r.1)))
        ]) in
        omega arith

pub none-chosen : {X : Type 0} (marks : List Bool) (xs : List X) →
    ((i : ℕ) → in_set i marks ≡ true → ⊥) → chosen marks xs ≡ []
none-chosen [] xs h = refl
none-chosen (m ∷ marks) [] h = refl
none-chosen (true ∷ marks) (x ∷ xs) h = absurd (h 0 refl)
none-chosen (false ∷ marks) (x ∷ xs) h = none-chosen marks xs (λ i e. h (suc i) e)

module _ (rest : List Order) (A : ℕ → Bool) (own : List ℕ) (prices : List ℤ)
    (none : (i : ℕ) → A i ≡ false) where
  pub nobody-in : (k l : ℕ) (m : List Bool) → Packs A own k rest l m → (i : ℕ) →
      in_set i m ≡ true → ⊥
  nobody-in k l m p i e = clash (A i) (p.fine i e) (none i)

  -- the empty set alone
  pub table-none : (few l : ℕ) → IsBest A own few rest prices (suc l) None
  table-none few l = record {
    none = λ e m p. (let q : chosen m rest ≡ [] = none-chosen m rest (nobody-in few (suc l) m p) in
        let w : load (chosen m rest) ≡ suc l = p.weighs in
        let z : load (chosen m rest) ≡ 0 = ap load q in
        absurd (omega arith));
    some = λ v e. absurd (cc);
    most = λ v e. absurd (cc);
  }

  pub table-empty : (few : ℕ) → few ≡ different own → IsBest A own few rest prices 0 (Some (pos 0))
  table-empty few e = record {
    none = λ e. absurd (cc);
    some = λ v q. (let w : pos 0 ≡ v = cc in (
      nothing (length rest),
      record {
        long = nothing-length (length rest);
        weighs = ap load (nothing-chosen (length rest) rest);
        fine = λ i t.
            absurd (clash (in_set i (nothing (length rest))) t (nothing-in i (length rest)));
        few = rw (nothing-chosen (length rest) rest, append-nil) (omega arith);
      },
      sym w ∙ sym (ap int_sum (nothing-chosen (length rest) prices)),
    ));
    most = λ v q m p. (let w : pos 0 ≡ v = cc in
        let z : int_sum (chosen m prices) ≡ pos 0 =
        ap int_sum (none-chosen m prices (nobody-in few 0 m p)) in
        omega (arith, ints));
  }

-- a set without a colour is empty, whatever is allowed
pub no-colour-allowed : (rest : List Order) (A A' : ℕ → Bool) (prices : List ℤ) (l : ℕ)
    (b : Option ℤ) → IsBest A [] 0 rest prices l b → IsBest A' [] 0 rest prices l b
no-colour-allowed rest A A' prices l b h =
    top-same _ _ _ b
    (λ m p. record {
      long = p.long;
      weighs = p.weighs;
      fine = λ i e. absurd (nobody m p.long p.few i e);
      few = p.few;
    })
    (λ m p. record {
      long = p.long;
      weighs = p.weighs;
      fine = λ i e. absurd (nobody m p.long p.few i e);
      few = p.few;
    }) h
  where
    nobody : (m : List Bool) → length m ≡ length rest → different (colours_in m rest) ≤ 0 →
        (i : ℕ) → in_set i m ≡ true → ⊥
    nobody m long few i e =
        let below : i < length m = in-set-below i m e in
        let c = colour_at rest i in
        let has : holds c (colours_in m rest) ≡ true = place-colour i m rest e (omega arith) in
        let one : different (c ∷ []) ≤ different (colours_in m rest) =
        different-mono (c ∷ []) (colours_in m rest) (λ x q.
        elim (or-cases (eqb x c) false q) [
          | inl z ↦ rw (eqb-true x c z) has
          | inr z ↦ absurd (clash false z refl)
        ]) in
        let d : different (c ∷ []) ≡ 1 = refl in
        absurd (omega arith)
