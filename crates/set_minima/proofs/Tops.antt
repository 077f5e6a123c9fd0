-- The greatest value of a kind of sets: of the same sets, of two kinds, of sets with one thing
-- more.
use Rattle.std.proofs.Common.{◌≡◌, ◌⊎◌, Bool, List, ℤ, ◌+ℤ◌, ◌≤ℤ◌, Option}
use Rattle.std.proofs.Common.{Some, None}
use Rattle.std.proofs.Common.{refl, sym, ◌∙◌, arith, inl, inr}
use Rattle.std.proofs.lemmas.Int.{ints}
use Rattle.std.specs.Int.{int_max}
use Rattle.set_minima.specs.Packs.{IsTop, better, with_price}

pub none-some : {A : Type 0} (v : ℤ) → ◌≡◌ {A = Option ℤ} None (Some v) → A
none-some v e = absurd (cc)

pub some-same : (v w : ℤ) → ◌≡◌ {A = Option ℤ} (Some v) (Some w) → v ≡ w
some-same v w e = cc

pub max-is : (x z : ℤ) → (int_max x z ≡ x) ⊎ (int_max x z ≡ z)
max-is x z = grind (arith, ints)

above-left : (x z v a : ℤ) → v ≡ int_max x z → a ≤ℤ x → a ≤ℤ v
above-left x z v a e h = grind (arith, ints)

above-right : (x z v a : ℤ) → v ≡ int_max x z → a ≤ℤ z → a ≤ℤ v
above-right x z v a e h = grind (arith, ints)

-- the same sets
pub top-same : (P Q : List Bool → Type 0) (f : List Bool → ℤ) (b : Option ℤ) →
    ((m : List Bool) → P m → Q m) → ((m : List Bool) → Q m → P m) → IsTop P f b → IsTop Q f b
top-same P Q f b to from h = record {
  none = λ e m q. h.none e m (from m q);
  some = λ v e. (let r = h.some v e in (r.0, to r.0 r.1, r.2));
  most = λ v e m q. h.most v e m (from m q);
}

-- the sets of two kinds
pub top-union : (P Q R : List Bool → Type 0) (f : List Bool → ℤ) (b c : Option ℤ) →
    ((m : List Bool) → R m → P m ⊎ Q m) → ((m : List Bool) → P m → R m) →
    ((m : List Bool) → Q m → R m) → IsTop P f b → IsTop Q f c → IsTop R f (better b c)
top-union P Q R f None c cut p q h k = record {
  none = λ e m r. elim (cut m r) [ inl a ↦ h.none refl m a | inr a ↦ k.none e m a ];
  some = λ v e. (let r = k.some v e in (r.0, q r.0 r.1, r.2));
  most = λ v e m r. elim (cut m r) [ inl a ↦ absurd (h.none refl m a) | inr a ↦ k.most v e m a ];
}
top-union P Q R f (Some x) None cut p q h k = record {
  none = λ e. absurd (none-some x (sym e));
  some = λ v e. (let r = h.some v e in (r.0, p r.0 r.1, r.2));
  most = λ v e m r. elim (cut m r) [ inl a ↦ h.most v e m a | inr a ↦ absurd (k.none refl m a) ];
}
top-union P Q R f (Some x) (Some z) cut p q h k = record {
  none = λ e. absurd (none-some (int_max x z) (sym e));
  some = λ v e. (let w : v ≡ int_max x z = sym (some-same _ v e) in elim (max-is x z) [
    | inl m ↦ (let r = h.some x refl in (r.0, p r.0 r.1, w ∙ m ∙ r.2))
    | inr m ↦ (let r = k.some z refl in (r.0, q r.0 r.1, w ∙ m ∙ r.2))
  ]);
  most = λ v e m r. (let w : v ≡ int_max x z = sym (some-same _ v e) in elim (cut m r) [
    | inl a ↦ above-left x z v _ w (h.most x refl m a)
    | inr a ↦ above-right x z v _ w (k.most z refl m a)
  ]);
}

-- the sets with one thing more
pub top-shift : (P Q : List Bool → Type 0) (f g : List Bool → ℤ) (y : ℤ) (on off : List Bool →
    List Bool) (c : Option ℤ) → ((m : List Bool) → P m → Q (on m) × (g (on m) ≡ y +ℤ f m)) →
    ((m : List Bool) → Q m → P (off m) × (g m ≡ y +ℤ f (off m))) → IsTop P f c →
    IsTop Q g (with_price y c)
top-shift P Q f g y on off None to from h = record {
  none = λ e m q. h.none refl (off m) (from m q).0;
  some = λ v e. none-some v e;
  most = λ v e. none-some v e;
}
top-shift P Q f g y on off (Some x) to from h = record {
  none = λ e. absurd (none-some (x +ℤ y) (sym e));
  some = λ v e. (let w : v ≡ x +ℤ y = sym (some-same _ v e) in let r = h.some x refl in let t =
      to r.0 r.1 in let a : x ≡ f r.0 =
      r.2 in let b : g (on r.0) ≡ y +ℤ f r.0 = t.1 in (on r.0, t.0, omega (arith, ints)));
  most = λ v e m q. (let w : v ≡ x +ℤ y = sym (some-same _ v e) in let t =
      from m q in let a : f (off m) ≤ℤ x =
      h.most x refl (off m) t.0 in let b : g m ≡ y +ℤ f (off m) = t.1 in omega (arith, ints));
}

-- other values of the same sets
pub top-value : (P : List Bool → Type 0) (f g : List Bool → ℤ) (y : ℤ) (c : Option ℤ) →
    ((m : List Bool) → P m → g m ≡ f m +ℤ y) → IsTop P f c → IsTop P g (with_price y c)
top-value P f g y None e h = record {
  none = λ q m p. h.none refl m p;
  some = λ v q. none-some v q;
  most = λ v q. none-some v q;
}
top-value P f g y (Some x) e h = record {
  none = λ q. absurd (none-some (x +ℤ y) (sym q));
  some = λ v q. (let w : v ≡ x +ℤ y = sym (some-same _ v q) in let r =
      h.some x refl in let a : x ≡ f r.0 =
      r.2 in let b : g r.0 ≡ f r.0 +ℤ y = e r.0 r.1 in (r.0, r.1, omega (arith, ints)));
  most = λ v q m p. (let w : v ≡ x +ℤ y = sym (some-same _ v q) in let a : f m ≤ℤ x =
      h.most x refl m p in let b : g m ≡ f m +ℤ y = e m p in omega (arith, ints));
}
