-- Layers of tables: one colour more in all of them.
use Rattle.std.proofs.Common.{ℕ, suc, ◌+◌, ◌-◌, ◌*◌, ◌<◌, ◌≤◌, ◌≡◌, ◌⊎◌}
use Rattle.std.proofs.Common.{Bool, List}
use Rattle.std.proofs.Common.{[], refl, length, get_or, ℤ, pos, sym, ap, ◌∙◌, subst, arith, inl}
use Rattle.std.proofs.Common.{inr}
use Rattle.std.proofs.Common.{mul-le-mul_right, eq-or-lt_of_le}
use Rattle.std.proofs.lemmas.Int.{ints}
use Rattle.std.proofs.lemmas.List.{get_or_past}
use Rattle.std.proofs.lemmas.Bool.{cases_lt}
use Rattle.std.specs.Int.{int_max}
use Rattle.mill_model.specs.declared.order.Order.{Order}
use Rattle.set_minima.specs.Packs.{IsBest, IsTable, IsNextColour}
use Rattle.set_minima.proofs.OneColour.{layer-keep}
use Rattle.set_minima.specs.Cells.{cell, found, IsNear, AreNear, AreLayers}
use Rattle.set_minima.proofs.CellNumbers.{near-wider, near-max, near-small}

pub near-zero : (n : ℕ) → IsNear n (pos 0)
near-zero n = near-small n (pos 0) (omega (arith, ints), omega (arith, ints))

-- How large the numbers get.

pub near-copied : (n at : ℕ) (tables table : List ℤ) →
    ((l : ℕ) → l < length table → get_or table l (pos 0) ≡ get_or tables (at + l) (pos 0)) →
    AreNear n tables → AreNear n table
near-copied n at tables table e h l = elim (cases_lt l (length table)) [
  | inl b ↦ rw (e l b) (h (at + l))
  | inr b ↦ rw (get_or_past table l (pos 0) b) (near-zero n)
]

-- the same, where only what is copied is near
pub near-copied-from : (n at : ℕ) (tables table : List ℤ) →
    ((l : ℕ) → l < length table → get_or table l (pos 0) ≡ get_or tables (at + l) (pos 0)) →
    ((l : ℕ) → l < length table → IsNear n (get_or tables (at + l) (pos 0))) → AreNear n table
near-copied-from n at tables table e h l = elim (cases_lt l (length table)) [
  | inl b ↦ rw (e l b) (h l b)
  | inr b ↦ rw (get_or_past table l (pos 0) b) (near-zero n)
]

pub near-layer : (n m at : ℕ) (old new table : List ℤ) → n ≤ m → AreNear n old → AreNear m table →
    ((l : ℕ) → l < length table → get_or new (at + l) (pos 0)
    ≡ int_max (get_or old (at + l) (pos 0)) (get_or table l (pos 0))) →
    ((i : ℕ) → (i < at) ⊎ (at + length table ≤ i) → get_or new i (pos 0) ≡ get_or old i (pos 0)) →
    AreNear m new
near-layer n m at old new table w h k here other i = elim (cases_lt i at) [
  | inl b ↦ rw (other i (inl b)) (near-wider n m (get_or old i (pos 0)) w (h i))
  | inr b ↦ elim (cases_lt i (at + length table)) [
    | inl c ↦ (let e : at + (i - at) ≡ i = omega arith in
        let f : get_or new (at + (i - at)) (pos 0)
        ≡ int_max (get_or old (at + (i - at)) (pos 0)) (get_or table (i - at) (pos 0)) =
        here (i - at) (omega arith) in
        let g : IsNear m (int_max (get_or old i (pos 0)) (get_or table (i - at) (pos 0))) =
        near-max m (get_or old i (pos 0)) (get_or table (i - at) (pos 0))
        (near-wider n m (get_or old i (pos 0)) w (h i)) (k (i - at)) in
        subst (λ z. IsNear m z) (sym (rw e at f)) g)
    | inr c ↦ rw (other i (inr c)) (near-wider n m (get_or old i (pos 0)) w (h i))
  ]
]

-- One layer more is copied from other layers. It is as near as what it is copied from.
pub copied-near : (n t width apart : ℕ) (old new from : List ℤ) →
    ((l : ℕ) → l < width → IsNear n (get_or from (t * apart + l) (pos 0))) →
    ((i : ℕ) → i < t * width → IsNear n (get_or old i (pos 0))) →
    ((l : ℕ) → l < width →
    get_or new (t * width + l) (pos 0) ≡ get_or from (t * apart + l) (pos 0)) →
    ((i : ℕ) → (i < t * width) ⊎ (t * width + width ≤ i) →
    get_or new i (pos 0) ≡ get_or old i (pos 0)) →
    (i : ℕ) → i < suc t * width → IsNear n (get_or new i (pos 0))
copied-near n t width apart old new from k h here other i b = elim (cases_lt i (t * width)) [
  | inl c ↦ rw (other i (inl c)) (h i c)
  | inr c ↦ (let l = i - t * width in
      let e : t * width + l ≡ i = omega arith in
      let f : get_or new (t * width + l) (pos 0) ≡ get_or from (t * apart + l) (pos 0) =
      here l (omega arith) in
      subst (λ z. IsNear n z) (sym (rw e at f)) (k l (omega arith)))
]

at-once : (t l : ℕ) → t * 0 + l ≡ l
at-once t l = omega arith

-- one table in one layer more: it is copied from layers that all lie at the table
pub near-put : (n t : ℕ) (old new table : List ℤ) → AreNear n table →
    ((i : ℕ) → i < t * length table → IsNear n (get_or old i (pos 0))) →
    ((l : ℕ) → l < length table →
    get_or new (t * length table + l) (pos 0) ≡ get_or table l (pos 0)) →
    ((i : ℕ) → (i < t * length table) ⊎ (t * length table + length table ≤ i) →
    get_or new i (pos 0) ≡ get_or old i (pos 0)) →
    (i : ℕ) → i < suc t * length table → IsNear n (get_or new i (pos 0))
near-put n t old new table k h here other =
    copied-near n t (length table) 0 old new table
    (λ l b. subst (λ z. IsNear n (get_or table z (pos 0))) (sym (at-once t l)) (k l)) h
    (λ l b. here l b ∙ ap (λ z. get_or table z (pos 0)) (sym (at-once t l))) other

-- all layers
pub near-all : (n : ℕ) (tables : List ℤ) →
    ((i : ℕ) → i < length tables → IsNear n (get_or tables i (pos 0))) → AreNear n tables
near-all n tables h i = elim (cases_lt i (length tables)) [
  | inl b ↦ h i b
  | inr b ↦ rw (get_or_past tables i (pos 0) b) (near-zero n)
]

-- One layer more is copied, behind those that were.
pub copied-more : (t width apart : ℕ) (old new from : List ℤ) →
    ((s : ℕ) → s < t → (i : ℕ) → i < width →
    get_or old (s * width + i) (pos 0) ≡ get_or from (s * apart + i) (pos 0)) →
    ((l : ℕ) → l < width →
    get_or new (t * width + l) (pos 0) ≡ get_or from (t * apart + l) (pos 0)) →
    ((i : ℕ) → (i < t * width) ⊎ (t * width + width ≤ i) →
    get_or new i (pos 0) ≡ get_or old i (pos 0)) →
    (s : ℕ) → s < suc t → (i : ℕ) → i < width →
    get_or new (s * width + i) (pos 0) ≡ get_or from (s * apart + i) (pos 0)
copied-more t width apart old new from before here other s h i b = elim (cases_lt s t) [
  | inl q ↦ (let m : suc s * width ≤ t * width = mul-le-mul_right width (omega arith) in
      other (s * width + i) (inl (omega arith)) ∙ before s q i b)
  | inr q ↦ (let z : t ≡ s = omega arith in
      subst (λ z. get_or new (z * width + i) (pos 0) ≡ get_or from (z * apart + i) (pos 0)) z
      (here i b))
]

-- One table in more and more layers.
pub spread-more : (t width : ℕ) (old new table : List ℤ) → length table ≡ width →
    ((s : ℕ) → s < t → (i : ℕ) → i < width →
    get_or old (s * width + i) (pos 0) ≡ get_or table i (pos 0)) →
    ((l : ℕ) → l < length table → get_or new (t * width + l) (pos 0) ≡ get_or table l (pos 0)) →
    ((i : ℕ) → (i < t * width) ⊎ (t * width + length table ≤ i) →
    get_or new i (pos 0) ≡ get_or old i (pos 0)) →
    (s : ℕ) → s < suc t → (i : ℕ) → i < width →
    get_or new (s * width + i) (pos 0) ≡ get_or table i (pos 0)
spread-more t width old new table e before here other s h i b =
    let one : (s i : ℕ) → get_or table (s * 0 + i) (pos 0) ≡ get_or table i (pos 0) =
    (λ s i. ap (λ z. get_or table z (pos 0)) (at-once s i)) in
    copied-more t width 0 old new table (λ s h i b. before s h i b ∙ sym (one s i))
    (λ l b. here l (omega arith) ∙ sym (one t l))
    (λ i b. other i (wider i b)) s h i b ∙ one s i
  where
    wider : (i : ℕ) → (i < t * width) ⊎ (t * width + width ≤ i) →
        (i < t * width) ⊎ (t * width + length table ≤ i)
    wider i (inl b) = inl b
    wider i (inr b) = inr (omega arith)

-- The layers from the last down: those from t on are done, the others are as at first.
module _ (rest : List Order) (prices : List ℤ) (before after : ℕ → Bool) (colour layers width : ℕ)
    (next : IsNextColour rest before after colour) (start : List ℤ)
    (layered : AreLayers before rest prices layers width start) where
  abbrev pub Done : ℕ → List ℤ → Type 0
  Done t tables =
      (s : ℕ) → t ≤ s → s < layers →
      IsTable after [] s rest prices width
      (λ l. cell tables (s * width + l))

  abbrev pub Old : ℕ → List ℤ → Type 0
  Old t tables = (i : ℕ) → i < t * width → get_or tables i (pos 0) ≡ get_or start i (pos 0)

  inside : (s t l : ℕ) → s < t → l < width → s * width + l < t * width
  inside s t l h b =
      let m : suc s * width ≤ t * width = mul-le-mul_right width (omega arith) in omega arith

  pub old-layer : (t : ℕ) (tables : List ℤ) → Old t tables → (s : ℕ) → s < t → s < layers →
      IsTable before [] s rest prices width
      (λ l. cell tables (s * width + l))
  old-layer t tables o s h k l b =
      subst (λ x. IsBest before [] s rest prices l (found x))
      (sym (o (s * width + l) (inside s t l h b))) (layered s k l b)

  pub done-more : (t : ℕ) (tables new : List ℤ) → t < layers → Done (suc t) tables →
      IsTable after [] t rest prices width
      (λ l. cell new (t * width + l)) →
      ((i : ℕ) → (i < t * width) ⊎ (t * width + width ≤ i) →
      get_or new i (pos 0) ≡ get_or tables i (pos 0)) → Done t new
  done-more t tables new h d here other s a b l c = elim (eq-or-lt_of_le {n = t} {m = s} a) [
    | inl e ↦ subst (λ z. IsBest after [] z rest prices l
        (cell new (z * width + l))) e (here l c)
    | inr e ↦ (let m : suc t * width ≤ s * width = mul-le-mul_right width (omega arith) in
        subst (λ x. IsBest after [] s rest prices l (found x))
        (sym (other (s * width + l) (inr (omega arith)))) (d s (omega arith) b l c))
  ]

  pub done-last : (tables : List ℤ) (t : ℕ) → t ≤ 1 → Done t tables → Old t tables →
      AreLayers after rest prices layers width tables
  done-last tables t h d o s a l b = elim (cases_lt s t) [
    | inl e ↦ (let z : s ≡ 0 = omega arith in
        let f : IsBest before [] s rest prices l
        (cell tables (s * width + l)) = old-layer t tables o s e a l b in
        layer-keep rest before after [] colour next
        refl prices s l (cell tables (s * width + l)) z f)
    | inr e ↦ d s e a l b
  ]

  -- one layer more from above
  pub done-raised : (top t : ℕ) → suc t ≡ top → 1 ≤ t → top ≤ layers → (tables new : List ℤ) →
      Done top tables → Old top tables →
      ((k : ℕ) → suc k ≡ t →
      IsTable before [] k rest prices width
      (λ l. cell tables ((t - 1) * width + l)) →
      IsTable before [] (suc k) rest prices width
      (λ l. cell tables (t * width + l)) →
      IsTable after [] (suc k) rest prices width
      (λ l. cell new (t * width + l))) →
      ((i : ℕ) → (i < t * width) ⊎ (t * width + width ≤ i) →
      get_or new i (pos 0) ≡ get_or tables i (pos 0)) → Done t new
  done-raised top t e h k tables new d o best other =
      let s : suc (t - 1) ≡ t = omega arith in
      let d' : Done (suc t) tables = subst (λ z. Done z tables) (sym e) d in
      done-more t tables new (omega arith) d'
      (subst (λ z. IsTable after [] z rest prices width
      (λ l. cell new (t * width + l))) s
      (best (t - 1) s (old-layer top tables o (t - 1) (omega arith) (omega arith))
      (subst (λ z. IsTable before [] z rest prices width
      (λ l. cell tables (t * width + l))) (sym s)
      (old-layer top tables o t (omega arith) (omega arith))))) other
