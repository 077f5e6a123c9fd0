-- What the greatest but for one or two rows are, from what the code compares.
use Rattle.std.proofs.Common.{ℕ, ◌+◌, ◌*◌, ◌<◌, ◌≤◌, ◌≡◌, List, length, ℤ, pos, sym, subst, arith}
use Rattle.std.specs.Int.{int_max}
use Rattle.colour_tables.specs.Entries.{entry}
use Rattle.set_minima.specs.Cells.{IsNear, AreNear}
use Rattle.colour_tables.specs.Threes.{IsButOne, IsButTwo, row_entry, column}
use Rattle.colour_tables.specs.Rowed.{IsShaped}
use Rattle.colour_tables.specs.declared.colour_rows.Rows.{Rows}
use Rattle.set_minima.proofs.CellNumbers.{near-max}
use Rattle.colour_tables.proofs.NearNumbers.{three-near, AreThreeNear, one-near, two-near, all-near}
use Rattle.colour_tables.specs.Entries.{row_limit}

pub one-from : (n : ℕ) (best best' second second' row to : List ℤ) (f : ℕ → ℤ) → best' ≡ best →
    second' ≡ second → ((l : ℕ) → l < n → entry row l ≡ f l) → ((l : ℕ) → 0 < l → l < n →
    IsButOne (entry row l) (entry best' l) (entry second' l) (entry to l)) → (l : ℕ) → 0 < l →
    l < n → IsButOne (f l) (entry best l) (entry second l) (entry to l)
one-from n best best' second second' row to f p q r e l a b =
    subst (λ x. IsButOne x (entry best l) (entry second l) (entry to l)) (r l b)
    (subst (λ (xs : List ℤ). IsButOne (entry row l) (entry xs l) (entry second l) (entry to l)) p
    (subst (λ (xs : List ℤ). IsButOne (entry row l) (entry best' l) (entry xs l) (entry to l)) q
    (e l a b)))

pub one-or-from : (n : ℕ) (best best' second second' row z to : List ℤ) (f : ℕ → ℤ) →
    best' ≡ best → second' ≡ second → ((l : ℕ) → l < n → entry row l ≡ f l) →
    ((l : ℕ) → 0 < l → l < n → (w : ℤ)
    × IsButOne (entry row l) (entry best' l) (entry second' l) w
    × (entry to l ≡ int_max w (entry z l))) → (l : ℕ) → 0 < l → l < n → (w : ℤ)
    × IsButOne (f l) (entry best l) (entry second l) w × (entry to l ≡ int_max w (entry z l))
one-or-from n best best' second second' row z to f p q r e l a b =
    let t = e l a b in (
      t.0,
      subst (λ x. IsButOne x (entry best l) (entry second l) t.0) (r l b)
          (subst (λ (xs : List ℤ). IsButOne (entry row l) (entry xs l) (entry second l) t.0) p
          (subst (λ (xs : List ℤ). IsButOne (entry row l) (entry best' l) (entry xs l) t.0) q
          t.1)),
      t.2,
    )

pub two-from : (n : ℕ) (best best' second second' third third' row row' z to : List ℤ)
    (f g : ℕ → ℤ) → best' ≡ best → second' ≡ second → third' ≡ third →
    ((l : ℕ) → l < n → entry row l ≡ f l) → ((l : ℕ) → l < n → entry row' l ≡ g l) →
    ((l : ℕ) → 0 < l → l < n → (w : ℤ)
    × IsButTwo (entry row l) (entry row' l) (entry best' l) (entry second' l) (entry third' l) w
    × (entry to l ≡ int_max w (entry z l))) → (l : ℕ) → 0 < l → l < n → (w : ℤ)
    × IsButTwo (f l) (g l) (entry best l) (entry second l) (entry third l) w
    × (entry to l ≡ int_max w (entry z l))
two-from n best best' second second' third third' row row' z to f g p q s r r' e l a b =
    let t = e l a b in (
      t.0,
      subst (λ x. IsButTwo x (g l) (entry best l) (entry second l) (entry third l) t.0) (r l b)
          (subst (λ x. IsButTwo (entry row l) x (entry best l) (entry second l) (entry third l) t.0)
          (r' l b)
          (subst (λ (xs : List ℤ). IsButTwo (entry row l) (entry row' l) (entry xs l)
          (entry second l) (entry third l) t.0) p
          (subst (λ (xs : List ℤ). IsButTwo (entry row l) (entry row' l) (entry best' l)
          (entry xs l) (entry third l) t.0) q
          (subst (λ (xs : List ℤ). IsButTwo (entry row l) (entry row' l) (entry best' l)
          (entry second' l) (entry xs l) t.0) s
          t.1)))),
      t.2,
    )

module _ (t : Rows) (shaped : IsShaped t) where
  -- the three greatest are near
  tops-near : (l : ℕ) → 0 < l → l < t.width →
      AreThreeNear row_limit (column t.best.items t.second.items t.third.items l)
  tops-near l a b =
      subst (AreThreeNear row_limit) (sym (shaped.tops l a b))
      (three-near row_limit (row_entry t.rows.items t.width l) t.present.items
      (λ c. shaped.near (c * t.width + l)))

  pub picked-near : (n : ℕ) (f : ℕ → ℤ) (to : List ℤ) → length to ≤ t.width →
      entry to 0 ≡ pos 0 → ((l : ℕ) → 0 < l → l < length to →
      IsButOne (f l) (entry t.best.items l) (entry t.second.items l) (entry to l)) →
      AreNear row_limit to
  picked-near n f to w first e =
      all-near row_limit to first (λ l a b.
      let k = tops-near l a (omega arith) in
      one-near row_limit (f l) (entry t.best.items l) (entry t.second.items l) (entry to l)
      k.best k.second (e l a b))

  pub picked-or-near : (f : ℕ → ℤ) (z to : List ℤ) → length to ≤ t.width →
      entry to 0 ≡ pos 0 → AreNear row_limit z → ((l : ℕ) → 0 < l → l < length to → (w : ℤ)
      × IsButOne (f l) (entry t.best.items l) (entry t.second.items l) w
      × (entry to l ≡ int_max w (entry z l))) → AreNear row_limit to
  picked-or-near f z to w first near e =
      all-near row_limit to first (λ l a b.
      let k = tops-near l a (omega arith) in
      let r = e l a b in
      subst (IsNear row_limit) (sym r.2) (near-max row_limit r.0 (entry z l)
      (one-near row_limit (f l) (entry t.best.items l) (entry t.second.items l) r.0
      k.best k.second r.1) (near l)))

  pub picked-two-near : (f g : ℕ → ℤ) (z to : List ℤ) → length to ≤ t.width →
      entry to 0 ≡ pos 0 → AreNear row_limit z → ((l : ℕ) → 0 < l → l < length to → (w : ℤ)
      × IsButTwo (f l) (g l) (entry t.best.items l) (entry t.second.items l)
      (entry t.third.items l) w
      × (entry to l ≡ int_max w (entry z l))) → AreNear row_limit to
  picked-two-near f g z to w first near e =
      all-near row_limit to first (λ l a b.
      let k = tops-near l a (omega arith) in
      let r = e l a b in
      subst (IsNear row_limit) (sym r.2) (near-max row_limit r.0 (entry z l)
      (two-near row_limit (f l) (g l) (entry t.best.items l) (entry t.second.items l)
      (entry t.third.items l) r.0 k.best k.second k.third r.1) (near l)))

  pub best-near : AreNear row_limit t.best.items
  best-near =
      all-near row_limit t.best.items shaped.first (λ l a b.
      let n : length t.best.items ≡ t.width = shaped.best in (tops-near l a (omega arith)).best)
