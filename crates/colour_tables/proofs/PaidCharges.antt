-- 60 times the charges of the loads from that of a slab on, and the room of the slab.
use Rattle.std.proofs.Common.{ℕ, zero, suc, ◌+◌, ◌-◌, ◌*◌, ◌≤◌, ◌≡◌, List, [], ◌∷◌, length, take}
use Rattle.std.proofs.Common.{drop, ℤ, pos, refl, ap, ◌∙◌, arith}
use Rattle.std.proofs.lemmas.List.{get_or-drop, get_or-take}
use Rattle.colour_tables.specs.Entries.{entry}
use Rattle.colour_tables.specs.Leasts.{AreCharged, IsRoom}

pub charged-from : (charge : ℕ → ℕ) (largest base n : ℕ) (paid xs : List ℤ) → xs ≡ paid →
    length paid ≡ largest + 1 → AreCharged charge 0 (largest + 1) paid → IsRoom largest base n →
    AreCharged charge base n (take (length xs - base) (drop base xs))
charged-from charge largest base n paid xs e long h room l b =
    let f : base ≤ largest = room.fits in
    let w : n ≡ suc (largest - base) = room.wide in
    let k : length xs ≡ largest + 1 = ap length e ∙ long in
    let z : 0 + (base + l) ≡ base + l = omega arith in
    get_or-take (length xs - base) (drop base xs) l (pos 0) (omega arith)
    ∙ get_or-drop base xs l (pos 0) ∙ ap (λ (ys : List ℤ). entry ys (base + l)) e
    ∙ h (base + l) (omega arith) ∙ ap (λ m. pos (60 * charge m)) z

take-long : (n : ℕ) (xs : List ℤ) → n ≤ length xs → length (take n xs) ≡ n
take-long zero xs h = refl
take-long (suc n) [] h = absurd (omega arith)
take-long (suc n) (x ∷ xs) h = ap suc (take-long n xs (omega arith))

-- the front of a table with a number for each load reaches to the room
pub room-of : (largest base : ℕ) (work : List ℤ) → base ≤ largest → length work ≡ largest + 1 →
    IsRoom largest base (length (take (largest - base + 1) work))
room-of largest base work h e = record {
  fits = h;
  wide =
      let n : length (take (largest - base + 1) work) ≡ largest - base + 1 =
      take-long (largest - base + 1) work (omega arith) in
      omega arith;
}
