-- The least slacks of keys are those of both halves, one behind the other. Layers for some keys
-- serve each of them, where all of these have the same colours to come.
use Rattle.std.proofs.Common.{ℕ, zero, suc, ◌+◌, ◌-◌, ◌*◌, ◌/◌, ◌^◌, ◌<◌, ◌≤◌, ◌≡◌, ◌∙◌, Bool, not}
use Rattle.std.proofs.Common.{List, [], ◌++◌}
use Rattle.std.proofs.Common.{length, length-append, get_or, ℤ, pos, mul-le-mul_left}
use Rattle.std.proofs.Common.{mul-le-mul_right}
use Rattle.std.proofs.Common.{pow-suc}
use Rattle.std.proofs.Common.{sym, ap, subst, arith, inl, inr, get_or-append-add}
use Rattle.std.proofs.lemmas.Bool.{cases_lt}
use Rattle.std.proofs.lemmas.List.{get_or_append_left}
use Rattle.mill_model.specs.declared.order.Order.{Order}
use Rattle.set_minima.specs.Joins.{IsSlab}
use Rattle.std.specs.List.{All}
use Rattle.set_minima.specs.Packs.{IsBest, colour_at}
use Rattle.set_minima.proofs.OneOrder.{best-allowed}
use Rattle.set_minima.specs.Cells.{cell, found, IsSmall, IsNear, AreNear, AreNearTo, slack_limit}
use Rattle.least_slacks.specs.Later.{AreLayersOf, others_of}
use Rattle.least_slacks.specs.Parts.{IsFilled, IsFor, NameTheSame, drift, out_of}
use Rattle.least_slacks.specs.declared.later_orders.LaterOrders.{LaterOrders}
use Rattle.least_slacks.specs.declared.parts.Shape.{Shape}
use Rattle.set_minima.proofs.CellNumbers.{near-wider}
use Rattle.least_slacks.specs.Keys.{AreLeast, HasColours, no_key}
use Rattle.least_slacks.specs.declared.key.Key.{Key}
use Rattle.least_slacks.specs.declared.limits.SlabLimits.{SlabLimits}

-- what stands behind a list
pub behind : {X : Type 0} (xs ys : List X) (i j : ℕ) (d : X) → length xs + j ≡ i →
    get_or (xs ++ ys) i d ≡ get_or ys j d
behind xs ys i j d e =
    ap (λ k. get_or (xs ++ ys) k d) (sym e) ∙ get_or-append-add xs ys j d

module _ (limits : SlabLimits) (rest : List Order) (prices : List ℤ) (low high : List Key)
    (a b : List ℤ) (first : AreLeast limits rest prices low a)
    (second : AreLeast limits rest prices high b) where
  pub least-append : AreLeast limits rest prices (low ++ high) (a ++ b)
  least-append =
      let both = length-append low high in
      let all = length-append a b in
      record {
        long = omega (arith, both, all, first.long, second.long);
        small = λ i h own has. elim (cases_lt i (length low)) [
          | inl l ↦ (let n : i < length a = omega (arith, first.long) in
              subst (λ x. IsSmall slack_limit x)
              (sym (get_or_append_left a b (pos 0) i n)) (first.small i l own
              (subst (λ (key : Key). HasColours rest key own)
              (get_or_append_left low high no_key i l) has)))
          | inr l ↦ (let j = i - length low in
              let e : length low + j ≡ i = omega arith in
              let f : length a + j ≡ i = omega (arith, first.long) in
              subst (λ x. IsSmall slack_limit x) (sym (behind a b i j (pos 0) f))
              (second.small j (omega (arith, both)) own
              (subst (λ (key : Key). HasColours rest key own) (behind low high i j no_key e)
              has)))
        ];
        least = λ i h own group has slab. elim (cases_lt i (length low)) [
          | inl l ↦ (let n : i < length a = omega (arith, first.long) in
              let k = get_or_append_left low high no_key i l in
              get_or_append_left a b (pos 0) i n ∙ first.least i l own group
              (subst (λ (key : Key). HasColours rest key own) k has)
              (subst (λ (key : Key). IsSlab group key.load own) k slab))
          | inr l ↦ (let j = i - length low in
              let e : length low + j ≡ i = omega arith in
              let f : length a + j ≡ i = omega (arith, first.long) in
              let k = behind low high i j no_key e in
              behind a b i j (pos 0) f ∙ second.least j (omega (arith, both)) own group
              (subst (λ (key : Key). HasColours rest key own) k has)
              (subst (λ (key : Key). IsSlab group key.load own) k slab))
        ];
      }

-- Tables in the front of others.
pub product : (a b x y : ℕ) → a ≤ x → b ≤ y → a * b ≤ x * y
product a b x y h k =
    let p : a * b ≤ x * b = mul-le-mul_right b h in
    let q : x * b ≤ x * y = mul-le-mul_left x k in
    omega arith

pub layers-in-front : (later : LaterOrders) (allowed : ℕ → Bool) (layers width : ℕ)
    (front behind : List ℤ) → length front ≡ layers * width →
    AreLayersOf later allowed layers width front →
    AreLayersOf later allowed layers width (front ++ behind)
layers-in-front later allowed layers width front behind long p t a l b =
    let m : suc t * width ≤ layers * width = mul-le-mul_right width a in
    subst (λ x. IsBest allowed [] t later.rest.now later.prices.now l (found x))
    (sym (get_or_append_left front behind (pos 0) (t * width + l) (omega arith))) (p t a l b)

pub near-in-front : (n whole : ℕ) (front behind : List ℤ) → length front ≡ whole →
    AreNear n front → AreNearTo n whole (front ++ behind)
near-in-front n whole front behind long near l b =
    subst (λ x. IsNear n x) (sym (get_or_append_left front behind (pos 0) l (omega arith))) (near l)

-- Layers that leave out the colours of keys with the same colours serve each of these.
pub all-served : (limits : SlabLimits) (later : LaterOrders) (keys : List Key) (levels : ℕ)
    (shape : Shape) (reach : List ℕ) (tables : List ℤ) →
    IsFilled limits later keys shape reach tables →
    AreNearTo (drift levels) (shape.layers * shape.width) tables → NameTheSame limits.most keys →
    All (IsFor limits later shape tables) keys
all-served limits later keys levels shape reach tables filled near same k d h = record {
  narrow = filled.narrow;
  inside = filled.inside;
  near = λ l b.
      near-wider (drift levels) 200000000000000000 (get_or tables l (pos 0)) (omega arith)
      (near l b);
  serves = λ few. filled.serves k d h few;
  filled = λ few t a l b.
      best-allowed later.rest.now later.prices.now
      (others_of later (out_of limits.most keys)) (others_of later (get_or keys k d).coming) [] t l
      (cell tables (t * shape.width + l))
      (λ i q. ap not (same k d h few (colour_at later.rest.now i)))
      (filled.filled t a l b);
}

-- How often keys can be halved.
pub some-levels : (levels n : ℕ) → 1 < n → n ≤ 2 ^ levels → 0 < levels
some-levels zero n h k = absurd (omega arith)
some-levels (suc levels) n h k = omega arith

pub half-each : (levels n : ℕ) → 1 < n → n ≤ 2 ^ levels →
    (n / 2 ≤ 2 ^ (levels - 1)) × (n - n / 2 ≤ 2 ^ (levels - 1))
half-each zero n h k = absurd (omega arith)
half-each (suc levels) n h k =
    let e : 2 ^ suc levels ≡ 2 ^ levels * 2 = pow-suc 2 levels in
    let s : suc levels - 1 ≡ levels = omega arith in
    rw s (omega (arith, e), omega (arith, e))

pub one-less : (n size : ℕ) → 0 < n → n * size ≡ (n - 1) * size + size
one-less zero size h = absurd (omega arith)
one-less (suc n) size h = let s : suc n - 1 ≡ n = omega arith in rw s (omega arith)
