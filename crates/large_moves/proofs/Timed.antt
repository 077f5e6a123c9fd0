-- Times of slabs: what a change and a row that was closed leave of the pairs that need no try.
use Rattle.std.proofs.Common.{ℕ, ◌+◌, ◌<◌, ◌≤◌, ◌≡◌, ◌≢◌, ◌⊎◌, true, false, List, length}
use Rattle.std.proofs.Common.{get_or, set, leb, Option, Some, None, refl, sym, ap, ◌∙◌}
use Rattle.std.proofs.Common.{arith, inl, inr, subst, leb-true, ◌&&◌, get_or-set_same}
use Rattle.std.proofs.Common.{get_or-set_other, le-leb}
use Rattle.std.proofs.lemmas.Bool.{cases_eq}
use Rattle.std.proofs.lemmas.List.{length-set}
use Rattle.mill_model.specs.Pairs.{closed_pair, pairs_with}
use Rattle.mill_model.specs.declared.order.Order.{Order}
use Rattle.list_laws.proofs.Tests.{and-left, and-right}
use Rattle.large_moves.specs.Laid.{Laid, SameOrders, StayElsewhere}
use Rattle.large_moves.specs.Scans.{is_pair, AreClosed, AreTimesOf}
use Rattle.large_moves.specs.Times.{Times, AreTimes, IsElsewhere, closed_at, changed_at, is_since}
use Rattle.large_moves.specs.Times.{needs_none}
use Rattle.large_moves.proofs.Elsewhere.{same-pair, same-closed}
use Rattle.large_moves.proofs.Scanned.{closed-in-row}

module _ (times : Times) (are : AreTimes times) where
  -- a change of two slabs by one try
  module _ (left a c : ℕ) (spent : left + 1 ≡ times.left) (a_in : a < length times.changed)
      (c_in : c < length times.changed) where
    abbrev changed : List ℕ
    changed = set (set times.changed a left) c left

    late : (time s : ℕ) → left < time → time ≤ get_or changed s 0 →
        ((s ≢ a) × (s ≢ c)) × (time ≤ changed_at times s)
    late time s behind before = elim (cases_eq s c) [
      | inl e ↦ (let is : get_or changed s 0 ≡ left = ap (λ k. get_or changed k 0) e
          ∙ get_or-set_same (set times.changed a left) c left 0
          (let long = length-set times.changed a left in omega (arith, long, c_in)) in
          absurd (omega (arith, is, behind, before)))
      | inr n ↦ (let above : get_or changed s 0 ≡ get_or (set times.changed a left) s 0 =
          get_or-set_other (set times.changed a left) c s left 0 n in
          elim (cases_eq s a) [
            | inl e ↦ (let is : get_or (set times.changed a left) s 0 ≡ left =
                ap (λ k. get_or (set times.changed a left) k 0) e
                ∙ get_or-set_same times.changed a left 0 a_in in
                absurd (omega (arith, is, above, behind, before)))
            | inr m ↦ (let stays : get_or (set times.changed a left) s 0
                ≡ get_or times.changed s 0 = get_or-set_other times.changed a s left 0 m in
                ((m, n), omega (arith, stays, above, before)))
          ])
    ]

    pub changed-elsewhere : (x y : ℕ) → needs_none (record {
      left = left;
      changed = set (set times.changed a left) c left;
      closed = times.closed;
    }) x y ≡ true → IsElsewhere times a c x y
    changed-elsewhere x y = go (closed_at times x) refl
      where
        go : (at : Option ℕ) → closed_at times x ≡ at →
            (is_since (closed_at times x) (get_or changed x 0)
            && is_since (closed_at times x) (get_or changed y 0)) ≡ true →
            IsElsewhere times a c x y
        go None e h = absurd (never (rw e at h))
          where
            never : false ≡ true → ⊥
            never q = absurd (cc)
        go (Some time) e h =
            let past = are.past x time e in
            let known : (leb time (get_or changed x 0) && leb time (get_or changed y 0)) ≡ true =
            rw e at h in
            let one = late time x (omega (arith, past, spent)) (leb-true _ _ (and-left
            (leb time (get_or changed x 0)) (leb time (get_or changed y 0)) known)) in
            let other = late time y (omega (arith, past, spent)) (leb-true _ _ (and-right
            (leb time (get_or changed x 0)) (leb time (get_or changed y 0)) known)) in
            record {
              needs = rw (e, le-leb _ _ one.1, le-leb _ _ other.1) refl;
              first = one.0;
              second = other.0;
            }

  -- a row that was closed
  pub closed-rows : (left a x y : ℕ) → needs_none (record {
    left = left;
    changed = times.changed;
    closed = set times.closed a (Some left);
  }) x y ≡ true → (x ≡ a) ⊎ (needs_none times x y ≡ true)
  closed-rows left a x y h = elim (cases_eq x a) [
    | inl e ↦ inl e
    | inr n ↦ inr (subst (λ at. (is_since at (changed_at times x)
        && is_since at (changed_at times y)) ≡ true)
        (get_or-set_other times.closed a x (Some left) None n) h)
  ]

-- as many slabs are told of behind a change
pub changed-length : (changed : List ℕ) (a c left : ℕ) {new : List ℕ} →
    new ≡ set (set changed a left) c left → length new ≡ length changed
changed-length changed a c left e =
    ap length e ∙ length-set (set changed a left) c left ∙ length-set changed a left

-- at first each pair needs a try
pub first-times : (charge : ℕ → ℕ) (laid : Laid) (times : Times) →
    length times.changed ≡ length laid.orders → ((x y : ℕ) → needs_none times x y ≡ false) →
    AreTimesOf charge laid times
first-times charge laid times long none = record {
  slabs = long;
  closed = λ x y y_in pair needs. absurd (never (sym (none x y) ∙ needs));
}
  where
    never : false ≡ true → ⊥
    never q = absurd (cc)

-- the times of laid orders, and later ones
module _ (charge : ℕ → ℕ) (laid : Laid) (times later : Times) where
  pub row-times : AreTimesOf charge laid times → (a n : ℕ) → length laid.orders ≤ n →
      AreClosed charge laid (pairs_with laid.plan a n) →
      later.changed ≡ times.changed →
      ((x y : ℕ) → needs_none later x y ≡ true → (x ≡ a) ⊎ (needs_none times x y ≡ true)) →
      AreTimesOf charge laid later
  row-times are a n whole row changed rows = record {
    slabs = ap length changed ∙ are.slabs;
    closed = λ x y y_in pair needs. elim (rows x y needs) [
      | inl e ↦ subst (λ k. closed_pair laid.mill charge laid.orders laid.plan k y ≡ true) (sym e)
          (closed-in-row charge laid a y n row (omega (arith, y_in, whole))
          (subst (λ k. is_pair laid.plan k y ≡ true) e pair))
      | inr before ↦ are.closed x y y_in pair before
    ];
  }

  pub changed-times : AreTimesOf charge laid times → (new : Laid) → SameOrders laid new →
      (a c : ℕ) → StayElsewhere a c laid.plan new.plan →
      length later.changed ≡ length times.changed →
      ((x y : ℕ) → needs_none later x y ≡ true → IsElsewhere times a c x y) →
      AreTimesOf charge new later
  changed-times are new same a c stay long elsewhere = record {
    slabs = long ∙ are.slabs ∙ sym (ap length same.orders);
    closed = λ x y y_in pair needs.
        (let at = elsewhere x y needs in
        let before = are.closed x y (subst (λ (orders : List Order). y < length orders)
        same.orders y_in) (sym (same-pair a c laid.plan new.plan stay x y at.first at.second)
        ∙ pair) at.needs in
        subst (λ mill. closed_pair mill charge new.orders new.plan x y ≡ true) (sym same.mill)
        (subst (λ orders. closed_pair laid.mill charge orders new.plan x y ≡ true)
        (sym same.orders) (same-closed a c laid.plan new.plan stay x y at.first at.second
        laid.mill charge laid.orders ∙ before)));
  }
