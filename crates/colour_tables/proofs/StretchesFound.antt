-- The stretches of the colours, found one after another.
use Rattle.std.proofs.Common.{ℕ, zero, suc, ◌<◌, ◌≤◌, ◌≡◌, ◌≢◌, List, [], ◌∷◌, ◌++◌, length, get_or}
use Rattle.std.proofs.Common.{refl, sym, ap, ◌∙◌, subst, arith, inl, inr}
use Rattle.std.proofs.lemmas.Bool.{cases_lt}
use Rattle.colour_tables.specs.Stretches.{coloured_at, stretch_at, IsStretch, AreStretches}
use Rattle.colour_tables.specs.declared.by_colour.Coloured.{Coloured}

-- a stretch ends where its colour does, since colours rise
pub stretch-from : (sorted : List Coloured) → ((s t : ℕ) → s ≤ t → t < length sorted →
    (coloured_at sorted s).colour ≤ (coloured_at sorted t).colour) → (at end : ℕ) →
    at < end → end ≤ length sorted → ((s : ℕ) → s < at →
    (coloured_at sorted s).colour < (coloured_at sorted at).colour) →
    ((t : ℕ) → at ≤ t → t < end → (coloured_at sorted t).colour ≡ (coloured_at sorted at).colour) →
    (end < length sorted → (coloured_at sorted end).colour ≢ (coloured_at sorted at).colour) →
    IsStretch sorted at end
stretch-from sorted rise at end some ends before alike other = record {
  some = some;
  ends = ends;
  alike = alike;
  before = before;
  after = λ t a b.
      let n : (coloured_at sorted end).colour ≢ (coloured_at sorted at).colour =
      other (omega arith) in
      let u : (coloured_at sorted at).colour ≤ (coloured_at sorted end).colour =
      rise at end (omega arith) (omega arith) in
      let v : (coloured_at sorted end).colour ≤ (coloured_at sorted t).colour = rise end t a b in
      omega arith;
}

-- before its end stand lesser colours than behind it
pub before-end : (sorted : List Coloured) (at end : ℕ) → IsStretch sorted at end →
    end < length sorted → (s : ℕ) → s < end →
    (coloured_at sorted s).colour < (coloured_at sorted end).colour
before-end sorted at end it l s h = elim (cases_lt s at) [
  | inl b ↦ (let u : (coloured_at sorted s).colour < (coloured_at sorted at).colour = it.before s b
      in
      let v : (coloured_at sorted at).colour < (coloured_at sorted end).colour =
      it.after end (omega arith) l in
      omega arith)
  | inr b ↦ (let u : (coloured_at sorted s).colour ≡ (coloured_at sorted at).colour =
      it.alike s b h in
      let v : (coloured_at sorted at).colour < (coloured_at sorted end).colour =
      it.after end (omega arith) l in
      omega arith)
]

pub no-stretch : (sorted : List Coloured) → AreStretches sorted 0 []
no-stretch sorted = record {
  each = λ c h. absurd (omega arith);
  below = λ c h. absurd (omega arith);
  rise = λ c d h k. absurd (omega arith);
  reach = λ t h. absurd (omega arith);
}

old-at : (ends : List (ℕ × ℕ)) (new : ℕ × ℕ) (c : ℕ) → c < length ends →
    stretch_at (ends ++ new ∷ []) c ≡ stretch_at ends c
old-at [] new c h = absurd (omega arith)
old-at (e ∷ ends) new zero h = refl
old-at (e ∷ ends) new (suc c) h = old-at ends new c (omega arith)

last-at : (ends : List (ℕ × ℕ)) (new : ℕ × ℕ) → stretch_at (ends ++ new ∷ []) (length ends) ≡ new
last-at [] new = refl
last-at (e ∷ ends) new = last-at ends new

long : (ends : List (ℕ × ℕ)) (new : ℕ × ℕ) → length (ends ++ new ∷ []) ≡ suc (length ends)
long [] new = refl
long (e ∷ ends) new = ap suc (long ends new)

-- one stretch more, where the others end
pub next-stretch : (sorted : List Coloured) (at end : ℕ) (ends now : List (ℕ × ℕ)) →
    now ≡ ends ++ (at, end) ∷ [] → AreStretches sorted at ends → IsStretch sorted at end →
    AreStretches sorted end now
next-stretch sorted at end ends now e s run =
    subst (λ z. AreStretches sorted end z) (sym e) (go s)
  where
    all : List (ℕ × ℕ)
    all = ends ++ (at, end) ∷ []

    go : AreStretches sorted at ends → AreStretches sorted end (ends ++ (at, end) ∷ [])
    go s =
        let n : length (ends ++ (at, end) ∷ []) ≡ suc (length ends) = long ends (at, end) in
        record {
          each = λ c h. elim (cases_lt c (length ends)) [
            | inl b ↦ subst (λ (z : ℕ × ℕ). IsStretch sorted z.0 z.1)
                (sym (old-at ends (at, end) c b)) (s.each c b)
            | inr b ↦ (let q : length ends ≡ c = omega arith in
                subst (λ k. IsStretch sorted (stretch_at (ends ++ (at, end) ∷ []) k).0
                (stretch_at (ends ++ (at, end) ∷ []) k).1) q
                (subst (λ (z : ℕ × ℕ). IsStretch sorted z.0 z.1) (sym (last-at ends (at, end)))
                run))
          ];
          below = λ c h. elim (cases_lt c (length ends)) [
            | inl b ↦ (let o : (stretch_at ends c).1 ≤ at = s.below c b in
                let l : at < end = run.some in
                subst (λ (z : ℕ × ℕ). z.1 ≤ end) (sym (old-at ends (at, end) c b)) (omega arith))
            | inr b ↦ (let q : length ends ≡ c = omega arith in
                subst (λ k. (stretch_at (ends ++ (at, end) ∷ []) k).1 ≤ end) q
                (subst (λ (z : ℕ × ℕ). z.1 ≤ end) (sym (last-at ends (at, end))) (omega arith)))
          ];
          rise = λ c d h k. elim (cases_lt d (length ends)) [
            | inl b ↦ (let l : c < length ends = omega arith in
                let o : (stretch_at ends c).1 ≤ (stretch_at ends d).0 = s.rise c d h b in
                let x : stretch_at (ends ++ (at, end) ∷ []) c ≡ stretch_at ends c =
                old-at ends (at, end) c l in
                let y : stretch_at (ends ++ (at, end) ∷ []) d ≡ stretch_at ends d =
                old-at ends (at, end) d b in
                rw (x, y) o)
            | inr b ↦ (let q : length ends ≡ d = omega arith in
                let l : c < length ends = omega arith in
                let o : (stretch_at ends c).1 ≤ at = s.below c l in
                let x : stretch_at (ends ++ (at, end) ∷ []) c ≡ stretch_at ends c =
                old-at ends (at, end) c l in
                rw x (subst (λ m. (stretch_at ends c).1 ≤ (stretch_at (ends ++ (at, end) ∷ []) m).0)
                q
                (subst (λ (z : ℕ × ℕ). (stretch_at ends c).1 ≤ z.0) (sym (last-at ends (at, end)))
                o)))
          ];
          reach = λ t h. elim (cases_lt t at) [
            | inl b ↦ (let r = s.reach t b in (
              r.0,
              (let l : r.0 < length ends = r.1 in omega arith),
              subst (λ (z : ℕ × ℕ). z.0 ≤ t) (sym (old-at ends (at, end) r.0 r.1)) r.2,
              subst (λ (z : ℕ × ℕ). t < z.1) (sym (old-at ends (at, end) r.0 r.1)) r.3,
            ))
            | inr b ↦ (
              length ends,
              omega arith,
              subst (λ (z : ℕ × ℕ). z.0 ≤ t) (sym (last-at ends (at, end))) b,
              subst (λ (z : ℕ × ℕ). t < z.1) (sym (last-at ends (at, end))) h,
            )
          ];
        }

-- no stretch is empty, so there are no more of them than orders
begins : (sorted : List Coloured) (upto : ℕ) (ends : List (ℕ × ℕ)) →
    AreStretches sorted upto ends → (c : ℕ) → c < length ends → c ≤ (stretch_at ends c).0
begins sorted upto ends s zero h = omega arith
begins sorted upto ends s (suc c) h =
    let b : c ≤ (stretch_at ends c).0 = begins sorted upto ends s c (omega arith) in
    let l : (stretch_at ends c).0 < (stretch_at ends c).1 = (s.each c (omega arith)).some in
    let r : (stretch_at ends c).1 ≤ (stretch_at ends (suc c)).0 =
    s.rise c (suc c) (omega arith) h in
    omega arith

pub few-stretches : (sorted : List Coloured) (ends : List (ℕ × ℕ)) →
    AreStretches sorted (length sorted) ends → length ends ≤ length sorted
few-stretches sorted ends s = go (length ends) refl
  where
    go : (n : ℕ) → length ends ≡ n → length ends ≤ length sorted
    go zero e = omega arith
    go (suc n) e =
        let b : n ≤ (stretch_at ends n).0 =
        begins sorted (length sorted) ends s n (omega arith) in
        let l : (stretch_at ends n).0 < (stretch_at ends n).1 = (s.each n (omega arith)).some in
        let r : (stretch_at ends n).1 ≤ length sorted = s.below n (omega arith) in
        omega arith

-- what stands at a place of a list of pairs
pub pair-is : (xs : List (ℕ × ℕ)) (i : ℕ) (d : ℕ × ℕ) → i < length xs → d ≡ get_or xs i d →
    d ≡ get_or xs i (0, 0)
pair-is xs i d h e = e ∙ same xs i h
  where
    same : (xs : List (ℕ × ℕ)) (i : ℕ) → i < length xs → get_or xs i d ≡ get_or xs i (0, 0)
    same [] i h = absurd (omega arith)
    same (x ∷ xs) zero h = refl
    same (x ∷ xs) (suc i) h = same xs i (omega arith)
