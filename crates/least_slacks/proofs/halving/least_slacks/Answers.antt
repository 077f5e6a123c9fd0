-- The new slab is the last key: the prices are valid exactly where its least slack isn't below 0.
use Rattle.std.proofs.Common.{◌≡◌, ◌∙◌, ◌++◌, ◌∷◌, [], List, length, take, drop, ℕ, zero, suc, refl}
use Rattle.std.proofs.Common.{arith, rules, inl, inr, pos, ℤ}
use Rattle.std.proofs.Common.{int_le, int_lt, true, false, sym, ap, subst, get_or, SFits, w64}
use Rattle.std.proofs.Common.{to_z-of_z}
use Rattle.std.proofs.lemmas.Int.{ints}
use Rattle.std.proofs.lemmas.Bool.{cases_lt}
use Rattle.std.proofs.lemmas.List.{get_or_past}
use Rattle.least_slacks.proofs.ColoursCounted.{colours-of-orders}
use Rattle.set_minima.specs.Packs.{nobody}
use Rattle.least_slacks.specs.Keys.{AreLeast, new_slab}
use Rattle.least_slacks.specs.declared.key.Key.{Key}
use Rattle.least_slacks.proofs.NewSlab.{least-front, valid-last}
use Rattle.least_slacks.proofs.halving.least_slacks.Goals as goal

pub judge_all-requires-clause-later : goal.judge_all-requires-clause-later
judge_all-requires-clause-later c = record {
  few = c.requires.few;
  same = c.requires.same;
  orders = λ i h. (let w = (c.requires.orders i nobody h).0.0 in omega (arith, w));
  priced = λ i. elim (cases_lt i (length c.args.prices.now)) [
    | inl b ↦ c.requires.priced i (pos 0) b
    | inr b ↦ rw (get_or_past c.args.prices.now i (pos 0) b)
        (omega (arith, ints), omega (arith, ints))
  ];
  sorted = search rules;
  weighs = search rules;
  coloured =
      let a = colours-of-orders c.args.rest.now c.in_ok-items.items.items c.in_ok-items.ensures in
      let items : c.deref-2.result.now ≡ c.in_ok-items.items.items = search rules in
      let b = rw items at c.run_count.ensures in
      omega (arith, a, b);
}

front-of : (n : ℕ) (xs ys : List ℤ) → n ≡ length xs → take n (xs ++ ys) ≡ xs
front-of zero [] ys h = refl
front-of zero (x ∷ xs) ys h = absurd (omega arith)
front-of (suc n) [] ys h = absurd (omega arith)
front-of (suc n) (x ∷ xs) ys h = ap (λ (zs : List ℤ). x ∷ zs) (front-of n xs ys (omega arith))

negative : (x : ℤ) → int_lt x (pos 0) ≡ true → int_le (pos 0) x ≡ false
negative x h = grind (arith, ints)

not-negative : (x : ℤ) → int_lt x (pos 0) ≡ false → int_le (pos 0) x ≡ true
not-negative x h = grind (arith, ints)

pub returns-then-slack-lt0-clause-none : goal.returns-then-slack-lt0-clause-none
returns-then-slack-lt0-clause-none c =
    let keys = c.args.keys.now in
    let slacks = c.judge_all.new.slacks in
    let names : c.deref-3.result.now ≡ keys ++ new_slab ∷ [] = search rules in
    let all : AreLeast c.args.limits.now c.args.rest.now c.args.prices.now (keys ++ new_slab ∷ [])
    slacks = subst (λ (ks : List Key). AreLeast c.args.limits.now c.args.rest.now c.args.prices.now
    ks slacks) names c.judge_all.ensures in
    let f : SFits w64 c.slack_at-slack.result = search rules in
    let long : c.in_ok-slacks.slacks.len ≡ length slacks = search rules in
    let same : c.deref-4.result.now ≡ slacks =
    c.deref-4.ensures.value
    ∙ front-of c.in_ok-slacks.slacks.len slacks
    (drop (length slacks) c.in_ok-slacks.slacks.items) long in
    let at : c.slack_at-slack.result ≡ get_or slacks (length keys) (pos 0) =
    c.slack_at-slack.ensures ∙ ap (λ (xs : List ℤ). get_or xs (length keys) (pos 0)) same in
    let below = simp to_z-of_z at c.if-slack-lt0.true in
    valid-last c.args.limits.now c.args.rest.now c.args.prices.now keys slacks all
    c.requires.orders
    ∙ ap (int_le (pos 0)) (sym at) ∙ negative c.slack_at-slack.result below

pub returns-clause-some : goal.returns-clause-some
returns-clause-some c =
    let keys = c.args.keys.now in
    let slacks = c.judge_all.new.slacks in
    let names : c.deref-3.result.now ≡ keys ++ new_slab ∷ [] = search rules in
    let all : AreLeast c.args.limits.now c.args.rest.now c.args.prices.now (keys ++ new_slab ∷ [])
    slacks = subst (λ (ks : List Key). AreLeast c.args.limits.now c.args.rest.now c.args.prices.now
    ks slacks) names c.judge_all.ensures in
    let f : SFits w64 c.slack_at-slack.result = search rules in
    let long : c.in_ok-slacks.slacks.len ≡ length slacks = search rules in
    let same : c.deref-4.result.now ≡ slacks =
    c.deref-4.ensures.value
    ∙ front-of c.in_ok-slacks.slacks.len slacks
    (drop (length slacks) c.in_ok-slacks.slacks.items) long in
    let at : c.slack_at-slack.result ≡ get_or slacks (length keys) (pos 0) =
    c.slack_at-slack.ensures ∙ ap (λ (xs : List ℤ). get_or xs (length keys) (pos 0)) same in
    let above = simp to_z-of_z at c.if-slack-lt0.false in (
      valid-last c.args.limits.now c.args.rest.now c.args.prices.now keys slacks all
          c.requires.orders
          ∙ ap (int_le (pos 0)) (sym at) ∙ not-negative c.slack_at-slack.result above,
      subst (λ (xs : List ℤ). AreLeast c.args.limits.now c.args.rest.now c.args.prices.now keys xs)
          (sym (c.truncate.ensures.items ∙ ap (take (length keys)) (sym c.deref-4.ensures.value ∙
          same)))
          (least-front c.args.limits.now c.args.rest.now c.args.prices.now keys slacks all),
    )
