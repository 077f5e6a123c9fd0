-- Each step keeps the rule of the meter, and what it tells is true.
--
-- A draw adds the number found to the tickets of one seat and one to the ticket word, so the
-- tickets of all seats stay the numbers below it. Past the budget it takes one of the draws that a
-- seat has left for that. As there were never more of these than shares, the word is at most the
-- budget and the shares together.
use Rattle.std.proofs.Common.{◌≡◌, ◌⊎◌, ℕ, ◌+◌, ◌%◌, ◌^◌, ◌<◌, ◌≤◌, ◌==◌, true}
use Rattle.std.proofs.Common.{cond, nat_eq, List, [], ◌∷◌, set, count_by, slice_index}
use Rattle.std.proofs.Common.{slice_set, refl, sym, ap, ◌∙◌, subst, inl, inr, ⊎_elim, IsTrue}
use Rattle.std.proofs.Common.{mod-eq_of_lt, arith}
use Rattle.std.proofs.lemmas.List.Sums.{sum_by_push, sum_by-append}
use Rattle.std.proofs.lemmas.Bool.{false≢true, or_cases, or_left, or_right}
use Rattle.std.proofs.lemmas.Bool.Decides.{nat_tests}
use mathlib.Core.Option.{none, some, some-injective}
use mathlib.Core.Logic.{dite}
use native.Mathlib.Decide.{dec_le}
use lib.ListN.{get_elem?}
use Rattle.atomic_table.specs.Table.{Me, step, keeps, Allows, Splits, Joins, Final, Seen}
use Rattle.shared_words.specs.declared.meter_rule.MeterView.{MeterView}
use Rattle.shared_words.specs.declared.meter_rule.MeterKey.{MeterKey}
use Rattle.shared_words.specs.Meter.{once_below, AreNumbersBelow}
use Rattle.shared_words.specs.MeterRule.{spent_view, kept_view, given_view, both_views, spend_at}
use Rattle.shared_words.specs.MeterRule.{view_after_draw, view_after_halt, view_after_hearing}
use Rattle.shared_words.specs.MeterRule.{shares_of, spends_of, times_of, HasHalted, IsSpent, Fits}
use Rattle.shared_words.specs.MeterRule.{CountedAt, Counted, Drew, Halted, Heard}
use Rattle.shared_words.specs.Views.{EachView}
use Rattle.shared_words.proofs.Views.{each_set, each_split, each_join, some_here, some_set}
use Rattle.shared_words.proofs.Views.{some_split, some_join, some_alone, stood_there}
use Rattle.shared_words.proofs.Views.{sum_set, sum_split, sum_join, sum_alone, two_of}

is-one : (n : ℕ) → (n == 1) ≡ true → n ≡ 1
is-one n e = grind (arith, nat_tests)

spend-cases : (nodes number : ℕ) →
    ((number < nodes) × (spend_at nodes number ≡ 0))
    ⊎ ((nodes ≤ number) × (spend_at nodes number ≡ 1))
spend-cases nodes number = dite (dec_le nodes number)
    (λ past. inr (past, grind (arith, nat_tests)))
    (λ within. inl (omega arith, grind (arith, nat_tests)))

once-more : (x t : ℕ) → once_below x (t + 1) ≡ once_below x t + cond (nat_eq x t) 1 0
once-more x t = grind (arith, nat_tests)

-- a step on the ticket word, by what it does to the word and to the seat's view
on-tickets : (key : MeterKey) (slots place : ℕ) (me : Me ℕ MeterView) (f : ℕ → ℕ)
    (then : ℕ → Me ℕ MeterView → Type 0) →
    ((ticket halt : ℕ) (views : List MeterView) → CountedAt key ticket halt views →
    get_elem? views place ≡ some me.0 →
    (new : MeterView) × CountedAt key (f ticket) halt (set views place new)
    × then ticket (new, me.1)) →
    Allows (Counted key) slots place me 0 f then
on-tickets key slots place me f then move s kept _ here _ =
    let found : slice_index s.words 0 ≡ kept.ticket =
    ap (λ words. slice_index words 0) kept.words in
    let words : slice_set s.words 0 (f (slice_index s.words 0)) ≡ f kept.ticket ∷ kept.halt ∷ [] =
    subst (λ l. slice_set l 0 (f (slice_index l 0)) ≡ f kept.ticket ∷ kept.halt ∷ [])
    (sym kept.words) refl in
    let moved = move kept.ticket kept.halt s.views kept.rule here in (
      moved.0,
      keeps,
      tt,
      record { ticket = f kept.ticket; halt = kept.halt; words = words; rule = moved.1 },
      subst (λ word. then word (moved.0, me.1)) (sym found) moved.2,
    )

-- the same on the halt word
on-halt : (key : MeterKey) (slots place : ℕ) (me : Me ℕ MeterView) (f : ℕ → ℕ)
    (then : ℕ → Me ℕ MeterView → Type 0) →
    ((ticket halt : ℕ) (views : List MeterView) → CountedAt key ticket halt views →
    get_elem? views place ≡ some me.0 →
    (new : MeterView) × CountedAt key ticket (f halt) (set views place new)
    × then halt (new, me.1)) →
    Allows (Counted key) slots place me 1 f then
on-halt key slots place me f then move s kept _ here _ =
    let found : slice_index s.words 1 ≡ kept.halt = ap (λ words. slice_index words 1) kept.words in
    let words : slice_set s.words 1 (f (slice_index s.words 1)) ≡ kept.ticket ∷ f kept.halt ∷ [] =
    subst (λ l. slice_set l 1 (f (slice_index l 1)) ≡ kept.ticket ∷ f kept.halt ∷ [])
    (sym kept.words) refl in
    let moved = move kept.ticket kept.halt s.views kept.rule here in (
      moved.0,
      keeps,
      tt,
      record { ticket = kept.ticket; halt = f kept.halt; words = words; rule = moved.1 },
      subst (λ word. then word (moved.0, me.1)) (sym found) moved.2,
    )

pub draws : (key : MeterKey) (slots place : ℕ) (v : MeterView) (held : List (ℕ × ℕ)) →
    0 < v.shares → 1 ≤ v.spends →
    Allows (Counted key) slots place (v, held) 0 (λ n. (n + 1) % 2 ^ 64)
    (Drew (step slots 0 1 0 none) (v, held))
draws key slots place v held some_shares some_spends =
    on-tickets key slots place (v, held) (λ n. (n + 1) % 2 ^ 64)
    (Drew (step slots 0 1 0 none) (v, held))
    (λ ticket halt views rule here.
    let fit = rule.each place v here in
    let new = view_after_draw v ticket in
    let budget : v.nodes ≡ key.nodes = fit.budget some_shares in
    let small : ticket < 2 ^ 63 = omega (arith, rule.bound, rule.spends) in
    let next : (ticket + 1) % 2 ^ 64 ≡ ticket + 1 = mod-eq_of_lt (omega arith) in
    let changed = sum_set spends_of views place v new here in
    let new_fits : Fits key.nodes halt new = record {
      budget = fit.budget;
      halted = fit.halted;
      heard = fit.heard;
      spent = λ empty. absurd (omega arith);
    } in (
      new,
      subst (λ word. CountedAt key word halt (set views place new)) (sym next) record {
        bound = rule.bound;
        shares = omega (arith, rule.shares, sum_set shares_of views place v new here);
        spends = ⊎_elim
            (λ within. omega (arith, rule.spends, changed, within.0, within.1, budget))
            (λ past. omega (arith, rule.spends, changed, past.0, past.1, budget))
            (spend-cases v.nodes ticket);
        tickets = λ x. omega (
          arith,
          rule.tickets x,
          once-more x ticket,
          sum_set (times_of x) views place v new here,
          sum_by_push (λ y. cond (nat_eq x y) 1 0) v.tickets ticket,
        );
        flag = rule.flag;
        each = each_set (λ _. Fits key.nodes halt) views place new rule.each new_fits;
        halted = λ one. some_set HasHalted views place v new here (λ mark. mark) (rule.halted one);
      },
      refl,
    ))

pub halts : (key : MeterKey) (slots place : ℕ) (v : MeterView) (held : List (ℕ × ℕ)) →
    0 < v.shares →
    Allows (Counted key) slots place (v, held) 1 (λ _. 1)
    (λ _. Halted (step slots 1 1 0 none) (v, held) 1)
halts key slots place v held some_shares =
    on-halt key slots place (v, held) (λ _. 1) (λ _. Halted (step slots 1 1 0 none) (v, held) 1)
    (λ ticket halt views rule here.
    let new = view_after_halt v in
    let fit = rule.each place v here in
    let with_halt : EachView (λ _. Fits key.nodes 1) views = λ other u there.
    let old = rule.each other u there in record {
      budget = old.budget;
      halted = λ _. refl;
      heard = λ _. refl;
      spent = old.spent;
    } in
    let new_fits : Fits key.nodes 1 new = record {
      budget = fit.budget;
      halted = λ _. refl;
      heard = λ _. refl;
      spent = λ empty. absurd (omega arith);
    } in (
      new,
      record {
        bound = rule.bound;
        shares = omega (arith, rule.shares, sum_set shares_of views place v new here);
        spends = omega (arith, rule.spends, sum_set spends_of views place v new here);
        tickets = λ x. omega (
          arith,
          rule.tickets x,
          sum_set (times_of x) views place v new here,
        );
        flag = omega arith;
        each = each_set (λ _. Fits key.nodes 1) views place new with_halt new_fits;
        halted = λ _. some_here HasHalted views place v new here refl;
      },
      refl,
    ))

pub hears : (key : MeterKey) (slots place : ℕ) (v : MeterView) (held : List (ℕ × ℕ)) →
    0 < v.shares →
    Allows (Counted key) slots place (v, held) 1 (λ n. n) (Heard (step slots 1 0 0 none) (v, held))
hears key slots place v held some_shares =
    on-halt key slots place (v, held) (λ n. n) (Heard (step slots 1 0 0 none) (v, held))
    (λ ticket halt views rule here.
    let new = view_after_hearing v halt in
    let fit = rule.each place v here in
    let new_fits : Fits key.nodes halt new = record {
      budget = fit.budget;
      halted = fit.halted;
      heard = λ heard. ⊎_elim fit.heard (is-one halt) (or_cases v.heard (halt == 1) heard);
      spent = λ empty. absurd (omega arith);
    } in (
      new,
      record {
        bound = rule.bound;
        shares = omega (arith, rule.shares, sum_set shares_of views place v new here);
        spends = omega (arith, rule.spends, sum_set spends_of views place v new here);
        tickets = λ x. omega (
          arith,
          rule.tickets x,
          sum_set (times_of x) views place v new here,
        );
        flag = rule.flag;
        each = each_set (λ _. Fits key.nodes halt) views place new rule.each new_fits;
        halted = λ one. some_set HasHalted views place v new here (λ mark. mark) (rule.halted one);
      },
      (refl, rule.flag, fit.halted, fit.heard),
    ))

pub splits : (key : MeterKey) (place : ℕ) (v : MeterView) → 2 ≤ v.shares → 1 ≤ v.spends →
    Splits (Counted key) place v (kept_view v) (given_view v)
splits key place v two one s kept here =
    let rule = kept.rule in
    let views = s.views in
    let fit = rule.each place v here in
    let budget : v.nodes ≡ key.nodes = fit.budget (omega arith) in
    let left : Fits key.nodes kept.halt (kept_view v) = record {
      budget = λ _. budget;
      halted = fit.halted;
      heard = fit.heard;
      spent = λ empty. absurd (omega arith);
    } in
    let right : Fits key.nodes kept.halt (given_view v) = record {
      budget = λ _. budget;
      halted = λ e. absurd (false≢true e);
      heard = λ e. absurd (false≢true e);
      spent = λ empty. absurd (omega arith);
    } in
    record {
      ticket = kept.ticket;
      halt = kept.halt;
      words = kept.words;
      rule = record {
        bound = rule.bound;
        shares = omega (
          arith,
          rule.shares,
          sum_split shares_of views place v (kept_view v) (given_view v) here,
        );
        spends = omega (
          arith,
          rule.spends,
          sum_split spends_of views place v (kept_view v) (given_view v) here,
        );
        tickets = λ x. omega (
          arith,
          rule.tickets x,
          sum_split (times_of x) views place v (kept_view v) (given_view v) here,
        );
        flag = rule.flag;
        each = each_split (λ _. Fits key.nodes kept.halt) views place (kept_view v) (given_view v)
            rule.each left (λ _. right);
        halted = λ is. some_split HasHalted views place v (kept_view v) (given_view v) here
            (λ mark. mark) (rule.halted is);
      };
    }

pub joins : (key : MeterKey) (place : ℕ) (v : MeterView) (other : ℕ) (w : MeterView) →
    0 < v.shares → Joins (Counted key) place v other w (both_views v w) spent_view
joins key place v other w some_shares s kept here apart there =
    let rule = kept.rule in
    let views = s.views in
    let both = both_views v w in
    let fit = rule.each place v here in
    let fit_too = rule.each other w (stood_there views place other both w apart there) in
    let both_fits : Fits key.nodes kept.halt both = record {
      budget = λ _. fit.budget some_shares;
      halted = λ e. ⊎_elim fit.halted fit_too.halted (or_cases v.mark w.mark e);
      heard = λ e. ⊎_elim fit.heard fit_too.heard (or_cases v.heard w.heard e);
      spent = λ empty. absurd (omega arith);
    } in
    let spent_fits : Fits key.nodes kept.halt spent_view = record {
      budget = λ some. absurd (omega arith);
      halted = λ e. absurd (false≢true e);
      heard = λ e. absurd (false≢true e);
      spent = λ _. record { spends = refl; tickets = refl; mark = refl; heard = refl };
    } in
    record {
      ticket = kept.ticket;
      halt = kept.halt;
      words = kept.words;
      rule = record {
        bound = rule.bound;
        shares = omega (
          arith,
          rule.shares,
          sum_join shares_of views place other v w both spent_view here there,
        );
        spends = omega (
          arith,
          rule.spends,
          sum_join spends_of views place other v w both spent_view here there,
        );
        tickets = λ x. omega (
          arith,
          rule.tickets x,
          sum_join (times_of x) views place other v w both spent_view here there,
          sum_by-append (λ y. cond (nat_eq x y) 1 0) v.tickets w.tickets,
        );
        flag = rule.flag;
        each = each_join (λ _. Fits key.nodes kept.halt) views place other both spent_view rule.each
            both_fits spent_fits;
        halted = λ is. some_join HasHalted views place other v w both spent_view here apart there
            (or_left v.mark w.mark) (or_right v.mark w.mark) (rule.halted is);
      };
    }

-- what the ticket word is, at the end
pub record ClosesAt (v : MeterView) (word : ℕ) : Type 0 where
  pub each : AreNumbersBelow word v.tickets
  pub halted : IsTrue v.heard → IsTrue v.mark

-- the seat that has all shares knows all that was drawn, and whether any halted
pub closes : (key : MeterKey) (place : ℕ) (v : MeterView) (words slots : List ℕ) (word : ℕ) →
    Final (Seen (Counted key) place v) words slots → get_elem? words 0 ≡ some word →
    v.shares ≡ key.shares → ClosesAt v word
closes key place v words slots word final read all = record {
  each = λ x.
      sym (sum_alone (times_of x) views place v here (λ other u there apart.
      ap (count_by (nat_eq x)) (IsSpent.tickets (spent other u there apart))))
      ∙ rule.tickets x ∙ ap (once_below x) is;
  halted = λ heard. some_alone HasHalted views place v here
      (λ other u there apart mark.
      absurd (false≢true (sym (IsSpent.mark (spent other u there apart)) ∙ mark)))
      (rule.halted ((rule.each place v here).heard heard));
}
  where
    kept : Counted key final.0
    kept = final.1.0

    views : List MeterView
    views = final.0.views

    rule : CountedAt key kept.ticket kept.halt views
    rule = kept.rule

    here : get_elem? views place ≡ some v
    here = final.1.1

    is : kept.ticket ≡ word
    is = some-injective kept.ticket word
        (ap (λ l. get_elem? l 0) (sym kept.words ∙ final.2) ∙ read)

    spent : (other : ℕ) (u : MeterView) → get_elem? views other ≡ some u → ¬ (other ≡ place) →
        IsSpent u
    spent other u there apart =
        let two = two_of shares_of views place other v u here there apart in
        (rule.each other u there).spent (omega (arith, rule.shares))
