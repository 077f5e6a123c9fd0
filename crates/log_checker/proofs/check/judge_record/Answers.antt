-- The record stands at the wanted path; then it fails, or what it leaves open comes next. The
-- groups are those of the record's path, by the rules of the pass.
use Rattle.std.proofs.Common.{◌≡◌, ◌++◌, ◌∷◌, [], ◌∙◌, ap, ap₂, sym, refl, rules, true, false, List}
use Rattle.std.proofs.Common.{ℕ, Bool, ◌<◌, subst, length, get_or, inl, inr}
use Rattle.std.specs.List.{list_all}
use Rattle.std.proofs.lemmas.List.Folds.{list_all_at}
use Rattle.list_laws.specs.Sets.{same_list}
use Rattle.list_laws.proofs.Times.{same_list-eq}
use Rattle.mill_model.specs.declared.closing.Entry.{Entry}
use Rattle.refute_log.specs.Fits.{fits, closing_fits, path_fits}
use Rattle.list_laws.proofs.Tests.{and-right, clash, either}
use Rattle.log_checker.specs.Agenda.{wanted_path, opened_from}
use Rattle.log_checker.specs.ByRules.{mill_by, task_by}
use Rattle.log_checker.specs.Verdict.{holds_up}
use Rattle.log_checker.specs.declared.rules.Rules.{Rules}
use Rattle.log_checker.specs.declared.verdict.LogVerdict.TheVariants as verdicts
use Rattle.log_checker.proofs.OneRecord.{record-unsound, record-goes-on, record-within}
use Rattle.log_checker.proofs.check.judge_record.Goals as goal

-- a record is judged by its groups as by its path
by-groups : (grouped rules : Rules) (path : List ℕ) (bound : ℕ) (log : List Entry)
    (entry : Entry) (good : Bool) → grouped ≡ rules → path ≡ entry.path →
    good ≡ holds_up (task_by grouped) bound log (record { path = path; closing = entry.closing }) →
    good ≡ holds_up (task_by rules) bound log entry
by-groups grouped rules path bound log entry good r p h =
    h ∙ ap₂ (λ (r : Rules) (p : List ℕ). holds_up (task_by r) bound log (record {
      path = p;
      closing = entry.closing;
    })) r p

-- what it leaves open, too
opened-groups : (grouped rules : Rules) (path : List ℕ) (i : ℕ) (entry : Entry) →
    grouped ≡ rules → path ≡ entry.path →
    opened_from (mill_by grouped) grouped.ranked.items path i entry.closing
    ≡ opened_from (mill_by rules) rules.ranked.items entry.path i entry.closing
opened-groups grouped rules path i entry r p =
    ap₂ (λ (r : Rules) (p : List ℕ). opened_from (mill_by r) r.ranked.items p i entry.closing) r p

-- and it fits, as all records do
each-fits : (n : ℕ) (log : List Entry) (i : ℕ) (entry : Entry) → i < length log →
    entry ≡ get_or log i entry → list_all (fits n) log ≡ true → fits n entry ≡ true
each-fits n log i entry h is all = elim (either (fits n entry)) [
  | inl f ↦ f
  | inr f ↦ absurd (clash (list_all (fits n) log) all (list_all_at (fits n) log i entry h
      (subst (λ x. fits n x ≡ false) is f)))
]

fits-groups : (grouped rules : Rules) (path : List ℕ) (entry : Entry) →
    grouped ≡ rules → path ≡ entry.path → fits (length rules.ranked.items) entry ≡ true →
    closing_fits (length grouped.ranked.items) (length path) entry.closing ≡ true
fits-groups grouped rules path entry r p f =
    ap₂ (λ (r : Rules) (p : List ℕ). closing_fits (length r.ranked.items) (length p)
    entry.closing) r p
    ∙ and-right (path_fits (length rules.ranked.items) entry.path) _ f

pub holds_up-requires-clause-fits : goal.holds_up-requires-clause-fits
holds_up-requires-clause-fits c =
    let f : fits (length c.args.rules.now.ranked.items) c.index-log-i.result ≡ true =
    each-fits (length c.args.rules.now.ranked.items) c.args.log.now c.args.i c.index-log-i.result
    c.requires.here c.index-log-i.is c.requires.fits in
    fits-groups c.in_ok-grouped.grouped.rules.now c.args.rules.now
    c.in_ok-grouped.grouped.path.now c.index-log-i.result c.in_ok-grouped.ensures.rules
    (c.in_ok-grouped.ensures.path ∙ c.numbers.ensures) f

pub returns-then-not-good-clause-found : goal.returns-then-not-good-clause-found
returns-then-not-good-clause-found c =
    let t = task_by c.args.rules.now in
    let wanted = wanted_path c.args.log.now c.in-Some.wanted in
    let p : c.args.waiting.now.items ≡ c.pop.new.self.items ++ c.in-Some.wanted ∷ [] =
    search rules in
    let s : same_list wanted c.index-log-i.result.path ≡ true =
    rw c.in-None.is at c.in_ok-verdict.ensures.same in
    let good = by-groups c.in_ok-grouped.grouped.rules.now c.args.rules.now
    c.in_ok-grouped.grouped.path.now c.args.loss c.args.log.now c.index-log-i.result
    c.in_ok-good.good c.in_ok-grouped.ensures.rules
    (c.in_ok-grouped.ensures.path ∙ c.numbers.ensures)
    c.in_ok-good.ensures.is in
    let h : holds_up t c.args.loss c.args.log.now c.index-log-i.result ≡ false =
    sym good ∙ search rules in
    let path : c.in_ok-path-2.path ≡ c.index-log-i.result.path = search rules in
    let named : c.in_ok-path-2.path ≡ wanted =
    path ∙ sym (same_list-eq wanted c.index-log-i.result.path s) in
    ap (λ path. verdicts.Unsound path) named ∙ sym (record-unsound t c.args.loss c.args.log.now
    c.args.i c.index-log-i.result wanted c.args.waiting.now.items c.pop.new.self.items
    c.pop.new.self.items c.in-Some.wanted c.requires.here c.index-log-i.is p refl s h)

pub returns-clause-goes : goal.returns-clause-goes
returns-clause-goes c =
    let t = task_by c.args.rules.now in
    let wanted = wanted_path c.args.log.now c.in-Some.wanted in
    let p : c.args.waiting.now.items ≡ c.pop.new.self.items ++ c.in-Some.wanted ∷ [] =
    search rules in
    let s : same_list wanted c.index-log-i.result.path ≡ true =
    rw c.in-None.is at c.in_ok-verdict.ensures.same in
    let at = c.in_ok-grouped.ensures.path ∙ c.numbers.ensures in
    let good = by-groups c.in_ok-grouped.grouped.rules.now c.args.rules.now
    c.in_ok-grouped.grouped.path.now c.args.loss c.args.log.now c.index-log-i.result
    c.in_ok-good.good c.in_ok-grouped.ensures.rules at
    c.in_ok-good.ensures.is in
    let h : holds_up t c.args.loss c.args.log.now c.index-log-i.result ≡ true =
    sym good ∙ search rules in
    let opened = c.in_ok-open.ensures ∙ ap (λ ws. c.pop.new.self.items ++ ws)
    (opened-groups c.in_ok-grouped.grouped.rules.now c.args.rules.now
    c.in_ok-grouped.grouped.path.now c.args.i c.index-log-i.result
    c.in_ok-grouped.ensures.rules at) in
    record-goes-on t c.args.loss c.args.log.now c.args.i c.index-log-i.result wanted
    c.args.waiting.now.items c.pop.new.self.items c.open.new.waiting.items c.in-Some.wanted
    c.requires.here c.index-log-i.is p refl s h opened

pub returns-clause-within : goal.returns-clause-within
returns-clause-within c =
    let t = task_by c.args.rules.now in
    let p : c.args.waiting.now.items ≡ c.pop.new.self.items ++ c.in-Some.wanted ∷ [] =
    search rules in
    let at = c.in_ok-grouped.ensures.path ∙ c.numbers.ensures in
    let opened = c.in_ok-open.ensures ∙ ap (λ ws. c.pop.new.self.items ++ ws)
    (opened-groups c.in_ok-grouped.grouped.rules.now c.args.rules.now
    c.in_ok-grouped.grouped.path.now c.args.i c.index-log-i.result
    c.in_ok-grouped.ensures.rules at) in
    record-within t c.args.loss c.args.log.now c.args.i c.index-log-i.result
    (wanted_path c.args.log.now c.in-Some.wanted) c.args.waiting.now.items
    c.pop.new.self.items c.open.new.waiting.items c.in-Some.wanted c.requires.here
    c.index-log-i.is p refl c.requires.within opened
