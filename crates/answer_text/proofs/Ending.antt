-- The end of an answer's text, and lines with more than white space behind it.
use Rattle.std.proofs.Common.{ℕ, zero, suc, ◌+◌, ◌≡◌, Bool, true, false, not, List, [], ◌∷◌, ◌++◌}
use Rattle.std.proofs.Common.{map, length, take, Option, Some, None, codes, cond, refl, ◌≤◌, subst}
use Rattle.std.proofs.Common.{ap, arith, get_or}
use Rattle.std.proofs.lemmas.Bool.{both_ways}
use Rattle.std.specs.List.{position_from}
use Rattle.line_text.specs.Lines.{is_blank, is_end, first_filled}
use Rattle.line_text.specs.Words.{BeginsWith}
use Rattle.refute_log.specs.Logged.{Logged}
use Rattle.refute_log.specs.Text.{record_line, first_line, IsLogText}
use Rattle.answer_text.specs.declared.answer.Answer.{Answer}
use Rattle.answer_text.specs.declared.answer.Answer.TheVariants.{Optimal, Feasible, Infeasible}
use Rattle.answer_text.specs.Line.{Line, loss, plan, spent, order, spell, AreWithin}
use Rattle.answer_text.specs.Text.{lines_of, IsEnding, Ends, Spells}
use Rattle.answer_text.specs.Reading.{LacksEnd}
use Rattle.mill_model.specs.declared.limits.TheConstants.{MAX_NODES}

not-some : (place : Option ℕ) (n : ℕ) → place ≡ None → place ≡ Some n → ⊥
not-some place n h k = absurd (cc)

-- whether a line has more than white space
abbrev is_filled : List ℕ → Bool
is_filled line = not (is_blank line)

-- the parts of some lines round the first that has more than white space
pub record IsFilledAt (lines : List (List ℕ)) (behind : ℕ) : Type 0 where
  pub blanks : List (List ℕ)
  pub line : List ℕ
  pub more : List (List ℕ)
  pub parts : lines ≡ blanks ++ line ∷ more
  pub count : length blanks ≡ behind
  pub blank : first_filled blanks ≡ None
  pub filled : is_blank line ≡ false

-- the same with places that are counted on
record IsFilledFrom (lines : List (List ℕ)) (first place : ℕ) : Type 0 where
  blanks : List (List ℕ)
  line : List ℕ
  more : List (List ℕ)
  parts : lines ≡ blanks ++ line ∷ more
  count : first + length blanks ≡ place
  blank : (i : ℕ) → position_from is_filled i blanks ≡ None
  filled : is_blank line ≡ false

filled-from : (lines : List (List ℕ)) (first place : ℕ)
    → position_from is_filled first lines ≡ Some place → IsFilledFrom lines first place
filled-from [] first place h = absurd (not-some None place refl h)
filled-from (line ∷ lines) first place h =
    by_test (is_blank line) refl (filled-from lines (first + 1) place) h
  where
    by_test : (b : Bool) → is_blank line ≡ b
        → (position_from is_filled (first + 1) lines ≡ Some place
        → IsFilledFrom lines (first + 1) place)
        → cond (not b) (Some first) (position_from is_filled (first + 1) lines) ≡ Some place
        → IsFilledFrom (line ∷ lines) first place
    by_test false e later h =
        let z : Some first ≡ Some place = h in
        let same : first ≡ place = cc in
        record {
          blanks = [];
          line = line;
          more = lines;
          parts = refl;
          count = omega arith;
          blank = λ i. refl;
          filled = e;
        }
    by_test true e later h =
        let r = later h in
        record {
          blanks = line ∷ r.blanks;
          line = r.line;
          more = r.more;
          parts = ap (λ l. line ∷ l) r.parts;
          count = omega (arith, r.count);
          blank = λ i. rw e (r.blank (i + 1));
          filled = r.filled;
        }

pub filled-at : (lines : List (List ℕ)) (behind : ℕ) → first_filled lines ≡ Some behind
    → IsFilledAt lines behind
filled-at lines behind h =
    let r = filled-from lines 0 behind h in
    record {
      blanks = r.blanks;
      line = r.line;
      more = r.more;
      parts = r.parts;
      count = omega (arith, r.count);
      blank = r.blank 0;
      filled = r.filled;
    }

-- where no line has more than white space, none in the middle has
pub each-blank : (blanks : List (List ℕ)) (line : List ℕ) (more : List (List ℕ)) (i : ℕ)
    → position_from (λ l. not (is_blank l)) i (blanks ++ line ∷ more) ≡ None
    → is_blank line ≡ true
each-blank [] line more i h = by_test (is_blank line) refl h
  where
    by_test : (b : Bool) → is_blank line ≡ b
        → cond (not b) (Some i) (position_from is_filled (i + 1) more) ≡ None
        → is_blank line ≡ true
    by_test true e h = e
    by_test false e h = absurd (not-some (Some i) i h refl)
each-blank (b ∷ blanks) line more i h =
    by_test (is_blank b) (each-blank blanks line more (i + 1)) h
  where
    by_test : (t : Bool)
        → (position_from is_filled (i + 1) (blanks ++ line ∷ more) ≡ None
        → is_blank line ≡ true)
        → cond (not t) (Some i) (position_from is_filled (i + 1) (blanks ++ line ∷ more)) ≡ None
        → is_blank line ≡ true
    by_test true later h = later h
    by_test false later h = absurd (not-some (Some i) i h refl)

-- lines that begin alike have the same first byte
pub first-byte : (xs ys : List ℕ) (front rest : List (List ℕ)) → xs ∷ front ≡ ys ∷ rest
    → get_or xs 0 0 ≡ get_or ys 0 0
first-byte xs ys front rest e = let h : xs ≡ ys = cc in ap (λ l. get_or l 0 0) h

-- what may stand behind the lines of an answer; behind the plan of an optimal one a log may
abbrev pub MayFollow : Answer → List (List ℕ) → Type 0
MayFollow (Optimal l p r) rest = (refutation : Option Logged) × Ends refutation rest
MayFollow (Feasible l p k) rest = IsEnding rest
MayFollow (Infeasible i) rest = IsEnding rest

pub ending-of : (answer other : Answer) (rest : List (List ℕ))
    → Spells other (map spell (lines_of answer) ++ rest) → MayFollow answer rest
ending-of (Optimal l p r) (Optimal m q o) rest s =
    let e : codes "optimal" ∷ spell (loss l) ∷ spell (plan p) ∷ rest
    ≡ codes "optimal" ∷ spell (loss m) ∷ spell (plan q) ∷ s.ending = s.is in
    let same : s.ending ≡ rest = cc in
    (o, subst (Ends o) same s.ends)
ending-of (Optimal l p r) (Feasible m q n) rest s =
    absurd (omega (arith, first-byte (codes "optimal") (codes "feasible") _ _ s.is))
ending-of (Optimal l p r) (Infeasible j) rest s =
    absurd (omega (arith, first-byte (codes "optimal") (codes "infeasible") _ _ s.is))
ending-of (Feasible l p k) (Optimal m q o) rest s =
    absurd (omega (arith, first-byte (codes "feasible") (codes "optimal") _ _ s.is))
ending-of (Feasible l p k) (Feasible m q n) rest s =
    let e : codes "feasible" ∷ spell (loss l) ∷ spell (plan p) ∷ spell (spent k) ∷ rest
    ≡ codes "feasible" ∷ spell (loss m) ∷ spell (plan q) ∷ spell (spent n) ∷ s.ending = s.is in
    let same : s.ending ≡ rest = cc in
    subst IsEnding same s.ends
ending-of (Feasible l p k) (Infeasible j) rest s =
    absurd (omega (arith, first-byte (codes "feasible") (codes "infeasible") _ _ s.is))
ending-of (Infeasible i) (Optimal m q o) rest s =
    absurd (omega (arith, first-byte (codes "infeasible") (codes "optimal") _ _ s.is))
ending-of (Infeasible i) (Feasible m q n) rest s =
    absurd (omega (arith, first-byte (codes "infeasible") (codes "feasible") _ _ s.is))
ending-of (Infeasible i) (Infeasible j) rest s =
    let e : codes "infeasible" ∷ spell (order i) ∷ rest
    ≡ codes "infeasible" ∷ spell (order j) ∷ s.ending = s.is in
    let same : s.ending ≡ rest = cc in
    subst IsEnding same s.ends

-- whatever stands behind the next line, a fact does not hold
abbrev pub Never : (List (List ℕ) → Type 0) → List (List ℕ) → Type 0
Never P [] = P [] → ⊥
Never P (next ∷ rest) = (more : List (List ℕ)) → P (next ∷ more) → ⊥

pub never-ends : (rest : List (List ℕ)) → LacksEnd rest → Never IsEnding rest
never-ends [] lacks = λ (e : IsEnding []). absurd (let z : [] ≡ e.end_line ∷ e.after = e.is in cc)
never-ends (next ∷ rest) lacks = λ more (e : IsEnding (next ∷ more)).
    let z : next ∷ more ≡ e.end_line ∷ e.after = e.is in
    let here : next ≡ e.end_line = cc in
    lacks e.end_line e.ended (record { more = rest; is = ap (λ l. l ∷ rest) here })

-- no first line of a log comes next
abbrev pub LacksLog : List (List ℕ) → Type 0
LacksLog rest = (stated : ℕ) → stated ≤ MAX_NODES → ¬ (BeginsWith rest (first_line stated ∷ []))

never-log : (log : Logged) (rest : List (List ℕ)) → LacksLog rest → Never (IsLogText log) rest
never-log log [] lacks = λ (t : IsLogText log []).
    let n = length log.entries in
    let more = map record_line log.entries ++ t.end_line ∷ t.after in
    absurd (let z : [] ≡ first_line n ∷ more = t.begins.text in cc)
never-log log (next ∷ rest) lacks = λ others (t : IsLogText log (next ∷ others)).
    let n = length log.entries in
    let more = map record_line log.entries ++ t.end_line ∷ t.after in
    let z : next ∷ others ≡ first_line n ∷ more = t.begins.text in
    let here : next ≡ first_line n = cc in
    lacks n t.begins.few (record { more = rest; is = ap (λ l. l ∷ rest) here })

-- behind a plan nothing follows where neither `end` nor a log's first line comes
pub never-follows : (lost : ℕ) (slabs : List ℕ) (rest : List (List ℕ)) → LacksEnd rest
    → LacksLog rest → Never (MayFollow (Optimal lost slabs None)) rest
never-follows lost slabs [] no_end no_log = λ follows. by_kind follows.0 follows.1
  where
    by_kind : (refutation : Option Logged) → Ends refutation [] → ⊥
    by_kind None e = never-ends [] no_end e
    by_kind (Some log) t = never-log log [] no_log t
never-follows lost slabs (next ∷ rest) no_end no_log =
    λ more follows. by_kind more follows.0 follows.1
  where
    by_kind : (more : List (List ℕ)) (refutation : Option Logged) → Ends refutation (next ∷ more)
        → ⊥
    by_kind more None e = never-ends (next ∷ rest) no_end more e
    by_kind more (Some log) t = never-log log (next ∷ rest) no_log more t

-- `end` is not the first line of a log
pub end-no_log : (end_line : List ℕ) (after : List (List ℕ)) → is_end end_line ≡ true
    → LacksLog (end_line ∷ after)
end-no_log end_line after ended stated few begins =
    let z : end_line ∷ after ≡ first_line stated ∷ begins.more = begins.is in
    let here : end_line ≡ first_line stated = cc in
    let other : is_end end_line ≡ false = ap is_end here in
    both_ways (is_end end_line) other ended

-- behind `end` no line has more than white space
pub never-more : (answer : Answer) (end_line : List ℕ) (blanks : List (List ℕ)) (line : List ℕ)
    (more : List (List ℕ)) → is_end end_line ≡ true → is_blank line ≡ false
    → ¬ (MayFollow answer (end_line ∷ (blanks ++ line ∷ more)))
never-more answer end_line blanks line more ended filled = by_kind answer
  where
    lines : List (List ℕ)
    lines = end_line ∷ (blanks ++ line ∷ more)

    no_ending : IsEnding lines → ⊥
    no_ending e =
        let z : end_line ∷ (blanks ++ line ∷ more) ≡ e.end_line ∷ e.after = e.is in
        let after : e.after ≡ blanks ++ line ∷ more = cc in
        let blank : is_blank line ≡ true =
        each-blank blanks line more 0 (subst (λ ls. first_filled ls ≡ None) after e.blank) in
        absurd (let z : true ≡ false = cc in cc)

    no_log : (log : Logged) → IsLogText log lines → ⊥
    no_log log t =
        never-log log (end_line ∷ []) (end-no_log end_line [] ended) (blanks ++ line ∷ more) t

    by_kind : (answer : Answer) → MayFollow answer lines → ⊥
    by_kind (Optimal l p r) follows = by_log follows.0 follows.1
      where
        by_log : (refutation : Option Logged) → Ends refutation lines → ⊥
        by_log None e = no_ending e
        by_log (Some log) t = no_log log t
    by_kind (Feasible l p k) e = no_ending e
    by_kind (Infeasible i) e = no_ending e

-- what holds of all lines holds of the first of them
pub within-take : (orders k : ℕ) (lines : List Line) → AreWithin orders lines
    → AreWithin orders (take k lines)
within-take orders zero lines h = tt
within-take orders (suc k) [] h = tt
within-take orders (suc k) (line ∷ lines) h = (h.0, within-take orders k lines h.1)
