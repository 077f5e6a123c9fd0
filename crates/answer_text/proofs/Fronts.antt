-- What begins a right beginning is right, and where lines have no log.
use Rattle.std.proofs.Common.{ℕ, zero, suc, ◌<◌, ◌≤◌, ◌≡◌, ◌≢◌, List, [], ◌∷◌, ◌++◌, map, length}
use Rattle.std.proofs.Common.{take, None, codes, refl, subst, sym, ap, ◌∙◌, arith, append_assoc}
use Rattle.std.proofs.Common.{length-append, get_or}
use Rattle.line_text.specs.Words.{BeginsWith}
use Rattle.refute_log.specs.Text.{first_line}
use Rattle.answer_text.specs.declared.answer.Answer.TheVariants.{Optimal}
use Rattle.answer_text.specs.Line.{Line, loss, plan, spell, AreWithin}
use Rattle.answer_text.specs.Text.{lines_of, IsEnding, Spells}
use Rattle.answer_text.specs.Judged.{Begins, NextIsWrong, HasLog}
use Rattle.answer_text.proofs.Ending.{first-byte, LacksLog}

-- the line `end` alone ends a text
pub end-alone : IsEnding (codes "end" ∷ [])
end-alone = record { end_line = codes "end"; after = []; is = refl; ended = refl; blank = refl }

-- a longer front begins with a shorter one and the next line
pub record IsLonger (front rest longer : List (List ℕ)) : Type 0 where
  pub next : List ℕ
  pub more : List (List ℕ)
  pub behind : List (List ℕ)
  pub is : rest ≡ next ∷ behind
  pub goes_on : longer ≡ (front ++ next ∷ []) ++ more

pub longer-front : (front rest longer last : List (List ℕ)) → front ++ rest ≡ longer ++ last
    → length front < length longer → IsLonger front rest longer
longer-front [] rest [] last e l = absurd (omega arith)
longer-front [] rest (next ∷ longer) last e l =
    record { next = next; more = longer; behind = longer ++ last; is = e; goes_on = refl }
longer-front (line ∷ front) rest [] last e l = absurd (omega arith)
longer-front (line ∷ front) rest (other ∷ longer) last e l =
    let z : line ∷ (front ++ rest) ≡ other ∷ (longer ++ last) = e in
    let h : other ≡ line = cc in let t : front ++ rest ≡ longer ++ last = cc in
    let r = longer-front front rest longer last t (omega arith) in
    let g : longer ≡ (front ++ r.next ∷ []) ++ r.more = r.goes_on in
    record {
      next = r.next;
      more = r.more;
      behind = r.behind;
      is = r.is;
      goes_on = ap (λ l. other ∷ l) g
          ∙ ap (λ x. x ∷ ((front ++ r.next ∷ []) ++ r.more)) h;
    }

within-less : (orders k n : ℕ) (lines : List Line) → k ≤ n → AreWithin orders (take n lines)
    → AreWithin orders (take k lines)
within-less orders zero n lines l h = tt
within-less orders (suc k) zero lines l h = absurd (omega arith)
within-less orders (suc k) (suc n) [] l h = tt
within-less orders (suc k) (suc n) (line ∷ lines) l h =
    (h.0, within-less orders k n lines (omega arith) h.1)

-- what begins a right beginning is right
pub begins-front : (orders : ℕ) (front more longer : List (List ℕ)) → longer ≡ front ++ more
    → Begins orders longer → Begins orders front
begins-front orders front more longer e begins =
    let l : length front ≤ length longer =
    omega (arith, ap length e, length-append front more) in
    record {
      answer = begins.answer;
      more = more ++ begins.more;
      spells = subst (Spells begins.answer)
          (ap (λ ls. ls ++ begins.more) e ∙ append_assoc front more begins.more) begins.spells;
      within = within-less orders (length front) (length longer) (lines_of begins.answer) l
          begins.within;
    }

-- the lines of an optimal answer before its log
abbrev pub head_of : ℕ → List ℕ → List (List ℕ)
head_of lost slabs = map spell (lines_of (Optimal lost slabs None))

pub begins-head : (orders lost : ℕ) (slabs : List ℕ)
    → AreWithin orders (lines_of (Optimal lost slabs None)) → Begins orders (head_of lost slabs)
begins-head orders lost slabs within =
    record {
      answer = Optimal lost slabs None;
      more = codes "end" ∷ [];
      spells = record { ending = codes "end" ∷ []; is = refl; ends = end-alone };
      within = within;
    }

-- behind heads that stand in one place stands the same
pub behind-heads : (l m : ℕ) (p q : List ℕ) (rest more : List (List ℕ))
    → head_of l p ++ rest ≡ head_of m q ++ more
    → (spell (loss l) ≡ spell (loss m)) × (spell (plan p) ≡ spell (plan q)) × (rest ≡ more)
behind-heads l m p q rest more e =
    let z : codes "optimal" ∷ spell (loss l) ∷ spell (plan p) ∷ rest
    ≡ codes "optimal" ∷ spell (loss m) ∷ spell (plan q) ∷ more = e in
    (cc, cc, cc)

module _ (orders : ℕ) where
  -- where a line of the head is wrong there is no log
  pub no_log-early : (front rest : List (List ℕ)) → length front < 3
      → NextIsWrong orders front rest → ¬ (HasLog orders (front ++ rest))
  no_log-early front rest early wrong has =
      let head = head_of has.lost has.slabs in
      let r = longer-front front rest head has.log has.parts (omega arith) in
      let w : NextIsWrong orders front (r.next ∷ r.behind) =
      subst (NextIsWrong orders front) r.is wrong in
      w (begins-front orders (front ++ r.next ∷ []) r.more head r.goes_on
      (begins-head orders has.lost has.slabs has.within))

  -- behind another line than `optimal` there is no log
  pub no_log-other : (first : List ℕ) (rest : List (List ℕ)) → get_or first 0 0 ≢ 111
      → ¬ (HasLog orders (first ∷ rest))
  no_log-other first rest other has = other (first-byte first (codes "optimal") _ _ has.parts)

  -- where no log's first line stands behind the plan there is no log
  pub no_log-behind : (lost : ℕ) (slabs : List ℕ) (rest : List (List ℕ)) → LacksLog rest
      → ¬ (HasLog orders (head_of lost slabs ++ rest))
  no_log-behind lost slabs rest lacks has =
      let same = behind-heads lost has.lost slabs has.slabs rest has.log has.parts in
      lacks has.stated has.few
      (subst (λ ls. BeginsWith ls (first_line has.stated ∷ [])) (sym same.2) has.begins)
