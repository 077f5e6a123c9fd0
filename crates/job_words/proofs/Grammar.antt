-- Words that ask for a job: how they begin, and that they ask for no other.
use Rattle.std.proofs.Common.{◌≡◌, ℕ, suc, ◌+◌, ◌<◌, ◌≤◌, Bool, true, false, cond, List, []}
use Rattle.std.proofs.Common.{◌∷◌, ◌++◌, length, take, drop, refl, sym, ap, ap₂, ◌∙◌, subst, arith}
use Rattle.std.proofs.Common.{append_assoc, append-nil, ◌⊎◌, inl, inr, get_or}
use Rattle.std.proofs.Common.{slice_get, add-one}
use Rattle.std.specs.Prelude.{Option, Some, None, find, String, string_bytes}
use Rattle.std.specs.Str.{bytes_eq}
use Rattle.std.specs.declared.alloc.Global.{Global}
use Rattle.std.specs.List.{AllByRecursion}
use Rattle.std.proofs.Math.Seq.{take-suc}
use Rattle.std.proofs.lemmas.Bool.{cases_Bool, cases_order}
use Rattle.std.proofs.lemmas.List.{take-append-drop, take_all, take-take, get_or-map, length-map}
use Rattle.std.specs.Str.Parse.{digits_value}
use Rattle.std.proofs.lemmas.Slice.Eq.{bytes_eq-Decides}
use Rattle.job_words.specs.declared.command.Command.{Command}
use Rattle.job_words.specs.declared.command.Command.TheVariants.{Solve, Prove, Check, Verify}
use Rattle.job_words.specs.declared.command.Command.TheVariants.{Replay, Drill}
use Rattle.job_words.specs.declared.option.Setting.{Setting}
use Rattle.job_words.specs.declared.option.Setting.TheVariants.{Workers, Nodes, Colours}
use Rattle.job_words.specs.declared.option.Setting.TheVariants.{Moves, Seed, Orders}
use Rattle.job_words.specs.declared.job.Job.{Job}
use Rattle.job_words.specs.declared.numbers.Numbers.{Numbers}
use Rattle.job_words.specs.Options.{name_of, allows, least, greatest, default, same_setting}
use Rattle.job_words.specs.Reading.{HasRead, held_for}
use Rattle.job_words.specs.Words.{texts, Given, words_of, spelling, number_for}
use Rattle.job_words.specs.Words.{number_by, number_in, AreOnce, IsNumberFor, IsRightFor, Spell}
use Rattle.job_words.specs.Words.{AskFor, IsInRange, Begin, IsWrongAt}

-- the text of a word
pub text-at : (words : List (String Global)) (place : ℕ) (word : String Global) →
    place < length words → word ≡ get_or words place word →
    get_or (texts words) place [] ≡ string_bytes word
text-at words place word within here =
    get_or-map string_bytes words place word [] within ∙ ap string_bytes (sym here)

pub texts-count : (words : List (String Global)) → length (texts words) ≡ length words
texts-count words = length-map words string_bytes

-- settings and commands are told apart by their names, which lead back to them

some-same : {X : Type 0} (a b : X) → ◌≡◌ {A = Option X} (Some a) (Some b) → a ≡ b
some-same a b e = cc

setting-named : List ℕ → Option Setting
setting-named word = find (λ s. bytes_eq (name_of s) word)
    (Workers ∷ Nodes ∷ Colours ∷ Moves ∷ Seed ∷ Orders ∷ [])

name-leads-back : (s : Setting) → setting-named (name_of s) ≡ Some s
unfolding setting-named
name-leads-back Workers = refl
name-leads-back Nodes = refl
name-leads-back Colours = refl
name-leads-back Moves = refl
name-leads-back Seed = refl
name-leads-back Orders = refl

pub name-once : (s t : Setting) → name_of s ≡ name_of t → s ≡ t
name-once s t e =
    some-same s t (sym (name-leads-back s) ∙ ap setting-named e ∙ name-leads-back t)

command-spelt : List ℕ → Option Command
command-spelt word =
    find (λ c. bytes_eq (spelling c) word) (Solve ∷ Prove ∷ Check ∷ Verify ∷ Replay ∷ Drill ∷ [])

spelling-leads-back : (c : Command) → command-spelt (spelling c) ≡ Some c
unfolding command-spelt
spelling-leads-back Solve = refl
spelling-leads-back Prove = refl
spelling-leads-back Check = refl
spelling-leads-back Verify = refl
spelling-leads-back Replay = refl
spelling-leads-back Drill = refl

spelling-once : (c d : Command) → spelling c ≡ spelling d → c ≡ d
spelling-once c d e =
    some-same c d (sym (spelling-leads-back c) ∙ ap command-spelt e ∙ spelling-leads-back d)

same-settings : (s t : Setting) → same_setting s t ≡ true → s ≡ t
same-settings s t e = name-once s t ((bytes_eq-Decides (name_of s) (name_of t)).0 e)

same-setting-refl : (s : Setting) → same_setting s s ≡ true
same-setting-refl s = (bytes_eq-Decides (name_of s) (name_of s)).1 refl

same-setting-back : (s t : Setting) → same_setting s t ≡ true → same_setting t s ≡ true
same-setting-back s t e =
    (bytes_eq-Decides (name_of t) (name_of s)).1
    (sym ((bytes_eq-Decides (name_of s) (name_of t)).0 e))

same-setting-sym : (s t : Setting) → same_setting s t ≡ same_setting t s
same-setting-sym s t = elim (cases_Bool (same_setting s t)) [
  | inl same ↦ same ∙ sym (same-setting-back s t same)
  | inr other ↦ elim (cases_Bool (same_setting t s)) [
    | inl back ↦ (let same = same-setting-back t s back in absurd (cc))
    | inr apart ↦ other ∙ sym apart
  ]
]

-- the digit 1 is a right number for each setting
in-range-one : (s : Setting) → (least s ≤ 1) × (1 ≤ greatest s)
in-range-one Workers = (omega arith, omega arith)
in-range-one Nodes = (omega arith, omega arith)
in-range-one Colours = (omega arith, omega arith)
in-range-one Moves = (omega arith, omega arith)
in-range-one Seed = (omega arith, omega arith)
in-range-one Orders = (omega arith, omega arith)

a-number : (s : Setting) → (word : List ℕ) × IsNumberFor s word
a-number s = (49 ∷ [], one s)
  where
    one : (s : Setting) → IsNumberFor s (49 ∷ [])
    one s = record {
      digits = (omega arith, (omega arith, tt));
      low = (in-range-one s).0;
      high = (in-range-one s).1;
    }

-- the job of a command with these numbers
job-from : Command → (Setting → ℕ) → Job
job-from c number = record {
  command = c;
  limits = record { nodes = number Nodes; moves = number Moves; workers = number Workers };
  p = number Colours;
  seed = number Seed;
  orders = number Orders;
}

same-job : (c : Command) (f g : Setting → ℕ) → ((s : Setting) → f s ≡ g s) →
    job-from c f ≡ job-from c g
unfolding job-from
same-job c f g same =
    rw (same Workers, same Nodes, same Colours, same Moves, same Seed, same Orders) refl

-- and of a command with options
pub job-of : Command → List Given → Job
job-of c options = job-from c (number_by options)

pub asked-by-numbers : (words : List (List ℕ)) (job : Job) (options : List Given) →
    Spell words job.command options → ((s : Setting) → number_in job s ≡ number_by options s) →
    AskFor words job
asked-by-numbers words job options spell numbers =
    record { options = options; spell = spell; numbers = numbers }

job-asked : (words : List (List ℕ)) (c : Command) (options : List Given) →
    Spell words c options → AskFor words (job-of c options)
unfolding job-of job-from
job-asked words c options spell = record { options = options; spell = spell; numbers = each }
  where
    each : (s : Setting) → number_in (job-of c options) s ≡ number_by options s
    each Workers = refl
    each Nodes = refl
    each Colours = refl
    each Moves = refl
    each Seed = refl
    each Orders = refl

pub asked-job : (words : List (List ℕ)) (job : Job) (asked : AskFor words job) →
    job ≡ job-of job.command asked.options
unfolding job-of job-from
asked-job words job asked =
    same-job job.command (number_in job) (number_by asked.options) asked.numbers

-- options with one more behind them

words-append : (front back : List Given) →
    words_of (front ++ back) ≡ words_of front ++ words_of back
words-append [] back = refl
words-append (option ∷ front) back =
    ap (λ words. name_of option.setting ∷ option.number ∷ words) (words-append front back)

right-append : (c : Command) (front back : List Given) → AllByRecursion (IsRightFor c) front →
    AllByRecursion (IsRightFor c) back → AllByRecursion (IsRightFor c) (front ++ back)
right-append c [] back f b = b
right-append c (option ∷ front) back f b = (f.0, right-append c front back f.1 b)

right-back : (c : Command) (front back : List Given) →
    AllByRecursion (IsRightFor c) (front ++ back) → AllByRecursion (IsRightFor c) back
right-back c [] back each = each
right-back c (option ∷ front) back each = right-back c front back each.1

-- a setting that isn't given by the options in front
number-behind : (s : Setting) (front back : List Given) → number_for s front ≡ None →
    number_for s (front ++ back) ≡ number_for s back
number-behind s [] back none = refl
number-behind s (option ∷ front) back none =
    elim (cases_Bool (same_setting s option.setting)) [
      | inl same ↦ (let none' = rw same at none in absurd (cc))
      | inr other ↦ (let none' = rw other at none in rw other (number-behind s front back none'))
    ]

-- an option behind others is given by none of them where no setting is given twice
new-behind : (front : List Given) (option : Given) (back : List Given) →
    AreOnce (front ++ option ∷ back) → number_for option.setting front ≡ None
new-behind [] option back once = refl
new-behind (first ∷ front) option back once =
    let s = first.setting in
    let t = option.setting in
    let later = new-behind front option back once.1 in
    elim (cases_Bool (same_setting t s)) [
      | inl same ↦
          (let here : same_setting s t ≡ true = same-setting-sym s t ∙ same in
          let alike : number_for s (option ∷ back) ≡ Some (digits_value 10 option.number) =
          rw here refl in
          let same-name = same-settings t s same in
          let found = number-behind s front (option ∷ back) (subst (λ r. number_for r front ≡ None)
          same-name later) ∙ alike in
          let none = once.0 in
          absurd (cc))
      | inr other ↦ rw other later
    ]

-- and one that is new may stand behind them
once-push : (front : List Given) (option : Given) → AreOnce front →
    number_for option.setting front ≡ None → AreOnce (front ++ option ∷ [])
once-push [] option once new = (refl, tt)
once-push (first ∷ front) option once new =
    elim (cases_Bool (same_setting option.setting first.setting)) [
      | inl same ↦ (let new' = rw same at new in absurd (cc))
      | inr other ↦
          (let here = same-setting-sym first.setting option.setting ∙ other in (
            number-behind first.setting front (option ∷ []) once.0 ∙ rw here refl,
            once-push front option once.1 (rw other at new),
          ))
    ]

-- the words of options go on with other words where there are more options
more-options : (front all : List Given) (rest : List (List ℕ)) →
    words_of all ≡ words_of front ++ rest →
    (back : List Given) × (all ≡ front ++ back) × (words_of back ≡ rest)
more-options [] all rest e = (all, refl, e)
more-options (option ∷ front) [] rest e = absurd (cc)
more-options (option ∷ front) (other ∷ all) rest e =
    let name : name_of other.setting ≡ name_of option.setting = cc in
    let number : other.number ≡ option.number = cc in
    let later : words_of all ≡ words_of front ++ rest = cc in
    let same : other ≡ option = ap₂ (λ s n. record { setting = s; number = n })
    (name-once other.setting option.setting name) number in
    let step = more-options front all rest later in (
      step.0,
      ap (λ options. other ∷ options) step.1 ∙ ap (λ first. first ∷ front ++ step.0) same,
      step.2,
    )

-- the number of each setting where one more option is given
pub number-push : (s : Setting) (front : List Given) (option : Given) →
    number_for option.setting front ≡ None → number_for s (front ++ option ∷ [])
    ≡ cond (same_setting s option.setting) (Some (digits_value 10 option.number))
    (number_for s front)
number-push s front option new = elim (cases_Bool (same_setting s option.setting)) [
  | inl same ↦
      (let none = subst (λ t. number_for t front ≡ None)
      (sym (same-settings s option.setting same)) new in
      number-behind s front (option ∷ []) none ∙ rw same refl)
  | inr other ↦ rw other (unchanged front other)
]
  where
    unchanged : (front : List Given) → same_setting s option.setting ≡ false →
        number_for s (front ++ option ∷ []) ≡ number_for s front
    unchanged [] other = rw other refl
    unchanged (first ∷ front) other =
        ap (cond (same_setting s first.setting) (Some (digits_value 10 first.number)))
        (unchanged front other)

-- The words up to a place are a command and options, and an option stands at the place.
module _ (words : List (List ℕ)) (place : ℕ) (c : Command) (options : List Given)
    (spell : Spell (take place words) c options) where
  one-more : place < length words →
      take (place + 1) words ≡ take place words ++ get_or words place [] ∷ []
  one-more within = rw add-one (take-suc words place [] within)

  pub front-begins : Begin (take place words)
  front-begins = record {
    job = job-of c options;
    more = [];
    asked = job-asked _ c options (rw append-nil spell);
  }

  -- what the options are where right words begin so and go on
  go-on : (rest : List (List ℕ)) (job : Job) → AskFor (take place words ++ rest) job →
      (back : List Given) × (words_of back ≡ rest) × AllByRecursion (IsRightFor c) back
      × AreOnce (options ++ back)
  go-on rest job asked =
      let all = asked.options in
      let same : spelling job.command ∷ words_of all ≡ spelling c ∷ (words_of options ++ rest) =
      sym asked.spell.are ∙ ap (λ front. front ++ rest) spell.are in
      let first : spelling job.command ≡ spelling c = cc in
      let later : words_of all ≡ words_of options ++ rest = cc in
      let more = more-options options all rest later in
      let command = spelling-once job.command c first in (
        more.0,
        more.2,
        right-back c options more.0 (subst (λ list. AllByRecursion (IsRightFor c) list) more.1
            (subst (λ d. AllByRecursion (IsRightFor d) all) command asked.spell.right)),
        subst AreOnce more.1 asked.spell.once,
      )

  -- the word there is no name of an option that may stand there
  pub wrong-name : (name : List ℕ) → place < length words → get_or words place [] ≡ name →
      ((s : Setting) → name ≡ name_of s → allows c s ≡ true → number_for s options ≡ None → ⊥) →
      IsWrongAt words place
  wrong-name name within here none = record {
    within = omega arith;
    right = front-begins;
    wrong = λ _ begin. no-option (subst Begin (rw here at (one-more within)) begin);
    missing = λ end. absurd (omega arith);
  }
    where
      no-option : Begin (take place words ++ name ∷ []) → ⊥
      no-option begin =
          let asked = subst (λ list. AskFor list begin.job)
          (append_assoc (take place words) (name ∷ []) begin.more) begin.asked in
          let more = go-on (name ∷ begin.more) begin.job asked in
          from more.0 more.1 more.2 more.3
        where
          from : (back : List Given) → words_of back ≡ name ∷ begin.more →
              AllByRecursion (IsRightFor c) back → AreOnce (options ++ back) → ⊥
          from [] e right once = absurd (cc)
          from (option ∷ back) e right once =
              none option.setting (cc) right.0.0 (new-behind options option back once)

  -- The name of an option that may stand there is there.
  module _ (s : Setting) (within : place < length words) (here : get_or words place [] ≡ name_of s)
      (allowed : allows c s ≡ true) (new : number_for s options ≡ None) where
    with-name : take (place + 1) words ≡ take place words ++ name_of s ∷ []
    with-name = rw here at (one-more within)

    -- the options with one more
    with-option : (number : List ℕ) → IsNumberFor s number →
        Spell (take place words ++ name_of s ∷ number ∷ []) c
        (options ++ record { setting = s; number = number } ∷ [])
    with-option number right =
        let option : Given = record { setting = s; number = number } in
        record {
          are = ap (λ front. front ++ name_of s ∷ number ∷ []) spell.are
              ∙ ap (λ later. spelling c ∷ later) (sym (words-append options (option ∷ [])));
          right = right-append c options (option ∷ []) spell.right ((allowed, right), tt);
          once = once-push options option spell.once new;
        }

    name-begins : Begin (take (place + 1) words)
    name-begins =
        let number = a-number s in
        let all = options ++ record { setting = s; number = number.0 } ∷ [] in
        record {
          job = job-of c all;
          more = number.0 ∷ [];
          asked = job-asked _ c all
              (rw (with-name, append_assoc) (with-option number.0 number.1));
        }

    -- and its number is missing
    pub missing-number : place + 1 ≡ length words → IsWrongAt words (place + 1)
    missing-number end = record {
      within = omega arith;
      right = name-begins;
      wrong = λ inside. absurd (omega arith);
      missing = λ _ job asked. no-option job (subst (λ list. AskFor list job)
          (sym (take_all (place + 1) words (omega arith)) ∙ with-name) asked);
    }
      where
        no-option : (job : Job) → AskFor (take place words ++ name_of s ∷ []) job → ⊥
        no-option job asked =
            let more = go-on (name_of s ∷ []) job asked in from more.0 more.1
          where
            from : (back : List Given) → words_of back ≡ name_of s ∷ [] → ⊥
            from [] e = absurd (cc)
            from (option ∷ back) e = absurd (cc)

    -- A word stands behind it.
    module _ (number : List ℕ) (inside : place + 1 < length words)
        (next : get_or words (place + 1) [] ≡ number) where
      with-number : take (place + 2) words ≡ take place words ++ name_of s ∷ number ∷ []
      with-number =
          let one : suc (place + 1) ≡ place + 2 = omega arith in
          let step = rw (one, next, with-name) at (take-suc words (place + 1) [] inside) in
          step ∙ append_assoc (take place words) (name_of s ∷ []) (number ∷ [])

      -- which is no right number
      pub wrong-number : (IsNumberFor s number → ⊥) → IsWrongAt words (place + 1)
      wrong-number none = record {
        within = omega arith;
        right = name-begins;
        wrong = λ _ begin. no-option (subst Begin (two ∙ with-number) begin);
        missing = λ end. absurd (omega arith);
      }
        where
          two : take (place + 1 + 1) words ≡ take (place + 2) words
          two = ap (λ n. take n words) (omega arith)

          no-option : Begin (take place words ++ name_of s ∷ number ∷ []) → ⊥
          no-option begin =
              let asked = subst (λ list. AskFor list begin.job)
              (append_assoc (take place words) (name_of s ∷ number ∷ []) begin.more)
              begin.asked in
              let more = go-on (name_of s ∷ number ∷ begin.more) begin.job asked in
              from more.0 more.1 more.2
            where
              from : (back : List Given) → words_of back ≡ name_of s ∷ number ∷ begin.more →
                  AllByRecursion (IsRightFor c) back → ⊥
              from [] e right = absurd (cc)
              from (option ∷ back) e right =
                  let name : name_of option.setting ≡ name_of s = cc in
                  let word : option.number ≡ number = cc in
                  none (subst (λ w. IsNumberFor s w) word (subst (λ t. IsNumberFor t option.number)
                  (name-once option.setting s name) right.0.1))

      -- or which is one
      pub read-on : IsNumberFor s number → Spell (take (place + 2) words) c
          (options ++ record { setting = s; number = number } ∷ [])
      read-on right = rw with-number (with-option number right)

-- where the first word is no command, it is wrong
pub wrong-command : (words : List (List ℕ)) → ((c : Command) (rest : List (List ℕ)) →
    words ≡ spelling c ∷ rest → ⊥) → IsWrongAt words 0
wrong-command words none = record {
  within = omega arith;
  right = record {
    job = job-of Solve [];
    more = spelling Solve ∷ [];
    asked = job-asked _ Solve [] (record { are = refl; right = tt; once = tt });
  };
  wrong = λ some begin. no-command words none some begin;
  missing = λ end job asked. none job.command (words_of asked.options) asked.spell.are;
}
  where
    no-command : (words : List (List ℕ)) → ((c : Command) (rest : List (List ℕ)) →
        words ≡ spelling c ∷ rest → ⊥) → 0 < length words → Begin (take 1 words) → ⊥
    no-command [] none some begin = absurd (omega arith)
    no-command (word ∷ rest) none some begin =
        let are = begin.asked.spell.are in
        let first : word ≡ spelling begin.job.command = cc in
        none begin.job.command rest (ap (λ w. w ∷ rest) first)

-- The front of words that begin right begins right.
begin-front : (words : List (List ℕ)) (n : ℕ) → Begin words → Begin (take n words)
begin-front words n begin = record {
  job = begin.job;
  more = drop n words ++ begin.more;
  asked = subst (λ list. AskFor list begin.job) (sym (sym (append_assoc (take n words)
      (drop n words) begin.more) ∙ ap (λ list. list ++ begin.more) (take-append-drop n words)))
      begin.asked;
}

-- so there is one first wrong place
wrong-order : (words : List (List ℕ)) (a b : ℕ) → IsWrongAt words a → IsWrongAt words b → a < b → ⊥
wrong-order words a b first second less =
    let shorter : take (a + 1) (take b words) ≡ take (a + 1) words =
    take-take (a + 1) b words (omega arith) in
    first.wrong (omega (arith, second.within))
    (subst Begin shorter (begin-front (take b words) (a + 1) second.right))

pub wrong-only : (words : List (List ℕ)) (a b : ℕ) → IsWrongAt words a → IsWrongAt words b → a ≡ b
wrong-only words a b first second = elim (cases_order a b) [
  | inl same ↦ same
  | inr rest ↦ elim rest [
    | inl less ↦ absurd (wrong-order words a b first second less)
    | inr more ↦ absurd (wrong-order words b a second first more)
  ]
]

-- and none in words that ask for a job
pub asked-not-wrong : (words : List (List ℕ)) (job : Job) (place : ℕ) → AskFor words job →
    IsWrongAt words place → ⊥
asked-not-wrong words job place asked wrong =
    elim (cases_order place (length words)) [
      | inl end ↦ wrong.missing end job asked
      | inr rest ↦ elim rest [
        | inl inside ↦ wrong.wrong inside (begin-front words (place + 1)
            (record { job = job; more = []; asked = rw append-nil asked }))
        | inr past ↦ (let within = wrong.within in absurd (omega arith))
      ]
    ]

-- which ask for one job
pub asked-only : (words : List (List ℕ)) (a b : Job) → AskFor words a → AskFor words b → a ≡ b
asked-only words a b first second =
    let same : spelling a.command ∷ words_of first.options
    ≡ spelling b.command ∷ words_of second.options =
    sym first.spell.are ∙ second.spell.are in
    let command : spelling a.command ≡ spelling b.command = cc in
    let words' : words_of first.options ≡ words_of second.options ++ [] = rw append-nil (cc) in
    let more = more-options second.options first.options [] words' in
    let none = no-words more.0 more.2 in
    let options : first.options ≡ second.options =
    more.1 ∙ ap (λ back. second.options ++ back) none ∙ append-nil second.options in
    asked-job words a first ∙ ap₂ job-of (spelling-once a.command b.command command) options
    ∙ sym (asked-job words b second)
  where
    no-words : (options : List Given) → words_of options ≡ [] → options ≡ []
    no-words [] e = refl
    no-words (option ∷ options) e = absurd (cc)

-- a command alone was read, and no number is held
pub read-command : (words : List (List ℕ)) (c : Command) (numbers : Numbers) →
    slice_get words 0 ≡ Some (spelling c) → ((s : Setting) → held_for s numbers ≡ None) →
    HasRead c (take 1 words) numbers
read-command [] c numbers e none = absurd (cc)
read-command (word ∷ rest) c numbers e none = record {
  options = [];
  spell = record {
    are = ap (λ w. w ∷ []) (some-same word (spelling c) e);
    right = tt;
    once = tt;
  };
  held = none;
}

-- the first word is missing, or is no command
pub no-first : (words : List (String Global)) → None ≡ slice_get words 0 →
    IsWrongAt (texts words) 0
no-first words none = wrong-command (texts words) (no-command words none)
  where
    no-command : (words : List (String Global)) → None ≡ slice_get words 0 →
        (c : Command) (rest : List (List ℕ)) → texts words ≡ spelling c ∷ rest → ⊥
    no-command [] none c rest e = absurd (cc)
    no-command (word ∷ words) none c rest e = absurd (cc)

pub other-first : (words : List (String Global)) (first : String Global) →
    Some first ≡ slice_get words 0 → ((c : Command) → string_bytes first ≡ spelling c → ⊥) →
    IsWrongAt (texts words) 0
other-first words first here other = wrong-command (texts words) (no-command words here)
  where
    no-command : (words : List (String Global)) → Some first ≡ slice_get words 0 →
        (c : Command) (rest : List (List ℕ)) → texts words ≡ spelling c ∷ rest → ⊥
    no-command [] here c rest e = absurd (cc)
    no-command (word ∷ words) here c rest e =
        let same : first ≡ word = cc in
        let spelt : string_bytes word ≡ spelling c = cc in
        other c (ap string_bytes same ∙ spelt)

-- numbers are in their ranges, also where none is given
default-in-range : (s : Setting) → (least s ≤ default s) × (default s ≤ greatest s)
default-in-range Workers = (omega arith, omega arith)
default-in-range Nodes = (omega arith, omega arith)
default-in-range Colours = (omega arith, omega arith)
default-in-range Moves = (omega arith, omega arith)
default-in-range Seed = (omega arith, omega arith)
default-in-range Orders = (omega arith, omega arith)

pub in-range : (s : Setting) (c : Command) (options : List Given) →
    AllByRecursion (IsRightFor c) options →
    (least s ≤ number_by options s) × (number_by options s ≤ greatest s)
in-range s c [] right = default-in-range s
in-range s c (option ∷ options) right = elim (cases_Bool (same_setting s option.setting)) [
  | inl same ↦
      (let is = subst (λ t. IsNumberFor t option.number)
      (sym (same-settings s option.setting same)) right.0.1 in
      rw same (is.low, is.high))
  | inr other ↦ rw other (in-range s c options right.1)
]

pub asked-in-range : (words : List (List ℕ)) (job : Job) → AskFor words job → IsInRange job
asked-in-range words job asked = λ s.
    subst (λ n. (least s ≤ n) × (n ≤ greatest s)) (sym (asked.numbers s))
    (in-range s job.command asked.options asked.spell.right)
