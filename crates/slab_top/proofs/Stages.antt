-- Each stage of a command is decided, and so are stages one after the other. What a reader shows
-- of its text is all that is wanted of its stage.
use Rattle.std.specs.Prelude.{Result, Ok, Err, Option, Some, None}
use Rattle.std.proofs.Common.{◌≡◌, ◌≢◌, ℕ, ◌^◌, ◌<◌, List, length, drop, sym, ap, ap₂, ◌∙◌}
use Rattle.std.proofs.Common.{subst, inl, inr, arith}
use Rattle.mill_model.specs.Instance.{Problem}
use Rattle.instance_text.proofs.Exact.{begins_once, begins_right, refused_once}
use Rattle.answer_text.specs.declared.answer.Answer.{Answer as SomeAnswer}
use Rattle.answer_text.specs.declared.error.AnswerTextError.{AnswerTextError}
use Rattle.answer_text.specs.declared.error.AnswerTextError.TheVariants as error
use Rattle.answer_text.proofs.Unique.{Says, comes-where}
use Rattle.job_words.specs.declared.job.Job.{Job}
use Rattle.job_words.specs.Words.{limit_of}
use Rattle.reply_text.specs.declared.refusal.Refusal.{Refusal}
use Rattle.reply_text.specs.declared.refusal.Refusal.TheVariants.{Instance, Rest, Answer, Schedule}
use Rattle.schedule_text.proofs.Decided.{one-schedule, one-token, never-both}
use Rattle.slab_top.specs.Stage.{Stage, IsDecided, and_then}
use Rattle.slab_top.specs.Input.{input_within, whole_input}
use Rattle.slab_top.specs.Input.{Front, front, nothing_behind, answer_behind}
use Rattle.slab_top.specs.Input.{something_proved, instance_alone, instance_with_answer}
use Rattle.slab_top.specs.Input.{instance_with_proof, lines_behind, IsWrongAnswer}
use Rattle.slab_top.specs.Input.{after_white, schedule_behind, instance_with_schedule}
use Rattle.slab_top.proofs.Behind.{rest-is-blank, first-once}

-- ---- one stage after the other

module _ {A B : Type 0} (first : Stage A) (next : A → Stage B) (decided : IsDecided first)
    (decides : (a : A) → first.Reads a → IsDecided (next a)) where
  -- the second stage refuses
  Later : Refusal → Type 0
  Later r = (a : A) × first.Reads a × (next a).Refuses r

  -- both read: the first stage the same value, and so the second
  one-behind : (v w : B) → (and_then first next).Reads v → (and_then first next).Reads w → v ≡ w
  one-behind v w h k =
      let same = decided.one h.0 k.0 h.1 k.1 in
      (decides k.0 k.1).one v w (subst (λ a. (next a).Reads v) same h.2) k.2

  -- both refuse: at the first stage, or at the second behind the same value
  why-behind : (r s : Refusal) → (and_then first next).Refuses r →
      (and_then first next).Refuses s → r ≡ s
  why-behind r s (inl h) (inl k) = decided.why r s h k
  why-behind r s (inl h) (inr k) = absurd (decided.apart k.0 r k.1 h)
  why-behind r s (inr h) (inl k) = absurd (decided.apart h.0 s h.1 k)
  why-behind r s (inr h) (inr k) =
      let same = decided.one h.0 k.0 h.1 k.1 in
      (decides k.0 k.1).why r s (subst (λ a. (next a).Refuses r) same h.2) k.2

  -- one reads where the other refuses
  apart-behind : (v : B) (r : Refusal) → (and_then first next).Reads v →
      (and_then first next).Refuses r → ⊥
  apart-behind v r h (inl k) = decided.apart h.0 r h.1 k
  apart-behind v r h (inr k) =
      let same = decided.one k.0 h.0 k.1 h.1 in
      (decides h.0 h.1).apart v r h.2 (subst (λ a. (next a).Refuses r) same k.2)

  pub and-then-decided : IsDecided (and_then first next)
  and-then-decided = record { one = one-behind; why = why-behind; apart = apart-behind }

-- ---- the length

within-decided : (most : Option ℕ) (input : List ℕ) → IsDecided (input_within most input)
within-decided None input = record {
  one = λ a b h k. h ∙ sym k;
  why = λ r s h k. absurd h;
  apart = λ a r h k. k;
}
within-decided (Some limit) input = record {
  one = λ a b h k. h.0 ∙ sym k.0;
  why = λ r s h k. h.0 ∙ sym k.0;
  apart = λ a r h k. (let within = h.1 in let long = k.1 in omega arith);
}

pub whole-decided : (job : Job) (input : List ℕ) → IsDecided (whole_input job input)
whole-decided job = within-decided (limit_of job.command)

-- ---- the instance

front-decided : (p : ℕ) (bytes : List ℕ) → IsDecided (front p bytes)
front-decided p bytes = record {
  one = λ a b h k.
      (let same = begins_once bytes a.problem b.problem a.end b.end h.1 k.1 (h.0 ∙ sym k.0) in
      let make : Problem → ℕ → Front = λ problem end. record { problem = problem; end = end } in
      ap₂ make same.0 same.1);
  why = λ r s h k. h.1 ∙ ap Instance (refused_once bytes h.0 k.0 h.2 k.2) ∙ sym k.1;
  apart = λ a r h k. begins_right bytes a.problem a.end k.0 h.1 k.2;
}

-- ---- nothing behind it

nothing-decided : (bytes : List ℕ) (front : Front) → IsDecided (nothing_behind bytes front)
nothing-decided bytes front = record {
  one = λ a b h k. h.0 ∙ sym k.0;
  why = λ r s h k. h.1 ∙ ap Rest (first-once bytes front.end h.0 k.0 h.2 k.2) ∙ sym k.1;
  apart = λ a r h k. rest-is-blank bytes front.end k.0 k.2 h.1;
}

-- ---- an answer behind it

-- what is said of lines is one answer or one error, if it isn't want of memory
says-once : (orders : ℕ) (lines : List (List ℕ)) (a b : Result SomeAnswer AnswerTextError) →
    orders < 2 ^ 16 → a ≢ Err error.OutOfMemory → b ≢ Err error.OutOfMemory →
    Says orders lines a → Says orders lines b → a ≡ b
says-once orders lines a b small of_a of_b h k =
    elim ((comes-where orders lines a b small h of_b).always k) [
      | inl same ↦ same
      | inr memory ↦ absurd (of_a memory)
    ]

error-same : (a b : AnswerTextError) → ◌≡◌ {A = Result SomeAnswer AnswerTextError} (Err a) (Err b) →
    a ≡ b
error-same a b e = cc

answer-same : (a b : SomeAnswer) → ◌≡◌ {A = Result SomeAnswer AnswerTextError} (Ok a) (Ok b) → a ≡ b
answer-same a b e = cc

not-memory : (a : AnswerTextError) → a ≢ error.OutOfMemory →
    ◌≢◌ {A = Result SomeAnswer AnswerTextError} (Err a) (Err error.OutOfMemory)
not-memory a of e = of (error-same a error.OutOfMemory e)

module _ (bytes : List ℕ) (front : Front) (small : length front.problem.orders < 2 ^ 16) where
  abbrev orders : ℕ
  orders = length front.problem.orders

  abbrev lines : List (List ℕ)
  lines = lines_behind bytes front.end

  one-answer : (a b : SomeAnswer) → Says orders lines (Ok a) → Says orders lines (Ok b) → a ≡ b
  one-answer a b h k =
      answer-same a b (says-once orders lines (Ok a) (Ok b) small (λ e. cc) (λ e. cc) h k)

  one-cause : (a b : AnswerTextError) → IsWrongAnswer orders lines a →
      IsWrongAnswer orders lines b → a ≡ b
  one-cause a b h k =
      error-same a b (says-once orders lines (Err a) (Err b) small (not-memory a h.of_text)
      (not-memory b k.of_text) h.wrong k.wrong)

  not-both : (a : SomeAnswer) (b : AnswerTextError) → Says orders lines (Ok a) →
      IsWrongAnswer orders lines b → ⊥
  not-both a b h k =
      let same = says-once orders lines (Ok a) (Err b) small (λ e. cc) (not-memory b k.of_text) h
      k.wrong in
      absurd (cc)

  answer-decided : IsDecided (answer_behind bytes front)
  answer-decided = record {
    one = λ a b h k.
        (let make : Problem → SomeAnswer → Problem × SomeAnswer = λ problem answer.
        (problem, answer) in
        ap₂ make (h.0 ∙ sym k.0) (one-answer a.1 b.1 h.1 k.1));
    why = λ r s h k. h.1 ∙ ap Answer (one-cause h.0 k.0 h.2 k.2) ∙ sym k.1;
    apart = λ a r h k. not-both a.1 k.0 h.1 k.2;
  }

-- ---- its kind

proved-decided : (given : Problem × SomeAnswer) → IsDecided (something_proved given)
proved-decided given = record {
  one = λ a b h k. h.0 ∙ sym k.0;
  why = λ r s h k. h.0 ∙ sym k.0;
  apart = λ a r h k. h.1 k.1;
}

-- ---- a schedule behind it

schedule-decided : (workers : ℕ) (bytes : List ℕ) (front : Front) →
    IsDecided (schedule_behind workers bytes front)
schedule-decided workers bytes front =
    let text = after_white (drop front.end bytes) in
    record {
      one = λ a b h k.
          (let make : Problem → List ℕ → Problem × List ℕ = λ problem schedule.
          (problem, schedule) in
          ap₂ make (h.0 ∙ sym k.0) (one-schedule workers text a.1 b.1 h.1 k.1));
      why = λ r s h k.
          h.1 ∙ ap Schedule (one-token workers text h.0 k.0 h.2 k.2) ∙ sym k.1;
      apart = λ a r h k. never-both workers text a.1 k.0 h.1 k.2;
    }

-- ---- what the commands read

pub alone-decided : (p : ℕ) (bytes : List ℕ) → IsDecided (instance_alone p bytes)
alone-decided p bytes =
    and-then-decided (front p bytes) (nothing_behind bytes) (front-decided p bytes)
    (λ front reads. nothing-decided bytes front)

pub with-answer-decided : (p : ℕ) (bytes : List ℕ) → IsDecided (instance_with_answer p bytes)
with-answer-decided p bytes =
    and-then-decided (front p bytes) (answer_behind bytes) (front-decided p bytes)
    (λ front reads. (let few = reads.1.spelled.within.few_orders in
    answer-decided bytes front (omega arith)))

pub with-proof-decided : (p : ℕ) (bytes : List ℕ) → IsDecided (instance_with_proof p bytes)
with-proof-decided p bytes =
    and-then-decided (instance_with_answer p bytes) something_proved
    (with-answer-decided p bytes) (λ given reads. proved-decided given)

pub with-schedule-decided : (p workers : ℕ) (bytes : List ℕ) →
    IsDecided (instance_with_schedule p workers bytes)
with-schedule-decided p workers bytes =
    and-then-decided (front p bytes) (schedule_behind workers bytes) (front-decided p bytes)
    (λ front reads. schedule-decided workers bytes front)
