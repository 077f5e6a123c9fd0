-- A text is one schedule, or wrong at one token, and never both.
use Rattle.std.proofs.Common.{◌≡◌, ℕ, ◌+◌, ◌<◌, true, false, List, [], ◌∷◌, ◌++◌, map}
use Rattle.std.proofs.Common.{length, codes, refl, sym, ap, ◌∙◌, subst, arith, inl, inr, ltb-true}
use Rattle.std.proofs.lemmas.Bool.{and_parts, both_ways}
use Rattle.std.specs.List.{list_all, AllByRecursion}
use Rattle.line_text.specs.Numbers.{is_digit, value}
use Rattle.list_laws.proofs.Tests.{and-right}
use Rattle.schedule_text.specs.Text.{tokens_of, is_worker}
use Rattle.schedule_text.specs.Laws.{OneSchedule, EachIsAWorker, OneWrongToken, NeverBoth}

-- two lists of tokens behind `schedule` are one
same-numbers : (tokens xs ys : List (List ℕ)) → tokens ≡ codes "schedule" ∷ xs →
    tokens ≡ codes "schedule" ∷ ys → xs ≡ ys
same-numbers tokens xs ys e f = tail (sym e ∙ f)
  where
    tail : codes "schedule" ∷ xs ≡ codes "schedule" ∷ ys → xs ≡ ys
    tail g = cc

pub one-schedule : OneSchedule
one-schedule workers text first second a b =
    sym a.values
    ∙ ap (map value) (same-numbers (tokens_of text) a.numbers b.numbers a.tokens b.tokens)
    ∙ b.values

-- the values of tokens that are workers' numbers are workers
workers-below : (workers : ℕ) (tokens : List (List ℕ)) →
    list_all (is_worker workers) tokens ≡ true →
    AllByRecursion (λ worker. worker < workers) (map value tokens)
workers-below workers [] h = tt
workers-below workers (t ∷ tokens) h =
    let k = and_parts (is_worker workers t) (list_all (is_worker workers) tokens) h in (
      ltb-true (value t) workers (and-right (list_all is_digit t) _ k.0),
      workers-below workers tokens k.1,
    )

pub schedule-below : EachIsAWorker
schedule-below workers text schedule a =
    subst (AllByRecursion (λ worker. worker < workers)) a.values
    (workers-below workers a.numbers a.of_workers)

-- where all tokens are workers' numbers none is wrong
none-wrong : (workers : ℕ) (tokens front others : List (List ℕ)) (wrong : List ℕ) →
    list_all (is_worker workers) tokens ≡ true → tokens ≡ front ++ wrong ∷ others →
    is_worker workers wrong ≡ false → ⊥
none-wrong workers [] [] others wrong h e f = absurd (cc)
none-wrong workers [] (u ∷ front) others wrong h e f = absurd (cc)
none-wrong workers (t ∷ tokens) [] others wrong h e f =
    let k = and_parts (is_worker workers t) (list_all (is_worker workers) tokens) h in
    let same : t ≡ wrong = cc in
    both_ways (is_worker workers wrong) f (subst (λ u. is_worker workers u ≡ true) same k.0)
none-wrong workers (t ∷ tokens) (u ∷ front) others wrong h e f =
    let k = and_parts (is_worker workers t) (list_all (is_worker workers) tokens) h in
    let more : tokens ≡ front ++ wrong ∷ others = cc in
    none-wrong workers tokens front others wrong k.1 more f

pub never-both : NeverBoth
never-both workers text schedule token a (inl b) = b.no_word a.numbers a.tokens
never-both workers text schedule token a (inr b) =
    none-wrong workers a.numbers b.front b.others b.wrong a.of_workers
    (same-numbers (tokens_of text) a.numbers (b.front ++ b.wrong ∷ b.others) a.tokens b.tokens)
    b.of_none

-- the tokens before the first wrong one are as many
same-place : (workers : ℕ) (front others front' others' : List (List ℕ)) (wrong wrong' : List ℕ) →
    list_all (is_worker workers) front ≡ true → list_all (is_worker workers) front' ≡ true →
    is_worker workers wrong ≡ false → is_worker workers wrong' ≡ false →
    front ++ wrong ∷ others ≡ front' ++ wrong' ∷ others' → length front ≡ length front'
same-place workers [] others [] others' wrong wrong' h h' f f' e = refl
same-place workers [] others (u ∷ front') others' wrong wrong' h h' f f' e =
    let same : u ≡ wrong = cc in
    let k = and_parts (is_worker workers u) (list_all (is_worker workers) front') h' in
    absurd (both_ways (is_worker workers wrong) f
    (subst (λ t. is_worker workers t ≡ true) same k.0))
same-place workers (t ∷ front) others [] others' wrong wrong' h h' f f' e =
    let same : t ≡ wrong' = cc in
    let k = and_parts (is_worker workers t) (list_all (is_worker workers) front) h in
    absurd (both_ways (is_worker workers wrong') f'
    (subst (λ t. is_worker workers t ≡ true) same k.0))
same-place workers (t ∷ front) others (u ∷ front') others' wrong wrong' h h' f f' e =
    let k = and_parts (is_worker workers t) (list_all (is_worker workers) front) h in
    let k' = and_parts (is_worker workers u) (list_all (is_worker workers) front') h' in
    let more : front ++ wrong ∷ others ≡ front' ++ wrong' ∷ others' = cc in
    omega (arith, same-place workers front others front' others' wrong wrong' k.1 k'.1 f f' more)

pub one-token : OneWrongToken
one-token workers text first second (inl a) (inl b) = a.place ∙ sym b.place
one-token workers text first second (inl a) (inr b) = absurd (a.no_word _ b.tokens)
one-token workers text first second (inr a) (inl b) = absurd (b.no_word _ a.tokens)
one-token workers text first second (inr a) (inr b) =
    let same : length a.front ≡ length b.front =
    same-place workers a.front a.others b.front b.others a.wrong b.wrong a.of_workers b.of_workers
    a.of_none b.of_none (same-numbers (tokens_of text) (a.front ++ a.wrong ∷ a.others)
    (b.front ++ b.wrong ∷ b.others) a.tokens b.tokens) in
    a.place ∙ ap (λ n. n + 1) same ∙ sym b.place
