-- Tokens that are the numbers of workers: how one is told, and the list of those that were read.
use Rattle.std.proofs.Common.{◌≡◌, ◌≢◌, ℕ, suc, ◌+◌, ◌-◌, ◌^◌, ◌<◌, ◌≤◌, Bool, true, false, ◌&&◌}
use Rattle.std.proofs.Common.{cond, List, [], ◌∷◌, ◌++◌, map, take, length, codes, ltb, min, refl}
use Rattle.std.proofs.Common.{sym, ap, ap₂, ◌∙◌, arith, inl, inr, append_assoc, lt-ltb, le-ltb}
use Rattle.std.specs.List.{list_all, prefix_len}
use Rattle.std.proofs.lemmas.Bool.{cases_Bool, and_from, and_left, and_right}
use Rattle.std.proofs.lemmas.List.{map-append, take_all}
use Rattle.std.proofs.lemmas.List.Folds.{list_all-append}
use Rattle.line_text.specs.Numbers.{is_digit, value}
use Rattle.schedule_text.specs.Text.{tokens_of, is_worker}

-- a token is of digits exactly where as many stand in front as it has bytes
digits-all : (token : List ℕ) → prefix_len is_digit token ≡ length token →
    list_all is_digit token ≡ true
digits-all [] e = refl
digits-all (b ∷ token) e = go (is_digit b) e (digits-all token)
  where
    go : (d : Bool) → cond d (1 + prefix_len is_digit token) 0 ≡ suc (length token) →
        (prefix_len is_digit token ≡ length token → list_all is_digit token ≡ true) →
        (d && list_all is_digit token) ≡ true
    go true k more = more (omega (arith, k))
    go false k more = absurd (omega (arith, k))

digits-count : (token : List ℕ) → list_all is_digit token ≡ true →
    prefix_len is_digit token ≡ length token
digits-count [] h = refl
digits-count (b ∷ token) h = go (is_digit b) h (digits-count token)
  where
    go : (d : Bool) → (d && list_all is_digit token) ≡ true →
        (list_all is_digit token ≡ true → prefix_len is_digit token ≡ length token) →
        cond d (1 + prefix_len is_digit token) 0 ≡ suc (length token)
    go true k more = omega (arith, more k)
    go false k more = absurd (let z : false ≡ true = k in cc)

module _ (workers count number : ℕ) (token : List ℕ) (few : workers < 2 ^ 16)
    (in-front : count ≡ prefix_len is_digit token)
    (is : number ≡ min (value (take count token)) (2 ^ 64 - 1)) where
  -- where all of it is digits, the number is its value up to the greatest `u64`
  whole-value : count ≡ length token → number ≡ min (value token) (2 ^ 64 - 1)
  whole-value e =
      is ∙ ap (λ digits. min (value digits) (2 ^ 64 - 1)) (take_all count token (omega (arith, e)))

  pub worker-told : count ≡ length token → number < workers → is_worker workers token ≡ true
  worker-told e small =
      and_from (list_all is_digit token) (ltb (value token) workers)
      (digits-all token (sym in-front ∙ e))
      (lt-ltb (value token) workers (omega (arith, whole-value e)))

  pub worker-value : count ≡ length token → number < workers → number ≡ value token
  worker-value e small = omega (arith, whole-value e)

  pub too-great : count ≡ length token → workers ≤ number → is_worker workers token ≡ false
  too-great e great =
      and_right (list_all is_digit token) (ltb (value token) workers)
      (le-ltb (value token) workers (omega (arith, whole-value e)))

  pub not-digits : count ≢ length token → is_worker workers token ≡ false
  not-digits differs = elim (cases_Bool (list_all is_digit token)) [
    | inl d ↦ absurd (differs (in-front ∙ digits-count token d))
    | inr d ↦ and_left (list_all is_digit token) (ltb (value token) workers) d
  ]

-- the tokens so far are `schedule` and the numbers of workers, and those of a list
abbrev pub HasRead : ℕ → List ℕ → List (List ℕ) → List ℕ → Type 0
HasRead workers text ahead schedule =
    (numbers : List (List ℕ)) × (tokens_of text ≡ codes "schedule" ∷ (numbers ++ ahead))
    × (list_all (is_worker workers) numbers ≡ true) × (map value numbers ≡ schedule)

-- one more of them
pub has-read-more : (workers worker : ℕ) (text token : List ℕ) (before ahead : List (List ℕ))
    (schedule more : List ℕ) → HasRead workers text before schedule → before ≡ token ∷ ahead →
    is_worker workers token ≡ true → worker ≡ value token → more ≡ schedule ++ worker ∷ [] →
    HasRead workers text ahead more
has-read-more workers worker text token before ahead schedule more (numbers, t, h, v) e w n m = (
  numbers ++ token ∷ [],
  t ∙ ap (λ ts. codes "schedule" ∷ (numbers ++ ts)) e
      ∙ ap (λ ts. codes "schedule" ∷ ts) (sym (append_assoc numbers (token ∷ []) ahead)),
  list_all-append (is_worker workers) numbers (token ∷ [])
      ∙ and_from (list_all (is_worker workers) numbers) (is_worker workers token && true) h
      (and_from (is_worker workers token) true w refl),
  map-append value numbers (token ∷ []) ∙ ap₂ (λ a b. a ++ b ∷ []) v (sym n) ∙ sym m,
)
