-- Words that stand for a list of things, one word each.
use Rattle.std.proofs.Common.{ℕ, ◌<◌, ◌≡◌, List, [], ◌∷◌, ◌++◌, map, length, All, refl, ap, ◌∙◌}
use Rattle.std.proofs.Common.{arith}
use Rattle.std.proofs.lemmas.List.Elements.{All-head, All-tail}
use Rattle.line_text.specs.Words.{BeginsWith}

tail-same : (v w : List ℕ) (vs ws : List (List ℕ)) → v ∷ vs ≡ w ∷ ws → vs ≡ ws
tail-same v w vs ws e = cc

module _ {X : Type 0} (word : X → List ℕ) (P : X → Type 0) where
  -- where some things are read and the next word stands for none, no longer list is spelled there
  pub none-longer : (read things : List X) (rest more : List (List ℕ))
      → map word read ++ rest ≡ map word things ++ more → length read < length things
      → All P things → ((x : X) → P x → ¬ (BeginsWith rest (word x ∷ []))) → ⊥
  none-longer read [] rest more e l all none = absurd (omega arith)
  none-longer [] (x ∷ things) rest more e l all none =
      none x (All-head P x things all) (record { more = map word things ++ more; is = e })
  none-longer (y ∷ read) (x ∷ things) rest more e l all none =
      none-longer read things rest more
      (tail-same (word y) (word x) (map word read ++ rest) (map word things ++ more) e)
      (omega arith) (All-tail P x things all) none

  -- one more thing is read
  pub read-more : (words : List (List ℕ)) (read : List X) (x : X) (ahead more : List (List ℕ))
      → words ≡ map word read ++ ahead → ahead ≡ word x ∷ more
      → words ≡ map word (read ++ x ∷ []) ++ more
  read-more words read x ahead more e f =
      e ∙ ap (λ rest. map word read ++ rest) f ∙ from read
    where
      from : (read : List X) → map word read ++ word x ∷ more ≡ map word (read ++ x ∷ []) ++ more
      from [] = refl
      from (y ∷ read) = ap (λ l. word y ∷ l) (from read)
