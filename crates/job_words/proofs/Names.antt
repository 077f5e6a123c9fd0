-- What a word stands for in a table of names.
use Rattle.std.proofs.Common.{◌≡◌, ℕ, Bool, true, false, cond, List, [], ◌∷◌, refl, subst}
use Rattle.std.specs.Prelude.{Option, Some, IfSome}
use Rattle.std.specs.List.{AllByRecursion}
use Rattle.std.specs.Str.{bytes_eq}
use Rattle.std.proofs.lemmas.Slice.Eq.{bytes_eq-Decides}
use Rattle.job_words.specs.Table.{served_as}

-- what holds of each row of a table holds of a word that stands for something
module _ {T : Type 0} (P : List ℕ → T → Type 0) (word : List ℕ) where
  of-row : (name : List ℕ) (meaning : T) (rest : Option T) (same : Bool) →
      bytes_eq name word ≡ same → P name meaning → IfSome rest (P word) →
      IfSome (cond same (Some meaning) rest) (P word)
  of-row name meaning rest true e here later =
      subst (λ text. P text meaning) ((bytes_eq-Decides name word).0 e) here
  of-row name meaning rest false e here later = later

  pub found : (rows : List (List ℕ × T)) → AllByRecursion (λ row. P row.0 row.1) rows →
      IfSome (served_as rows word) (P word)
  found [] each = tt
  found (row ∷ rows) each =
      of-row row.0 row.1 (served_as rows word) (bytes_eq row.0 word) refl each.0 (found rows each.1)
