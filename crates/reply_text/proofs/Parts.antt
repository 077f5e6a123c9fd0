-- Lines by the parts that are put in.
use Rattle.std.proofs.Common.{◌≡◌, ℕ, List, [], ◌∷◌, ◌++◌, append_assoc, codes, flat_map, length}
use Rattle.std.proofs.Common.{◌∙◌, ap, refl, sym}
use Rattle.std.specs.Prelude.{decimal}
use Rattle.line_text.specs.Numbers.{ordinal}
use Rattle.reply_text.specs.Summary.{first_line}
use Rattle.reply_text.specs.declared.summary.Summary.{Summary}

-- words and the length of a path, and the path
pub path-parts : (name path numbers : List ℕ) → numbers ≡ path
    → name ++ decimal (length path) ++ flat_map (λ g. 32 ∷ ordinal g) path
    ≡ (name ++ decimal (length numbers)) ++ flat_map (λ g. 32 ∷ ordinal g) numbers
path-parts name path numbers same =
    rw same refl

-- the first line of a summary: the seed and the orders, and the weight
pub first-parts : (summary : Summary) (seed orders : ℕ) → seed ≡ summary.seed
    → orders ≡ summary.orders → first_line summary ++ 10 ∷ []
    ≡ (codes "drill seed " ++ decimal seed ++ codes " orders " ++ decimal orders)
    ++ ((codes " weight " ++ decimal summary.weight) ++ 10 ∷ [])
first-parts summary seed orders s o =
    rw (s, o) (grouped (codes "drill seed ") (decimal summary.seed) (codes " orders ")
    (decimal summary.orders) (codes " weight ") (decimal summary.weight))
  where
    grouped : (a b c d e f : List ℕ) → (((((a ++ b) ++ c) ++ d) ++ e) ++ f) ++ 10 ∷ []
        ≡ (((a ++ b) ++ c) ++ d) ++ ((e ++ f) ++ 10 ∷ [])
    grouped a b c d e f = simp append_assoc

-- what is out of its range, and at which token
pub range-parts : (name given number : List ℕ) → given ≡ name
    → codes "refused instance range " ++ ((name ++ codes " token ") ++ number)
    ≡ codes "refused instance range " ++ (given ++ (codes " token " ++ number))
range-parts name given number same =
    rw same (ap (λ rest. codes "refused instance range " ++ rest)
    (append_assoc name (codes " token ") number))

-- the two numbers of a spent budget, and the end
pub spent-parts : (loss spent : List ℕ)
    → codes "feasible\nloss " ++ (loss ++ (codes "\nspent " ++ (spent ++ codes "\nend\n")))
    ≡ (((codes "feasible\nloss " ++ loss) ++ codes "\nspent ") ++ spent) ++ codes "\nend\n"
spent-parts loss spent =
    ap (λ rest. codes "feasible\nloss " ++ rest)
    (sym (append_assoc (loss ++ codes "\nspent ") spent (codes "\nend\n")
    ∙ append_assoc loss (codes "\nspent ") (spent ++ codes "\nend\n")))
