-- What is written of a judgement on an answer, and whether the answer is accepted.
use Rattle.std.specs.Prelude.{ℕ, ◌+◌, Bool, true, false, List, ◌∷◌, ◌++◌, flat_map, length, codes}
use Rattle.std.specs.Prelude.{decimal, Option, Some, None}
use Rattle.line_text.specs.Numbers.{ordinal}
use Rattle.reply_text.specs.declared.judgement.Judgement.{Judgement}
use Rattle.reply_text.specs.declared.judgement.Judgement.TheVariants.{Legal, Verified, Confirmed}
use Rattle.reply_text.specs.declared.judgement.Judgement.TheVariants.{Heavy, Colourful}
use Rattle.reply_text.specs.declared.judgement.Judgement.TheVariants.{LossDiffers, OrderDiffers}
use Rattle.reply_text.specs.declared.judgement.Judgement.TheVariants.{Missing, Stray, Unsound}

-- whether the answer is as it says
abbrev pub is_accepted : Judgement → Bool
is_accepted (Legal loss) = true
is_accepted (Verified loss) = true
is_accepted (Confirmed order) = true
is_accepted judgement = false

-- an order counted from 1, or 0 where there is none
abbrev pub number_of : Option ℕ → ℕ
number_of None = 0
number_of (Some order) = order + 1

-- a path of a log: what is wrong there, how many groups it has, and these
abbrev pub wrong_path : List ℕ → List ℕ → List ℕ
wrong_path fault path =
    codes "rejected " ++ fault ++ 32 ∷ decimal (length path)
    ++ flat_map (λ group. 32 ∷ ordinal group) path

-- slabs and orders are counted from 0 in a judgement, and from 1 in its text
abbrev pub words_of_judgement : Judgement → List ℕ
words_of_judgement (Legal loss) = codes "legal loss " ++ decimal loss
words_of_judgement (Verified loss) = codes "verified loss " ++ decimal loss
words_of_judgement (Confirmed order) = codes "confirmed infeasible order " ++ decimal (order + 1)
words_of_judgement (Heavy slab load) =
    codes "rejected heavy slab " ++ decimal (slab + 1) ++ codes " load " ++ decimal load
words_of_judgement (Colourful slab colours) =
    codes "rejected colourful slab " ++ decimal (slab + 1) ++ codes " colours " ++ decimal colours
words_of_judgement (LossDiffers stated found) =
    codes "rejected loss stated " ++ decimal stated ++ codes " found " ++ decimal found
words_of_judgement (OrderDiffers stated found) =
    codes "rejected order stated " ++ decimal (stated + 1)
    ++ codes " found " ++ decimal (number_of found)
words_of_judgement (Missing path) = wrong_path (codes "missing") path
words_of_judgement (Stray path) = wrong_path (codes "stray") path
words_of_judgement (Unsound path) = wrong_path (codes "unsound") path
