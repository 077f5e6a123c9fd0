-- Texts of lines.
use Rattle.std.specs.Prelude.{ℕ, Bool, not, ◌&&◌, ◌||◌, cond, List, [], ◌∷◌, ◌++◌, drop, eqb}
use Rattle.std.specs.Prelude.{nat_eq, codes, Option}
use Rattle.std.specs.List.{list_all, starts_with, onto_first, position_from}

-- the lines of a text, without their line feeds; the last one may lack its line feed
abbrev pub text_lines : List ℕ → List (List ℕ)
text_lines [] = []
text_lines (b ∷ bytes) = cond (eqb b 10) ([] ∷ text_lines bytes) (onto_first b (text_lines bytes))

-- the text of some lines, each with its line feed
abbrev pub text_of : List (List ℕ) → List ℕ
text_of [] = []
text_of (line ∷ lines) = line ++ 10 ∷ text_of lines

-- white space: a space, a tab, a line feed or a carriage return
abbrev pub is_white : ℕ → Bool
is_white b = eqb b 32 || eqb b 9 || eqb b 10 || eqb b 13

-- whether a line has only white space
abbrev pub is_blank : List ℕ → Bool
is_blank line = list_all is_white line

-- whether a line is `end`, with nothing but white space behind it
abbrev pub is_end : List ℕ → Bool
is_end line = starts_with nat_eq line (codes "end") && is_blank (drop 3 line)

-- the place of the first line that has more than white space, if there is one
abbrev pub first_filled : List (List ℕ) → Option ℕ
first_filled lines = position_from (λ line. not (is_blank line)) 0 lines
