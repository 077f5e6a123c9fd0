-- The fields of an instance text: their names, their ranges and their order.
use Rattle.std.specs.Prelude.{ℕ, zero, suc, ◌+◌, nat_le, Bool, ◌&&◌, cond, List, [], ◌∷◌, ◌++◌, map}
use Rattle.std.specs.Prelude.{get_or, replicate, codes, IsTrue, Result, Ok, Err}
use Rattle.std.specs.List.{list_all, prefix_len}
use Rattle.line_text.specs.Numbers.{is_digit, value}
use Rattle.instance_text.specs.declared.field.Field.{Field}
use Rattle.instance_text.specs.declared.field.Field.TheVariants.{SizeCount, Size, ColourCount}
use Rattle.instance_text.specs.declared.field.Field.TheVariants.{OrderCount, Weight, Colour}
use Rattle.instance_text.specs.declared.error.InstanceError.{InstanceError}
use Rattle.instance_text.specs.declared.error.InstanceError.TheVariants.{BadByte, Short, OutOfRange}
use Rattle.instance_text.specs.Words.{Word}

abbrev pub name_of : Field → List ℕ
name_of SizeCount = codes "sizecount"
name_of Size = codes "size"
name_of ColourCount = codes "colourcount"
name_of OrderCount = codes "orders"
name_of Weight = codes "weight"
name_of Colour = codes "colour"

abbrev pub least : Field → ℕ
least SizeCount = 1
least Size = 1
least ColourCount = 0
least OrderCount = 0
least Weight = 1
least Colour = 1

abbrev pub greatest : Field → ℕ
greatest SizeCount = 1024
greatest Size = 20000
greatest ColourCount = 4096
greatest OrderCount = 1024
greatest Weight = 1000000
greatest Colour = 4096

abbrev pub in_range : Field → ℕ → Bool
in_range what n = nat_le (least what) n && nat_le n (greatest what)

-- the fields of so many orders
unfoldable pub order_fields : ℕ → List Field
order_fields zero = []
order_fields (suc n) = Weight ∷ Colour ∷ order_fields n

-- the fields of a text with so many sizes and orders, token by token
abbrev pub fields : ℕ → ℕ → List Field
fields sizes orders =
    SizeCount ∷ replicate sizes Size ++ ColourCount ∷ OrderCount ∷ order_fields orders

-- what the word at an index stands for
abbrev pub number_at : List Word → ℕ → ℕ
number_at words i = get_or (map (λ w. value w.bytes) words) i 0

-- the fields of a text of these words: the first word says how many sizes there are, and the
-- second word behind these how many orders
abbrev pub fields_of : List Word → List Field
fields_of words = fields (number_at words 0) (number_at words (number_at words 0 + 2))

-- a token judged whole, where it should be of this field and is the one of this number: first
-- whether it is there, then whether each byte is a digit, then its range
abbrev pub judged : Field → ℕ → List Word → Result ℕ InstanceError
judged what token [] = Err (Short token)
judged what token (w ∷ ws) =
    cond (list_all is_digit w.bytes)
    (cond (in_range what (value w.bytes)) (Ok (value w.bytes)) (Err (OutOfRange what token)))
    (Err (BadByte (w.at + prefix_len is_digit w.bytes)))

-- the word is of digits, and in the range of its field
pub record IsRight (what : Field) (word : Word) : Type 0 where
  pub digits : IsTrue (list_all is_digit word.bytes)
  pub range : IsTrue (in_range what (value word.bytes))

-- so many words, each right for its field
abbrev pub AreRight : List Field → List Word → Type 0
AreRight [] [] = Unit {0}
AreRight [] (w ∷ ws) = ⊥
AreRight (what ∷ fields) [] = ⊥
AreRight (what ∷ fields) (w ∷ ws) = IsRight what w × AreRight fields ws
