-- The instance text: which texts begin with an instance, and for what the others are refused.
use Rattle.std.specs.Prelude.{◌≡◌, ℕ, suc, List, [], ◌∷◌, ◌++◌, length, map, flat_map, decimal}
use Rattle.std.specs.Prelude.{IsTrue, Err}
use Rattle.std.specs.List.{list_all}
use Rattle.mill_model.specs.declared.order.Order.{Order}
use Rattle.mill_model.specs.Instance.{Problem, IsWithin, AreSizesOf}
use Rattle.line_text.specs.Numbers.{is_digit, value}
use Rattle.instance_text.specs.declared.field.Field.{Field}
use Rattle.instance_text.specs.declared.error.InstanceError.{InstanceError}
use Rattle.instance_text.specs.Words.{Word, words, end_behind, IsBlankFrom}
use Rattle.instance_text.specs.Words.{IsFirstNotBlank}
use Rattle.instance_text.specs.Fields.{fields_of, judged, AreRight}

abbrev pub numbers_of_orders : List Order → List ℕ
numbers_of_orders orders = flat_map (λ order. order.weight ∷ order.colour ∷ []) orders

-- the numbers of an instance, in the order of the text
abbrev pub numbers_of : List ℕ → ℕ → List Order → List ℕ
numbers_of sizes stated orders =
    length sizes ∷ sizes ++ stated ∷ length orders ∷ numbers_of_orders orders

-- the words are of digits, and are the numbers of an instance within the limits
pub record AreInstance (tokens : List Word) (problem : Problem) : Type 0 where
  pub given : List ℕ
  pub digits : IsTrue (list_all (λ word. list_all is_digit word.bytes) tokens)
  pub values : map (λ word. value word.bytes) tokens
      ≡ numbers_of given problem.stated problem.orders
  pub within : IsWithin given problem.stated problem.orders problem.p
  pub sizes : AreSizesOf given problem.sizes

-- the text begins with the tokens of an instance, and the last of them ends before this place
pub record Begins (text : List ℕ) (problem : Problem) (end : ℕ) : Type 0 where
  pub tokens : List Word
  pub others : List Word
  pub split : words text ≡ tokens ++ others
  pub spelled : AreInstance tokens problem
  pub last : end ≡ end_behind 0 tokens

-- the text is an instance's: only white space follows it
pub record IsInstanceText (text : List ℕ) (problem : Problem) : Type 0 where
  pub end : ℕ
  pub begins : Begins text problem end
  pub blank : IsBlankFrom text end

-- the text begins with an instance's, and something follows it, first at this place
pub record HasRest (text : List ℕ) (problem : Problem) (at : ℕ) : Type 0 where
  pub end : ℕ
  pub begins : Begins text problem end
  pub first : IsFirstNotBlank text end at

-- the text is refused: the words in front are right, and this is what is wrong with the next
pub record IsRefused (text : List ℕ) (why : InstanceError) : Type 0 where
  pub front : List Word
  pub others : List Word
  pub split : words text ≡ front ++ others
  pub met : List Field
  pub what : Field
  pub more : List Field
  pub announced : fields_of (words text) ≡ met ++ what ∷ more
  pub right : AreRight met front
  pub wrong : judged what (suc (length front)) others ≡ Err why

-- the text that is printed for an instance
abbrev pub line : List ℕ → List ℕ
line text = text ++ 10 ∷ []

abbrev pub order_line : Order → List ℕ
order_line order = line (decimal order.weight ++ 32 ∷ decimal order.colour)

abbrev pub canonical_text : Problem → List ℕ
canonical_text problem =
    line (decimal (length problem.sizes) ++ flat_map (λ size. 32 ∷ decimal size) problem.sizes)
    ++ line (decimal problem.stated)
    ++ line (decimal (length problem.orders))
    ++ flat_map order_line problem.orders
