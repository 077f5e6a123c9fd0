-- Records in the order of closing.
use Rattle.std.specs.Prelude.{ℕ, List}
use Rattle.mill_model.specs.declared.closing.Entry.{Entry}

-- for a number of orders, with room for so many more
pub record Pieced : Type 0 where
  pub orders : ℕ
  pub entries : List Entry
  pub spare : ℕ
