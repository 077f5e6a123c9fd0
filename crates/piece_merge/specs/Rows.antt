-- Pieces over two orders whose paths have one child each, and over three orders, where two paths
-- have several children.
use Rattle.std.specs.Prelude.{ℕ, List, [], ◌∷◌}
use Rattle.mill_model.specs.declared.closing.Entry.{Entry}
use Rattle.mill_model.specs.declared.closing.Closing.{Closing}
use Rattle.mill_model.specs.declared.closing.Closing.TheVariants.{Split, Leaf}

abbrev entry : List ℕ → Closing → Entry
entry path closing = record { path = path; closing = closing }

-- the second path in the first piece, and the others in the second
abbrev pub later_first : List (List Entry)
later_first =
    (entry (0 ∷ []) Split ∷ [])
    ∷ (entry (0 ∷ 1 ∷ []) Leaf ∷ entry [] Split ∷ [])
    ∷ []

-- no record in the first piece
abbrev pub all_in_the_last : List (List Entry)
all_in_the_last =
    []
    ∷ (entry (0 ∷ 1 ∷ []) Leaf ∷ entry (0 ∷ []) Split ∷ entry [] Split ∷ [])
    ∷ []

-- Of three children of a path the last, and the paths above it.
abbrev pub last_sibling : List Entry
last_sibling = entry (0 ∷ 1 ∷ 2 ∷ []) Leaf ∷ entry (0 ∷ 1 ∷ []) Split ∷ entry (0 ∷ []) Split ∷ []

-- The other two, and a sibling that comes before their parent, behind its child.
abbrev pub other_siblings : List Entry
other_siblings =
    entry (0 ∷ 1 ∷ 0 ∷ []) Leaf
    ∷ entry (0 ∷ 1 ∷ 1 ∷ []) Leaf
    ∷ entry (0 ∷ 0 ∷ 1 ∷ []) Leaf
    ∷ entry (0 ∷ 0 ∷ []) Split
    ∷ entry [] Split
    ∷ []

-- the last sibling in the first piece
abbrev pub last_sibling_first : List (List Entry)
last_sibling_first = last_sibling ∷ other_siblings ∷ []
