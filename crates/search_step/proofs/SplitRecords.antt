-- What is split in some records is split among more.
use Rattle.std.proofs.Common.{◌≡◌, Bool, true, false, ◌&&◌, ◌||◌, ℕ, List, [], ◌∷◌, ◌++◌, refl}
use Rattle.std.proofs.Common.{ap, ◌∙◌}
use Rattle.list_laws.specs.Sets.{same_list}
use Rattle.list_laws.proofs.Tests.{or-left, or-right}
use Rattle.list_laws.proofs.Times.{same_list-refl}
use Rattle.mill_model.specs.declared.closing.Entry.{Entry}
use Rattle.mill_model.specs.declared.closing.Closing.{Closing}
use Rattle.mill_model.specs.declared.closing.Closing.TheVariants.{Split, Leaf, Priced, Dominated}
use Rattle.search_step.specs.Honest.{has_split, is_split, names_split}

split-append : (xs ys : List Entry) (path : List ℕ) →
    has_split (xs ++ ys) path ≡ (has_split xs path || has_split ys path)
split-append [] ys path = refl
split-append (entry ∷ xs) ys path =
    ap (λ b. (same_list path entry.path && is_split entry.closing) || b) (split-append xs ys path)
    ∙ regroup (same_list path entry.path && is_split entry.closing) _ _
  where
    regroup : (a b c : Bool) → (a || (b || c)) ≡ ((a || b) || c)
    regroup true b c = refl
    regroup false b c = refl

pub split-more : (xs ys : List Entry) (path : List ℕ) → has_split xs path ≡ true →
    has_split (xs ++ ys) path ≡ true
split-more xs ys path split =
    split-append xs ys path ∙ or-left (has_split xs path) (has_split ys path) split

pub split-last : (xs : List Entry) (path : List ℕ) →
    has_split (xs ++ record { path = path; closing = Split } ∷ []) path ≡ true
split-last xs path =
    split-append xs (record { path = path; closing = Split } ∷ []) path
    ∙ or-right (has_split xs path) _ (rw (same_list-refl path) refl)

pub names-more : (xs ys : List Entry) (closing : Closing) → names_split xs closing ≡ true →
    names_split (xs ++ ys) closing ≡ true
names-more xs ys Split split = refl
names-more xs ys Leaf split = refl
names-more xs ys (Priced prices) split = refl
names-more xs ys (Dominated other) split = split-more xs ys other split
