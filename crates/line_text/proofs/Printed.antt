-- What is printed of a list, one thing after another.
use Rattle.std.proofs.Common.{ℕ, ◌+◌, ◌<◌, ◌≡◌, List, [], ◌∷◌, ◌++◌, flat_map, length, take, drop}
use Rattle.std.proofs.Common.{Result, Ok, Err, OnErr, append_assoc, sym, ap, ◌∙◌, get_or}
use Rattle.std.proofs.Common.{take-append-drop}
use Rattle.std.proofs.lemmas.List.{take_more, append-nil}
use Rattle.std.proofs.lemmas.Grind.{flat_map-append}

module _ {X : Type 0} (print : X → List ℕ) (xs : List X) (i : ℕ) (d x : X) where
  -- one more thing is printed
  pub print-more : i < length xs → x ≡ get_or xs i d
      → flat_map print (take (i + 1) xs) ≡ flat_map print (take i xs) ++ print x
  print-more l e =
      ap (flat_map print) (take_more xs i d l)
      ∙ flat_map-append print (take i xs) (get_or xs i d ∷ [])
      ∙ ap (λ l. flat_map print (take i xs) ++ l)
      (append-nil (print (get_or xs i d)) ∙ ap print (sym e))

  -- the things before one, that one, and the things behind it
  pub print-around : i < length xs → x ≡ get_or xs i d → flat_map print xs
      ≡ flat_map print (take i xs) ++ (print x ++ flat_map print (drop (i + 1) xs))
  print-around l e =
      ap (flat_map print) (sym (take-append-drop (i + 1) xs))
      ∙ flat_map-append print (take (i + 1) xs) (drop (i + 1) xs)
      ∙ ap (λ l. l ++ flat_map print (drop (i + 1) xs)) (print-more l e)
      ∙ append_assoc (flat_map print (take i xs)) (print x) (flat_map print (drop (i + 1) xs))

pub on-err : {T E : Type 0} (r : Result T E) (P : Type 0) → P → OnErr r P
on-err (Ok x) P p = tt
on-err (Err e) P p = p
