-- The paths of records, and what they leave open.
use Rattle.std.proofs.Common.{suc, ◌≡◌, List, [], ◌∷◌, ◌++◌, length, refl, sym, ap, ◌∙◌}
use Rattle.std.proofs.Common.{append_assoc}
use Rattle.mill_model.specs.Log.{Task, recorded, left_open, split_children}
use Rattle.mill_model.specs.declared.closing.Entry.{Entry}

pub recorded-append : (xs ys : List Entry) → recorded (xs ++ ys) ≡ recorded xs ++ recorded ys
recorded-append [] ys = refl
recorded-append (x ∷ xs) ys = ap (λ paths. x.path ∷ paths) (recorded-append xs ys)

pub recorded-length : (log : List Entry) → length (recorded log) ≡ length log
recorded-length [] = refl
recorded-length (x ∷ log) = ap suc (recorded-length log)

pub split-append : (task : Task) (xs ys : List Entry) →
    split_children task (xs ++ ys) ≡ split_children task xs ++ split_children task ys
split-append task [] ys = refl
split-append task (x ∷ xs) ys =
    ap (λ paths. left_open task x.path x.closing ++ paths) (split-append task xs ys)
    ∙ sym (append_assoc (left_open task x.path x.closing) (split_children task xs)
    (split_children task ys))
