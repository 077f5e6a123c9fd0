-- Where the recorded and the unclosed paths are the empty path and the children of the split ones,
-- no path is among them twice: a child tells its parent and its last number, so it is wanted at
-- most as often as its parent is recorded, and the empty path is nobody's child.
use Rattle.std.proofs.Common.{ℕ, zero, suc, ◌≤◌, ◌≡◌, eqb, cond, List, [], ◌∷◌}
use Rattle.std.proofs.Common.{◌++◌, map, filter, length, refl, ap, arith, length-append, append-nil}
use Rattle.list_laws.specs.Sets.{same_list, below, times, SameTimes}
use Rattle.mill_model.specs.Slab.{Mill}
use Rattle.mill_model.specs.Tree.{next_new, may_go_on, children}
use Rattle.mill_model.specs.Log.{Task, recorded, left_open, split_children, IsComplete}
use Rattle.mill_model.specs.declared.order.Order.{Order}
use Rattle.mill_model.specs.declared.closing.Entry.{Entry}
use Rattle.mill_model.specs.declared.closing.Closing.{Closing}
use Rattle.mill_model.specs.declared.closing.Closing.TheVariants.{Split, Leaf, Priced, Dominated}
use Rattle.list_laws.proofs.Times.{times-append}
use Rattle.list_laws.proofs.Times.{same-child, times-filter}
use Rattle.list_laws.proofs.Times.{times-below}

pub times-pushed : (p e : List ℕ) (g : ℕ) (hs : List ℕ) →
    times same_list (p ++ g ∷ []) (map (λ h. e ++ h ∷ []) hs)
    ≡ cond (same_list p e) (times eqb g hs) 0
times-pushed p e g [] = grind arith
times-pushed p e g (h ∷ hs) = grind (arith, times-pushed p e g hs, same-child p e g h)

-- A path is wanted as often as it stands among the children of split paths: a child at most as
-- often as its parent is recorded, and the empty path never.

pub children-times : (mill : Mill) (ranked : List Order) (p e : List ℕ) (g : ℕ) →
    times same_list (p ++ g ∷ []) (children mill ranked e) ≤ cond (same_list p e) 1 0
children-times mill ranked p e g =
    grind (
      arith,
      times-pushed p e g (filter (may_go_on mill ranked e) (below (suc (next_new e)))),
      times-filter g (may_go_on mill ranked e) (below (suc (next_new e))),
      times-below g (suc (next_new e)),
    )

pub open-times : (task : Task) (log : List Entry) (p : List ℕ) (g : ℕ) →
    times same_list (p ++ g ∷ []) (split_children task log) ≤ times same_list p (recorded log)
open-times task [] p g = omega arith
open-times task (entry ∷ log) p g =
    omega (
      arith,
      open-times task log p g,
      times-append same_list (p ++ g ∷ []) (left_open task entry.path entry.closing)
          (split_children task log),
      of-one entry.closing,
    )
  where
    of-one : (c : Closing) →
        times same_list (p ++ g ∷ []) (left_open task entry.path c)
        ≤ cond (same_list p entry.path) 1 0
    of-one Split = children-times task.mill task.ranked p entry.path g
    of-one Leaf = omega arith
    of-one (Priced prices) = omega arith
    of-one (Dominated other) = omega arith

pub no-empty : (e : List ℕ) (hs : List ℕ) → times same_list [] (map (λ h. e ++ h ∷ []) hs) ≡ 0
no-empty e [] = refl
no-empty [] (h ∷ hs) = omega (arith, no-empty [] hs)
no-empty (x ∷ e) (h ∷ hs) = omega (arith, no-empty (x ∷ e) hs)

pub empty-times : (task : Task) (log : List Entry) →
    times same_list [] (split_children task log) ≡ 0
empty-times task [] = refl
empty-times task (entry ∷ log) =
    omega (
      arith,
      empty-times task log,
      times-append same_list [] (left_open task entry.path entry.closing)
          (split_children task log),
      of-one entry.closing,
    )
  where
    of-one : (c : Closing) → times same_list [] (left_open task entry.path c) ≡ 0
    of-one Split =
        no-empty entry.path (filter (may_go_on task.mill task.ranked entry.path)
        (below (suc (next_new entry.path))))
    of-one Leaf = refl
    of-one (Priced prices) = refl
    of-one (Dominated other) = refl

-- a path is empty or goes on from another by one number
pub ends : (x : ℕ) (path : List ℕ) → (p : List ℕ) × (g : ℕ) × (x ∷ path ≡ p ++ g ∷ [])
ends x [] = ([], x, refl)
ends x (y ∷ path) = let r = ends y path in (x ∷ r.0, r.1, ap (λ l. x ∷ l) r.2)

-- so a path is wanted at most as often as another is recorded
pub wanted-parent : (task : Task) (log : List Entry) (x : ℕ) (path : List ℕ) →
    times same_list (x ∷ path) (split_children task log)
    ≤ times same_list (ends x path).0 (recorded log)
wanted-parent task log x path =
    let r = ends x path in rw (r.2) (open-times task log r.0 r.1)

-- No path twice.

pub conserved-once : (task : Task) (log : List Entry) (unclosed : List (List ℕ)) →
    SameTimes same_list (recorded log ++ unclosed) ([] ∷ split_children task log) →
    (n : ℕ) (path : List ℕ) → length path ≤ n → times same_list path (recorded log ++ unclosed) ≤ 1
conserved-once task log unclosed h n [] l = rw (h []) (omega (arith, empty-times task log))
conserved-once task log unclosed h zero (x ∷ path) l = absurd (omega arith)
conserved-once task log unclosed h (suc n) (x ∷ path) l =
    let r = ends x path in
    let shorter : length r.0 ≤ n =
    omega (arith, ap length r.2, length-append r.0 (r.1 ∷ [])) in
    rw (h (x ∷ path)) (omega (
      arith,
      wanted-parent task log x path,
      times-append same_list r.0 (recorded log) unclosed,
      conserved-once task log unclosed h n r.0 shorter,
    ))

-- a complete log records no path twice
pub once-recorded : (task : Task) (log : List Entry) → IsComplete task log → (path : List ℕ) →
    times same_list path (recorded log) ≤ 1
once-recorded task log h path =
    rw append-nil at (conserved-once task log [] (λ p. rw append-nil (h p)) (length path) path
    (omega arith))
