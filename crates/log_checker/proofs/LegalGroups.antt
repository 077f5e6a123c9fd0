-- What is seen of the groups of a path: each colour once, and a live group is legal.
use Rattle.std.proofs.Common.{ℕ, ◌+◌, ◌≤◌, ◌≡◌, Bool, true, false, List, [], ◌∷◌, ◌++◌}
use Rattle.std.proofs.Common.{length, map, leb, leb-true, sym, ◌∙◌, arith, inl, inr, cond}
use Rattle.std.proofs.Common.{length-append}
use Rattle.list_laws.specs.Sets.{holds, different}
use Rattle.mill_model.specs.Slab.{Mill, colours}
use Rattle.mill_model.specs.declared.order.Order.{Order}
use Rattle.list_laws.proofs.Tests.{and-left, and-right, or-cases}
use Rattle.list_laws.proofs.Different.{different-mono}
use Rattle.log_checker.specs.Groups.{Seen, IsSeen, with_colour, joined, may_be}
use Rattle.log_checker.specs.Live.{lives}

-- each colour of a group stands once in what is seen of it
pub seen-once : (seen : Seen) (orders : List Order) → IsSeen seen orders →
    length seen.colours ≡ different seen.colours
seen-once seen orders is =
    let a : different seen.colours ≤ different (map (λ o. o.colour) orders) =
    different-mono seen.colours (map (λ o. o.colour) orders) (λ x h. sym (is.has x) ∙ h) in
    let b : different (map (λ o. o.colour) orders) ≤ different seen.colours =
    different-mono (map (λ o. o.colour) orders) seen.colours (λ x h. is.has x ∙ h) in
    let c : length seen.colours ≡ different (map (λ o. o.colour) orders) = is.counts in
    omega arith

-- a live group fits a slab
colours-with : (c : ℕ) (colours : List ℕ) → length colours ≤ length (with_colour c colours)
colours-with c colours = go (holds c colours)
  where
    go : (b : Bool) → length colours ≤ length (cond b colours (colours ++ c ∷ []))
    go true = omega arith
    go false = let n : length (colours ++ c ∷ []) ≡ length colours + 1 =
        length-append colours (c ∷ []) in omega arith

pub live-fits : (mill : Mill) (rest : List Order) (seen : Seen) → lives mill rest seen ≡ true →
    (seen.load ≤ mill.largest) × (length seen.colours ≤ mill.most_colours)
live-fits mill [] seen h = absurd (grind arith)
live-fits mill (o ∷ rest) seen h =
    elim (or-cases (may_be mill (joined seen o)) (lives mill rest seen) h) [
      | inl a ↦ (let l : seen.load + o.weight ≤ mill.largest = leb-true _ _ (and-left _ _ a) in
          let n : length (with_colour o.colour seen.colours) ≤ mill.most_colours =
          leb-true _ _ (and-right (leb (seen.load + o.weight) mill.largest) _ a) in
          let m : length seen.colours ≤ length (with_colour o.colour seen.colours) =
          colours-with o.colour seen.colours in
          (omega arith, omega arith))
      | inr a ↦ live-fits mill rest seen a
    ]
