-- What prices are worth is a sum over two lists: the groups' least slacks, and the prices.
use Rattle.std.proofs.Common.{ℕ, zero, suc, ◌+◌, ◌<◌, ◌≤◌, ◌≡◌, List, [], ◌∷◌, ◌++◌, length, take}
use Rattle.std.proofs.Common.{get_or}
use Rattle.std.proofs.Common.{ℤ, pos, ◌+ℤ◌, refl, sym, ap, ◌∙◌, subst, arith, inl, inr}
use Rattle.std.proofs.Common.{length-append}
use Rattle.std.proofs.lemmas.Int.{ints}
use Rattle.std.proofs.lemmas.Bool.{cases_lt}
use Rattle.std.proofs.lemmas.List.{take_all, get_or_append_left}
use Rattle.std.proofs.Math.Seq.{get_or-append_seam, take-suc}
use Rattle.list_laws.specs.Sets.{int_sum, int_total}
use Rattle.list_laws.proofs.Sums.{int_total-cong}
use Rattle.mill_model.specs.Limits.{IsPrice}
use Rattle.mill_model.specs.Plan.{slab}
use Rattle.mill_model.specs.Prices.{least_slack}
use Rattle.order_symmetry.specs.Ranked.{orders_of}
use Rattle.set_minima.specs.Cells.{IsSmall, slack_limit}
use Rattle.split_tree.specs.Node.{Node}
use Rattle.column_price.specs.Nodes.{AreSlacks, rest_of, worth_at}

-- a price is as small as a slack
pub small-price : (y : ℤ) → IsPrice y → IsSmall slack_limit y
small-price y p = (omega (arith, ints, p.0, p.1), omega (arith, ints, p.0, p.1))

sum-push : (xs : List ℤ) (z : ℤ) → int_sum (xs ++ z ∷ []) ≡ int_sum xs +ℤ z
sum-push [] z = omega (arith, ints)
sum-push (x ∷ xs) z =
    let ih : int_sum (xs ++ z ∷ []) ≡ int_sum xs +ℤ z = sum-push xs z in omega (arith, ints, ih)

sum-total : (xs : List ℤ) → int_sum xs ≡ int_total (length xs) (λ g. get_or xs g (pos 0))
sum-total xs =
    ap int_sum (sym (take_all (length xs) xs (omega arith))) ∙ go (length xs) (omega arith)
  where
    go : (m : ℕ) → m ≤ length xs → int_sum (take m xs) ≡ int_total m (λ g. get_or xs g (pos 0))
    go zero h = refl
    go (suc m) h =
        ap int_sum (take-suc xs m (pos 0) (omega arith))
        ∙ sum-push (take m xs) (get_or xs m (pos 0))
        ∙ ap (λ z. z +ℤ get_or xs m (pos 0)) (go m (omega arith))

pub worth-is : (node : Node) (charge : ℕ → ℕ) (prices slacks : List ℤ) →
    AreSlacks node charge prices slacks →
    int_sum slacks +ℤ int_sum prices ≡ worth_at node charge prices
worth-is node charge prices slacks are =
    let slack = λ (g : ℕ). least_slack node.ranked.mill charge
    (slab g node.path (orders_of node.ranked)) (rest_of node) prices in
    let same : int_total (length slacks) (λ g. get_or slacks g (pos 0))
    ≡ int_total (length slacks) slack =
    int_total-cong (length slacks) (λ g. get_or slacks g (pos 0)) slack are.each in
    ap (λ z. z +ℤ int_sum prices)
    (sum-total slacks ∙ same ∙ ap (λ n. int_total n slack) are.count)

-- a list with one number more at its end
pub push-each : (P : ℕ → ℤ → Type 0) (xs new : List ℤ) (z : ℤ) → new ≡ xs ++ z ∷ [] →
    ((g : ℕ) → g < length xs → P g (get_or xs g (pos 0))) → P (length xs) z → (g : ℕ) →
    g < length new → P g (get_or new g (pos 0))
push-each P xs new z e h p g b = subst (λ v. P g (get_or v g (pos 0))) (sym e)
    (elim (cases_lt g (length xs)) [
      | inl k ↦ subst (λ v. P g v) (sym (get_or_append_left xs (z ∷ []) (pos 0) g k)) (h g k)
      | inr k ↦ (let c : length (xs ++ z ∷ []) ≡ length xs + 1 = length-append xs (z ∷ []) in
          let d : length new ≡ length (xs ++ z ∷ []) = ap length e in
          let q : g ≡ length xs = omega arith in
          subst (λ v. P v (get_or (xs ++ z ∷ []) v (pos 0))) (sym q)
          (subst (λ v. P (length xs) v) (sym (get_or-append_seam xs z [] (pos 0))) p))
    ])
