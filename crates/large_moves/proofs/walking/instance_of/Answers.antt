use Rattle.std.proofs.Common.{List, ℕ, ◌≡◌, ◌∷◌, [], subst, sym, rules, ◌∙◌}
use Rattle.mill_model.specs.Instance.{AreSizesOf, IsSize, IsWithin, largest}
use Rattle.mill_model.specs.declared.order.Order.{Order}
use Rattle.large_moves.specs.Coloured.{orders_of}
use Rattle.large_moves.proofs.Walked.{one-size, within}
use Rattle.large_moves.proofs.walking.instance_of.Goals as goal

pub new-requires : goal.new-requires
new-requires c =
    let sizes_is : c.in_ok-sizes.sizes.items ≡ c.largest-largest.result ∷ [] = search rules in
    let is_size : IsSize c.largest-largest.result =
    (c.largest-largest.ensures.low, c.largest-largest.ensures.high) in
    let limits = within c.args.ranked.now c.p.ensures.kept c.args.coloured.now c.requires
    c.largest-largest.result c.p.result is_size c.p.ensures.low c.p.ensures.high in
    subst (λ (os : List Order). IsWithin c.in_ok-sizes.sizes.items 0 os c.p.result)
    (sym c.in_ok-orders.ensures)
    (subst (λ (sizes : List ℕ). IsWithin sizes 0 (orders_of c.args.coloured.now) c.p.result)
    (sym sizes_is) limits)

pub returns-clause-mill : goal.returns-clause-mill
returns-clause-mill c =
    let sizes_is : c.in_ok-sizes.sizes.items ≡ c.largest-largest.result ∷ [] = search rules in
    let largest_is : largest c.new.result.sizes ≡ c.args.ranked.now.mill.largest =
    one-size c.largest-largest.result c.new.result.sizes
    (subst (λ (sizes : List ℕ). AreSizesOf sizes c.new.result.sizes) sizes_is
    c.new.ensures.sizes) ∙ c.largest-largest.ensures.is in
    let p_is : c.new.result.p ≡ c.args.ranked.now.mill.most_colours =
    c.new.ensures.p ∙ c.p.ensures.is in
    λ i. record { largest = largest_is i; most_colours = p_is i }
