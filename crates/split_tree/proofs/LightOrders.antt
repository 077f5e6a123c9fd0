-- Orders that are judged one by one in rank: where none was too heavy, all are light.
use Rattle.std.proofs.Common.{ℕ, ◌+◌, ◌<◌, ◌≤◌, ◌≡◌, All, length, get_or, Some, slice_get, sym, ap}
use Rattle.std.proofs.Common.{subst, ◌∙◌, arith, inl, inr}
use Rattle.std.specs.Option.{unwrap_or}
use Rattle.std.proofs.lemmas.List.{length-map}
use Rattle.std.proofs.lemmas.List.Elements.{All-from_get_or}
use Rattle.std.proofs.lemmas.Option.{unwrap_or-slice_get}
use Rattle.list_laws.proofs.Tests.{last-or-below}
use Rattle.mill_model.specs.declared.order.Order.{Order}
use Rattle.order_symmetry.specs.Ranked.{RankedOrders, orders_of}

-- none of the first orders is heavier than the largest size
abbrev pub AreLightBelow : RankedOrders → ℕ → Type 0
AreLightBelow ranked n =
    (i : ℕ) → i < n → (d : Order) → (get_or (orders_of ranked) i d).weight ≤ ranked.mill.largest

module _ (ranked : RankedOrders) where
  pub one-more-light : (n : ℕ) (order : Order) → AreLightBelow ranked n →
      slice_get (orders_of ranked) n ≡ Some order → order.weight ≤ ranked.mill.largest →
      AreLightBelow ranked (n + 1)
  one-more-light n order before is light i below d = elim (last-or-below i n (omega arith)) [
    | inl last ↦ (let here : get_or (orders_of ranked) i d ≡ order =
        ap (λ (k : ℕ). get_or (orders_of ranked) k d) last
        ∙ sym (unwrap_or-slice_get (orders_of ranked) n d) ∙ ap (λ o. unwrap_or o d) is in
        subst (λ (o : Order). o.weight ≤ ranked.mill.largest) (sym here) light)
    | inr earlier ↦ before i earlier d
  ]

  pub all-light : AreLightBelow ranked (length ranked.placed) →
      All (λ order. order.weight ≤ ranked.mill.largest) (orders_of ranked)
  all-light each =
      All-from_get_or (λ order. order.weight ≤ ranked.mill.largest) (orders_of ranked)
      (record { weight = 0; colour = 0 })
      (λ i below. each i (omega (arith, below, length-map ranked.placed (λ p. p.order)))
      (record { weight = 0; colour = 0 }))
