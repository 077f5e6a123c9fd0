use Rattle.std.proofs.Common.{ℕ, ◌≡◌, ◌≤◌, get_or, sym, ap, subst, ◌∙◌, arith, inl, inr}
use Rattle.std.specs.Option.{unwrap_or}
use Rattle.std.proofs.lemmas.List.{length-map}
use Rattle.std.proofs.lemmas.List.Elements.{All-from_get_or}
use Rattle.std.proofs.lemmas.Option.{unwrap_or-slice_get}
use Rattle.mill_model.specs.declared.order.Order.{Order}
use Rattle.list_laws.proofs.Tests.{last-or-below}
use Rattle.order_symmetry.specs.Ranked.{orders_of}
use Rattle.replay_trials.proofs.setting.all_fit.Goals as goal

pub loop-rank-preserved : goal.loop-rank-preserved
loop-rank-preserved c =
    λ i b d. elim (last-or-below i c.loop-rank.rank (omega arith)) [
      | inl e ↦ (let at : get_or (orders_of c.args.ranked.now) i d ≡ c.order.result =
          ap (λ (k : ℕ). get_or (orders_of c.args.ranked.now) k d) e
          ∙ sym (unwrap_or-slice_get (orders_of c.args.ranked.now) c.loop-rank.rank d)
          ∙ ap (λ o. unwrap_or o d) c.order.ensures.is in
          let light : c.order.result.weight ≤ c.args.ranked.now.mill.largest =
          omega (arith, c.largest.ensures.is) in
          subst (λ (o : Order). o.weight ≤ c.args.ranked.now.mill.largest) (sym at) light)
      | inr l ↦ c.loop-rank.invariant i l d
    ]

pub returns : goal.returns
returns c =
    λ yes. All-from_get_or (λ order. order.weight ≤ c.args.ranked.now.mill.largest)
    (orders_of c.args.ranked.now) (record { weight = 0; colour = 0 })
    (λ i l. c.loop-rank.invariant i
    (omega (
      arith,
      l,
      c.len-rank-end.ensures.is,
      length-map c.args.ranked.now.placed (λ p. p.order),
    )) (record { weight = 0; colour = 0 }))
