-- Of a slab that takes other colours, the layer for so many of them is enough: it is the last that
-- it may use, or it has all colours of the later orders.
use Rattle.std.proofs.Common.{◌≡◌, ℕ, [], suc, ◌+◌, ◌-◌, ◌*◌, ◌<◌, ◌≤◌, ◌⊎◌, length, take, drop}
use Rattle.std.proofs.Common.{arith}
use Rattle.std.proofs.Common.{length-append}
use Rattle.std.proofs.Common.{subst, sym, inl, inr, pos, mul-le-mul_right}
use Rattle.std.proofs.lemmas.List.{length-take, get_or_append_left}
use Rattle.std.proofs.lemmas.Bool.{cases_lt}
use Rattle.set_minima.specs.Packs.{IsBest}
use Rattle.set_minima.specs.Joins.{all_places}
use Rattle.set_minima.proofs.LeftOut.{layer-enough}
use Rattle.set_minima.specs.Cells.{cell, found, IsNear}
use Rattle.least_slacks.specs.Later.{others_of}
use Rattle.least_slacks.proofs.least_slack.join.Goals as goal

pub returns-then-limits-colours-clause-joined : goal.returns-then-limits-colours-clause-joined
returns-then-limits-colours-clause-joined c =
    let rest = c.args.later.now.rest.now in
    let prices = c.args.later.now.prices.now in
    let behind = drop c.args.room c.args.one.now in
    let front0 = length-take c.args.room c.args.one.now in
    let long1 : c.args.room ≤ length c.args.one.now =
    omega (arith, c.requires.room.0, c.requires.one) in
    let wide : length (take c.args.room c.args.one.now) ≡ c.args.room =
    omega (arith, front0, long1) in
    let auto = c.join_none.auto.table in
    let long : length c.join_none.new.table ≡ c.args.room = omega (arith, auto, wide) in
    let best = rw wide at c.join_none.ensures.best in
    record {
      inside = omega (arith, long, length-append c.join_none.new.table behind);
      table = λ own once count same l b.
          subst (λ x. IsBest all_places own c.args.limits.now.most rest prices l (found x))
          (sym (get_or_append_left c.join_none.new.table behind (pos 0) l (omega arith)))
          (subst (λ z. IsBest all_places own z rest prices l (cell c.join_none.new.table l))
          (omega (arith, count, c.requires.few, c.if-limits-colours.true))
          (best own once same l b));
      near = λ l b.
          subst (λ x. IsNear 300000000000000000 x)
          (sym (get_or_append_left c.join_none.new.table behind (pos 0) l (omega arith)))
          (c.join_none.ensures.near l);
    }

pub join_layer-requires-clause-near : goal.join_layer-requires-clause-near
join_layer-requires-clause-near c l b =
    let width = c.args.layers.now.shape.width in
    let front0 = length-take width c.args.one.now in
    let deep = c.requires.layers.serves c.if-limits-colours.false in
    let below : c.min-t.result < c.args.layers.now.shape.layers = elim deep.deep [
      | inl e ↦ omega (arith, c.min-t.ensures, c.if-limits-colours.false)
      | inr e ↦ omega (arith, c.min-t.ensures)
    ] in
    let m : suc c.min-t.result * width ≤ c.args.layers.now.shape.layers * width =
    mul-le-mul_right width below in
    c.requires.layers.near (c.min-t.result * width + l) (omega (arith, m, b, front0))

pub returns-clause-joined : goal.returns-clause-joined
returns-clause-joined c =
    let rest = c.args.later.now.rest.now in
    let prices = c.args.later.now.prices.now in
    let layers = c.args.layers.now in
    let reach = layers.shape.width in
    let t = c.min-t.result in
    let free = c.args.limits.now.most - c.args.key.colours in
    let allowed = others_of c.args.later.now c.args.key.coming in
    let behind = drop reach c.args.one.now in
    let front0 = length-take reach c.args.one.now in
    let long1 : reach ≤ length c.args.one.now =
    omega (arith, c.requires.layers.narrow, c.requires.one) in
    let wide : length (take reach c.args.one.now) ≡ reach = omega (arith, front0, long1) in
    let auto = c.join_layer.auto.table in
    let long : length c.join_layer.new.table ≡ reach = omega (arith, auto, wide) in
    let best = rw wide at c.join_layer.ensures.best in
    let deep = c.requires.layers.serves c.if-limits-colours.false in
    let below : t < layers.shape.layers = below-layers (deep.deep) in
    let layer : (l : ℕ) → l < reach →
    IsBest allowed [] t rest prices l (cell layers.tables.now (t * reach + l)) =
    λ l b. c.requires.layers.filled c.if-limits-colours.false t below l b in
    let whole : (l : ℕ) → l < reach →
    IsBest allowed [] free rest prices l (cell layers.tables.now (t * reach + l)) =
    λ l b. elim (enough deep.deep) [
      | inl e ↦ subst (λ z. IsBest allowed [] z rest prices l
          (cell layers.tables.now (t * reach + l))) e (layer l b)
      | inr e ↦ layer-enough rest allowed prices t free l
          (cell layers.tables.now (t * reach + l)) (omega (arith, c.min-t.ensures))
          (omega (arith, e, c.requires.later.coloured)) (layer l b)
    ] in
    record {
      inside = omega (arith, long, length-append c.join_layer.new.table behind);
      table = λ own once count same l b.
          subst (λ x. IsBest all_places own c.args.limits.now.most rest prices l (found x))
          (sym (get_or_append_left c.join_layer.new.table behind (pos 0) l (omega arith)))
          (subst (λ z. IsBest all_places own z rest prices l (cell c.join_layer.new.table l))
          (omega (arith, count, c.requires.few))
          (best own free once same whole l b));
      near = λ l b.
          subst (λ x. IsNear 300000000000000000 x)
          (sym (get_or_append_left c.join_layer.new.table behind (pos 0) l (omega arith)))
          (c.join_layer.ensures.near l);
    }
  where
    below-layers : (c.args.limits.now.most < c.args.key.colours + c.args.layers.now.shape.layers)
        ⊎ (c.args.later.now.kinds < c.args.layers.now.shape.layers) →
        c.min-t.result < c.args.layers.now.shape.layers
    below-layers (inl e) = omega (arith, c.min-t.ensures, c.if-limits-colours.false)
    below-layers (inr e) = omega (arith, c.min-t.ensures)

    -- the layer is that of all colours that may come, or has those of all later orders
    enough : (c.args.limits.now.most < c.args.key.colours + c.args.layers.now.shape.layers)
        ⊎ (c.args.later.now.kinds < c.args.layers.now.shape.layers) →
        (c.min-t.result ≡ c.args.limits.now.most - c.args.key.colours)
        ⊎ (c.args.later.now.kinds ≤ c.min-t.result)
    enough (inl e) = inl (omega (arith, c.min-t.ensures, c.if-limits-colours.false))
    enough (inr e) =
        elim (cases_lt c.min-t.result (c.args.limits.now.most - c.args.key.colours)) [
          | inl b ↦ inr (omega (arith, c.min-t.ensures))
          | inr b ↦ inl (omega (arith, c.min-t.ensures))
        ]
