-- Layers as many as either shape has, and as wide, serve the keys that both serve.
use Rattle.std.proofs.Common.{◌≡◌, ◌+◌, ◌*◌, ◌<◌, ◌≤◌, ◌⊎◌, length, take, drop, arith, inl, inr}
use Rattle.std.proofs.Common.{length-append, subst, sym, get_or}
use Rattle.std.proofs.lemmas.List.{length-take}
use Rattle.std.proofs.lemmas.Bool.{cases_lt}
use Rattle.mill_model.specs.Limits.{all_prices}
use Rattle.mill_model.specs.Slab.{load}
use Rattle.least_slacks.specs.Later.{others_of, AreLayersOf, AreReachesOf}
use Rattle.least_slacks.specs.Parts.{out_of}
use Rattle.least_slacks.proofs.KeysInHalves.{product, layers-in-front, near-in-front}
use Rattle.least_slacks.proofs.halving.fill_part.Goals as goal

pub returns-clause-filled : goal.returns-clause-filled
returns-clause-filled c =
    let layers = c.min-layers.result in
    let width = c.min-width.result in
    let its = c.shape_for-need.ensures in
    let from = c.requires.filled in
    let most = c.args.limits.now.most in
    let whole = layers * width in
    let few : layers ≤ most + 1 = omega (arith, c.min-layers.ensures, its.few) in
    let narrow : width ≤ c.args.limits.now.largest + 1 =
    omega (arith, c.min-width.ensures, its.narrow) in
    let room = product layers width (most + 1) (c.args.limits.now.largest + 1) few narrow in
    let front0 = length-take whole c.args.tables.now in
    let one0 = length-take width c.args.one.now in
    let wide : length (take width c.args.one.now) ≡ width =
    omega (arith, one0, c.requires.one, narrow) in
    let long : length c.refill_layers-reach.new.tables ≡ whole =
    omega (arith, c.refill_layers-reach.auto.tables, front0, room, c.requires.room) in
    let best = rw wide at c.refill_layers-reach.ensures.best in
    let reach = rw wide at c.refill_layers-reach.ensures.reach in
    let whole_reached = subst (λ z. AreReachesOf c.args.later.now (others_of c.args.later.now
    (out_of z c.args.part.now.whole.now)) c.args.from.now.shape.layers c.args.from.now.shape.width
    c.args.from.now.reach) (sym c.requires.part.1) from.reached in
    let whole_filled = subst (λ z. AreLayersOf c.args.later.now (others_of c.args.later.now
    (out_of z c.args.part.now.whole.now)) c.args.from.now.shape.layers c.args.from.now.shape.width
    c.args.from.now.tables.now) (sym c.requires.part.1) from.filled in
    record {
      few = few;
      some = omega (arith, c.min-width.ensures, its.some, from.some);
      narrow = narrow;
      inside =
          omega (
            arith,
            long,
            length-append c.refill_layers-reach.new.tables (drop whole c.args.tables.now),
          );
      serves = λ k d h takes.
          (let a = its.serves k d h takes in
          let b = c.requires.serves k d h takes in
          record {
            deep = elim (cases_lt c.shape_for-need.result.layers c.args.from.now.shape.layers) [
              | inl q ↦ subst (λ z. (most < (get_or c.args.part.now.keys.now k d).colours + z)
                  ⊎ (c.args.later.now.kinds < z)) (omega (arith, c.min-layers.ensures)) a.deep
              | inr q ↦ subst (λ z. (most < (get_or c.args.part.now.keys.now k d).colours + z)
                  ⊎ (c.args.later.now.kinds < z)) (omega (arith, c.min-layers.ensures)) b.deep
            ];
            wide = elim (cases_lt c.shape_for-need.result.width c.args.from.now.shape.width) [
              | inl q ↦ subst (λ z. (c.args.limits.now.largest
                  < (get_or c.args.part.now.keys.now k d).load + z)
                  ⊎ (load c.args.later.now.rest.now < z)) (omega (arith, c.min-width.ensures))
                  a.wide
              | inr q ↦ subst (λ z. (c.args.limits.now.largest
                  < (get_or c.args.part.now.keys.now k d).load + z)
                  ⊎ (load c.args.later.now.rest.now < z)) (omega (arith, c.min-width.ensures))
                  b.wide
            ];
          });
      filled =
          layers-in-front c.args.later.now
          (others_of c.args.later.now (out_of most c.args.part.now.keys.now)) layers width
          c.refill_layers-reach.new.tables (drop whole c.args.tables.now) long
          (subst (λ z. AreLayersOf c.args.later.now (others_of c.args.later.now
          (out_of z c.args.part.now.keys.now)) layers width c.refill_layers-reach.new.tables)
          c.requires.part.1 (best whole_reached whole_filled));
      reached =
          subst (λ z. AreReachesOf c.args.later.now (others_of c.args.later.now
          (out_of z c.args.part.now.keys.now)) layers width c.refill_layers-reach.result)
          c.requires.part.1 (reach whole_reached);
    }

pub returns-clause-near : goal.returns-clause-near
returns-clause-near c n near =
    let layers = c.min-layers.result in
    let width = c.min-width.result in
    let its = c.shape_for-need.ensures in
    let whole = layers * width in
    let room = product layers width (c.args.limits.now.most + 1) (c.args.limits.now.largest + 1)
    (omega (arith, c.min-layers.ensures, its.few)) (omega (arith, c.min-width.ensures, its.narrow))
    in
    let front0 = length-take whole c.args.tables.now in
    near-in-front (n + 9 * all_prices) whole c.refill_layers-reach.new.tables
    (drop whole c.args.tables.now)
    (omega (arith, c.refill_layers-reach.auto.tables, front0, room, c.requires.room))
    (c.refill_layers-reach.ensures.near n near)
