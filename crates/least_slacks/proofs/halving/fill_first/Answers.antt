use Rattle.std.proofs.Common.{◌≡◌, ◌+◌, ◌*◌, length, take, drop, arith, length-append}
use Rattle.std.proofs.lemmas.List.{length-take}
use Rattle.least_slacks.specs.Later.{others_of}
use Rattle.least_slacks.specs.Parts.{out_of}
use Rattle.least_slacks.proofs.KeysInHalves.{product, layers-in-front}
use Rattle.least_slacks.proofs.halving.fill_first.Goals as goal

pub returns-clause-filled : goal.returns-clause-filled
returns-clause-filled c =
    let shape = c.shape_for-shape.result in
    let its = c.shape_for-shape.ensures in
    let whole = shape.layers * shape.width in
    let room = product shape.layers shape.width (c.args.limits.now.most + 1)
    (c.args.limits.now.largest + 1) its.few its.narrow in
    let front0 = length-take whole c.args.tables.now in
    let one0 = length-take shape.width c.args.one.now in
    let wide : length (take shape.width c.args.one.now) ≡ shape.width =
    omega (arith, one0, c.requires.one, its.narrow) in
    let long : length c.fill_layers-reach.new.tables ≡ whole =
    omega (arith, c.fill_layers-reach.auto.tables, front0, room, c.requires.room) in
    let best = rw wide at c.fill_layers-reach.ensures.best in
    let reach = rw wide at c.fill_layers-reach.ensures.reach in
    record {
      few = its.few;
      some = its.some;
      narrow = its.narrow;
      inside =
          omega (
            arith,
            long,
            length-append c.fill_layers-reach.new.tables (drop whole
                c.args.tables.now),
          );
      serves = its.serves;
      reached = reach;
      filled =
          layers-in-front c.args.later.now
          (others_of c.args.later.now (out_of c.args.limits.now.most c.args.keys.now)) shape.layers
          shape.width c.fill_layers-reach.new.tables (drop whole c.args.tables.now) long best;
    }
