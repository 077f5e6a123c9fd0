use Rattle.std.proofs.Common.{◌≡◌, suc, [], ◌+◌, ◌*◌, ◌≤◌, length, take, drop, pos, arith, sym}
use Rattle.std.proofs.Common.{subst, mul-le-mul_right}
use Rattle.std.proofs.lemmas.List.{length-take, get_or_append_left}
use Rattle.set_minima.specs.Packs.{IsBest}
use Rattle.set_minima.specs.Cells.{found, IsNear}
use Rattle.knap_bound.specs.Packing.{others_of}
use Rattle.knap_bound.proofs.gains.fill_front.Goals as goal

pub returns-clause-best : goal.returns-clause-best
returns-clause-best c t a l b =
    let rest = c.args.packing.now.rest.now in
    let prices = c.args.packing.now.prices.now in
    let allowed = others_of c.args.packing.now c.args.out.now in
    let whole = c.args.count * c.args.width in
    let behind = drop whole c.args.layers.now in
    let front0 = length-take whole c.args.layers.now in
    let one0 = length-take c.args.width c.args.one.now in
    let auto = c.fill_layers.auto.tables in
    let long : length c.fill_layers.new.tables ≡ whole =
    omega (arith, auto, front0, c.requires.room) in
    let wide : length (take c.args.width c.args.one.now) ≡ c.args.width =
    omega (arith, one0, c.requires.one) in
    let best = rw wide at c.fill_layers.ensures.best in
    let m : suc t * c.args.width ≤ whole = mul-le-mul_right c.args.width (omega arith) in
    subst (λ x. IsBest allowed [] t rest prices l (found x))
    (sym (get_or_append_left c.fill_layers.new.tables behind (pos 0) (t * c.args.width + l)
    (omega arith)))
    (best t a l b)

pub returns-clause-near : goal.returns-clause-near
returns-clause-near c l b =
    let whole = c.args.count * c.args.width in
    let behind = drop whole c.args.layers.now in
    let front0 = length-take whole c.args.layers.now in
    let auto = c.fill_layers.auto.tables in
    let long : length c.fill_layers.new.tables ≡ whole =
    omega (arith, auto, front0, c.requires.room) in
    subst (λ x. IsNear 200000000000000000 x)
    (sym (get_or_append_left c.fill_layers.new.tables behind (pos 0) l (omega arith)))
    (c.fill_layers.ensures.near l)
