-- Both halves have their least slacks from layers of their own, so the keys have theirs. With each
-- halving the keys are half as many, and the numbers drift a little further.
use Rattle.std.proofs.Common.{◌≡◌, ℕ, ◌+◌, ◌-◌, ◌*◌, ◌/◌, ◌<◌, ◌≤◌, ◌∙◌, ◌++◌, List, length}
use Rattle.std.proofs.Common.{sym, ap₂, subst, arith, true, get_or, pos, mul-le-mul_right}
use Rattle.std.proofs.Common.{take-append-drop}
use Rattle.std.specs.List.{All}
use Rattle.std.proofs.lemmas.List.Elements.{All-take, All-drop}
use Rattle.list_laws.specs.Sets.{holds}
use Rattle.mill_model.specs.Limits.{all_prices}
use Rattle.set_minima.specs.Cells.{IsNear}
use Rattle.least_slacks.specs.Keys.{AreLeast, IsInside}
use Rattle.least_slacks.specs.Parts.{ServesAll, Serves, drift, out_of}
use Rattle.least_slacks.specs.declared.key.Key.{Key}
use Rattle.set_minima.proofs.CellNumbers.{near-wider}
use Rattle.least_slacks.proofs.KeysInHalves.{all-served, half-each, least-append, one-less}
use Rattle.least_slacks.proofs.KeysInHalves.{some-levels}
use Rattle.least_slacks.proofs.KeysLeftOut.{out-take, out-drop}
use Rattle.least_slacks.proofs.halving.+judge_keys.Goals as goal

pub judge_each-requires-clause-layers : goal.judge_each-requires-clause-layers
judge_each-requires-clause-layers t c =
    all-served c.args.limits.now c.args.later.now c.args.keys.now c.args.levels
    c.args.layers.now.shape c.args.layers.now.reach c.args.layers.now.tables.now
    c.requires.filled c.requires.near
    (c.name_the_same.ensures.same c.if-name_the_same.true)

pub split_at_mut-here-requires : goal.split_at_mut-here-requires
split_at_mut-here-requires t c =
    let size = (c.args.limits.now.most + 1) * (c.args.limits.now.largest + 1) in
    let some = some-levels c.args.levels (length c.args.keys.now)
    (c.name_the_same.ensures.many c.if-name_the_same.false) c.requires.levels.1 in
    let m : 1 * size ≤ c.args.levels * size = mul-le-mul_right size some in
    omega (arith, m, c.requires.stack)

pub fill_part-requires-clause-within : goal.fill_part-requires-clause-within
fill_part-requires-clause-within t c x h =
    let most = c.args.limits.now.most in
    let keys = c.args.keys.now in
    out-take most x (length keys / 2) keys
    (subst (λ (ks : List Key). holds x (out_of most ks) ≡ true) c.split_at.ensures.front h)

pub judge_keys-requires : goal.judge_keys-requires
judge_keys-requires t c =
    let keys = c.args.keys.now in
    let levels = c.args.levels in
    let size = (c.args.limits.now.most + 1) * (c.args.limits.now.largest + 1) in
    let many = c.name_the_same.ensures.many c.if-name_the_same.false in
    let some = some-levels levels (length keys) many c.requires.levels.1 in
    let half = half-each levels (length keys) many c.requires.levels.1 in
    let less = one-less levels size some in
    let near : (l : ℕ) → l < c.fill_part.result.0.layers * c.fill_part.result.0.width →
    IsNear (drift (levels - 1)) (get_or c.fill_part.new.tables l (pos 0)) =
    λ l b. near-wider (drift levels + 9 * all_prices) (drift (levels - 1))
    (get_or c.fill_part.new.tables l (pos 0)) (omega (arith, some, c.requires.levels.0))
    (c.fill_part.ensures.near (drift levels) c.requires.near l b) in
    let inside : All (IsInside c.args.limits.now) c.split_at.result.0.now =
    subst (λ (ks : List Key). All (IsInside c.args.limits.now) ks) (sym c.split_at.ensures.front)
    (All-take (IsInside c.args.limits.now) (length keys / 2) keys c.requires.keys) in (
      omega (arith, some, c.decreases),
      (
        c.requires.later,
        (
          omega (arith, c.fill_part.auto.one, c.requires.one),
          (
            omega (arith, less, c.requires.stack, c.split_at_mut-here.ensures.back_len),
            (
              c.fill_part.ensures.filled,
              (
                near,
                (
                  inside,
                  (
                    omega (arith, c.split_at_mut-first.ensures.front_len),
                    (
                      omega (arith, c.requires.levels.0),
                      omega (arith, c.split_at.ensures.front_len, half.0),
                    ),
                  ),
                ),
              ),
            ),
          ),
        ),
      ),
    )

pub fill_part-requires-2-clause-within : goal.fill_part-requires-2-clause-within
fill_part-requires-2-clause-within t c x h =
    let most = c.args.limits.now.most in
    let keys = c.args.keys.now in
    out-drop most x (length keys / 2) keys
    (subst (λ (ks : List Key). holds x (out_of most ks) ≡ true) c.split_at.ensures.back h)

pub fill_part-requires-2-clause-serves : goal.fill_part-requires-2-clause-serves
fill_part-requires-2-clause-serves t c =
    let keys = c.args.keys.now in
    subst (λ (ks : List Key). ServesAll c.args.limits.now c.args.later.now c.args.layers.now.shape
    ks) (sym c.split_at.ensures.back)
    (All-drop (λ (key : Key). key.colours < c.args.limits.now.most →
    Serves c.args.limits.now c.args.later.now c.args.layers.now.shape key) (length keys / 2) keys
    c.requires.filled.serves)

pub judge_keys-requires-2 : goal.judge_keys-requires-2
judge_keys-requires-2 t c =
    let keys = c.args.keys.now in
    let levels = c.args.levels in
    let size = (c.args.limits.now.most + 1) * (c.args.limits.now.largest + 1) in
    let many = c.name_the_same.ensures.many c.if-name_the_same.false in
    let some = some-levels levels (length keys) many c.requires.levels.1 in
    let half = half-each levels (length keys) many c.requires.levels.1 in
    let less = one-less levels size some in
    let near : (l : ℕ) → l < c.fill_part-2.result.0.layers * c.fill_part-2.result.0.width →
    IsNear (drift (levels - 1)) (get_or c.fill_part-2.new.tables l (pos 0)) =
    λ l b. near-wider (drift levels + 9 * all_prices) (drift (levels - 1))
    (get_or c.fill_part-2.new.tables l (pos 0)) (omega (arith, some, c.requires.levels.0))
    (c.fill_part-2.ensures.near (drift levels) c.requires.near l b) in
    let inside : All (IsInside c.args.limits.now) c.split_at.result.1.now =
    subst (λ (ks : List Key). All (IsInside c.args.limits.now) ks) (sym c.split_at.ensures.back)
    (All-drop (IsInside c.args.limits.now) (length keys / 2) keys c.requires.keys) in (
      omega (arith, some, c.decreases),
      (
        c.requires.later,
        (
          omega (
            arith,
            c.fill_part-2.auto.one,
            c.judge_keys.auto.one,
            c.fill_part.auto.one,
            c.requires.one,
          ),
          (
            omega (
              arith,
              less,
              c.requires.stack,
              c.split_at_mut-here.ensures.back_len,
              c.judge_keys.auto.stack,
            ),
            (
              c.fill_part-2.ensures.filled,
              (
                near,
                (
                  inside,
                  (
                    omega (
                      arith,
                      c.split_at_mut-first.ensures.back_len,
                      c.split_at.ensures.back_len,
                      c.split_at.ensures.front_len,
                      c.requires.long,
                    ),
                    (
                      omega (arith, c.requires.levels.0),
                      omega (
                        arith,
                        c.split_at.ensures.back_len,
                        c.split_at.ensures.front_len,
                        half.1,
                      ),
                    ),
                  ),
                ),
              ),
            ),
          ),
        ),
      ),
    )

pub returns : goal.returns
returns t c =
    let keys = c.args.keys.now in
    let whole : c.split_at.result.0.now ++ c.split_at.result.1.now ≡ keys =
    ap₂ (λ (xs ys : List Key). xs ++ ys) c.split_at.ensures.front c.split_at.ensures.back
    ∙ take-append-drop (length keys / 2) keys in
    subst (λ (ks : List Key). AreLeast c.args.limits.now c.args.later.now.rest.now
    c.args.later.now.prices.now ks (c.judge_keys.new.slacks ++ c.judge_keys-2.new.slacks)) whole
    (least-append c.args.limits.now c.args.later.now.rest.now c.args.later.now.prices.now
    c.split_at.result.0.now c.split_at.result.1.now c.judge_keys.new.slacks
    c.judge_keys-2.new.slacks c.judge_keys.ensures c.judge_keys-2.ensures)
