use Rattle.std.proofs.Common.{◌≡◌, ◌+◌, [], ◌∷◌, drop, get_or, sym, arith}
use Rattle.std.proofs.lemmas.List.{drop_more, drop_all}
use Rattle.refute_log.specs.Rising.{path_order}
use Rattle.refute_log.proofs.paths.compare.Goals as goal

pub returns-then-i-b : goal.returns-then-i-b
returns-then-i-b c =
    let a : drop c.loop-i.i c.args.a.now ≡ get_or c.args.a.now c.loop-i.i 0 ∷ drop (c.loop-i.i + 1)
    c.args.a.now = drop_more c.args.a.now c.loop-i.i 0 c.loop-i-test.true in
    let b : drop c.loop-i.i c.args.b.now ≡ [] = drop_all c.loop-i.i c.args.b.now (omega arith) in
    let e : path_order c.args.a.now c.args.b.now ≡ path_order (drop c.loop-i.i c.args.a.now)
    (drop c.loop-i.i c.args.b.now) = c.loop-i.invariant.is in
    sym (rw (a, b) at e)

pub returns-then-a-b : goal.returns-then-a-b
returns-then-a-b c =
    let a : drop c.loop-i.i c.args.a.now ≡ [] = drop_all c.loop-i.i c.args.a.now (omega arith) in
    let b : drop c.loop-i.i c.args.b.now ≡ get_or c.args.b.now c.loop-i.i 0 ∷ drop (c.loop-i.i + 1)
    c.args.b.now = drop_more c.args.b.now c.loop-i.i 0 (omega arith) in
    let e : path_order c.args.a.now c.args.b.now ≡ path_order (drop c.loop-i.i c.args.a.now)
    (drop c.loop-i.i c.args.b.now) = c.loop-i.invariant.is in
    sym (rw (a, b) at e)
