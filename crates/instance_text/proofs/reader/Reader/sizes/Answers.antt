use Rattle.std.proofs.Common.{◌≡◌, ◌+◌, ◌-◌, [], ◌∷◌, replicate, arith}
use Rattle.std.proofs.lemmas.List.{length-replicate}
use Rattle.std.proofs.lemmas.Result.{err_from_is_err_and}
use Rattle.instance_text.specs.declared.field.Field.TheVariants.{Size}
use Rattle.instance_text.proofs.FieldsInTurn.{fails_next, fails_on, took_on}
use Rattle.instance_text.proofs.Repeats.{sizes_more, sizes_split, took_none, took_tokens}
use Rattle.instance_text.proofs.reader.Reader.sizes.Goals as goal

pub loop-init : goal.loop-init
loop-init c = rw c.in_ok-sizes.ensures.items (took_none c.args.self.now)

pub number-requires : goal.number-requires
number-requires c =
    let tokens = took_tokens _ _ _ _ c.loop.invariant in
    omega (arith, tokens, length-replicate c.loop.counter Size)

pub returns-in_err-size-clause-refused : goal.returns-in_err-size-clause-refused
returns-in_err-size-clause-refused c =
    let p = err_from_is_err_and c.from_residual-in_err-size.result
    c.from_residual-in_err-size.ensures.1 in
    rw (p.1, p.2) (fails_on (replicate c.loop.counter Size) (Size ∷ [])
    (replicate (c.args.count - (c.loop.counter + 1)) Size) (replicate c.args.count Size) _
    c.args.self.now c.loop.self _ (sizes_split c.args.count c.loop.counter c.loop-test.true)
    c.loop.invariant (fails_next Size c.loop.self _ c.in_err-size.ensures.refused))

pub loop-preserved : goal.loop-preserved
loop-preserved c =
    rw c.in_ok-push.ensures.items (took_on (replicate c.loop.counter Size) (Size ∷ []) _ _ _
    c.args.self.now c.loop.self c.number.new.self (sizes_more c.loop.counter)
    c.loop.invariant c.in_ok-size.ensures.taken)

pub returns-clause-taken : goal.returns-clause-taken
returns-clause-taken c =
    let all : c.loop.counter ≡ c.args.count = omega arith in
    rw (← all) c.loop.invariant
