-- Field by field: what was taken spells a front; a refusal is that of the first field that fails.
use Rattle.std.proofs.Common.{ℕ, arith, subst, sym}
use Rattle.std.proofs.lemmas.Result.{err_from_is_err_and}
use Rattle.instance_text.specs.Reading.{Spells}
use Rattle.instance_text.proofs.Repeats.{took_tokens}
use Rattle.instance_text.proofs.Stages.{took_sizes, took_colours, took_count, first_refused}
use Rattle.instance_text.proofs.Stages.{size_refused, colours_refused, count_refused, order_refused}
use Rattle.instance_text.proofs.Stages.{spells, sizes_in_range, length-to_sizes, length-to_colours}
use Rattle.instance_text.proofs.Stages.{length-to_count}
use Rattle.instance_text.proofs.read.numbers_in.Goals as goal

pub returns-in_err-size_count-clause-refused : goal.returns-in_err-size_count-clause-refused
returns-in_err-size_count-clause-refused c =
    let p = err_from_is_err_and c.from_residual.result c.from_residual.ensures.1 in
    rw (p.1, p.2) (first_refused c.args.bytes.now c.new-reader.result _ c.new-reader.ensures
    c.in_err-size_count.ensures.refused)

pub returns-in_err-sizes-clause-refused : goal.returns-in_err-sizes-clause-refused
returns-in_err-sizes-clause-refused c =
    let p = err_from_is_err_and c.from_residual-in_err-sizes.result
    c.from_residual-in_err-sizes.ensures.1 in
    rw (p.1, p.2) (size_refused c.args.bytes.now c.new-reader.result c.number.new.self
    c.in_ok-size_count.size_count _ c.new-reader.ensures c.in_ok-size_count.ensures.taken
    c.in_err-sizes.ensures.refused)

pub number-requires-2 : goal.number-requires-2
number-requires-2 c =
    let n : ℕ = c.in_ok-size_count.size_count in
    let sizes = took_sizes _ _ _ n _ c.in_ok-size_count.ensures.taken
    c.in_ok-sizes.ensures.taken in
    omega (
      arith,
      took_tokens _ _ _ _ sizes,
      length-to_sizes n,
      c.new-reader.ensures.no_tokens,
      c.in_ok-size_count.ensures.range.1,
    )

pub returns-in_err-colours-clause-refused : goal.returns-in_err-colours-clause-refused
returns-in_err-colours-clause-refused c =
    let p = err_from_is_err_and c.from_residual-in_err-colours.result
    c.from_residual-in_err-colours.ensures.1 in
    let sizes = took_sizes _ _ _ _ _ c.in_ok-size_count.ensures.taken
    c.in_ok-sizes.ensures.taken in
    rw (p.1, p.2) (colours_refused c.args.bytes.now c.new-reader.result c.sizes.new.self
    c.in_ok-size_count.size_count c.in_ok-sizes.sizes.items _ c.new-reader.ensures sizes
    c.in_err-colours.ensures.refused)

pub number-requires-3 : goal.number-requires-3
number-requires-3 c =
    let n : ℕ = c.in_ok-size_count.size_count in
    let sizes = took_sizes _ _ _ n _ c.in_ok-size_count.ensures.taken
    c.in_ok-sizes.ensures.taken in
    let colours = took_colours _ _ _ n _ _ sizes c.in_ok-colours.ensures.taken in
    omega (
      arith,
      took_tokens _ _ _ _ colours,
      length-to_colours n,
      c.new-reader.ensures.no_tokens,
      c.in_ok-size_count.ensures.range.1,
    )

pub returns-in_err-order_count-clause-refused : goal.returns-in_err-order_count-clause-refused
returns-in_err-order_count-clause-refused c =
    let p = err_from_is_err_and c.from_residual-in_err-order_count.result
    c.from_residual-in_err-order_count.ensures.1 in
    let sizes = took_sizes _ _ _ _ _ c.in_ok-size_count.ensures.taken
    c.in_ok-sizes.ensures.taken in
    let colours = took_colours _ _ _ _ _ _ sizes c.in_ok-colours.ensures.taken in
    rw (p.1, p.2) (count_refused c.args.bytes.now c.new-reader.result c.number-2.new.self
    c.in_ok-size_count.size_count c.in_ok-colours.field-0 c.in_ok-sizes.sizes.items _
    c.new-reader.ensures colours c.in_err-order_count.ensures.refused)

pub orders-requires : goal.orders-requires
orders-requires c =
    let n : ℕ = c.in_ok-size_count.size_count in
    let sizes = took_sizes _ _ _ n _ c.in_ok-size_count.ensures.taken
    c.in_ok-sizes.ensures.taken in
    let colours = took_colours _ _ _ n _ _ sizes c.in_ok-colours.ensures.taken in
    let count = took_count _ _ _ n _ _ _ colours c.in_ok-order_count.ensures.taken in
    omega (
      arith,
      took_tokens _ _ _ _ count,
      length-to_count n,
      c.new-reader.ensures.no_tokens,
      c.in_ok-size_count.ensures.range.1,
      c.in_ok-order_count.ensures.range.1,
    )

pub returns-in_err-orders-clause-refused : goal.returns-in_err-orders-clause-refused
returns-in_err-orders-clause-refused c =
    let p = err_from_is_err_and c.from_residual-in_err-orders.result
    c.from_residual-in_err-orders.ensures.1 in
    let sizes = took_sizes _ _ _ _ _ c.in_ok-size_count.ensures.taken
    c.in_ok-sizes.ensures.taken in
    let colours = took_colours _ _ _ _ _ _ sizes c.in_ok-colours.ensures.taken in
    let count = took_count _ _ _ _ _ _ _ colours c.in_ok-order_count.ensures.taken in
    rw (p.1, p.2) (order_refused c.args.bytes.now c.new-reader.result c.number-3.new.self
    c.in_ok-size_count.size_count c.in_ok-colours.field-0 c.in_ok-order_count.order_count
    c.in_ok-sizes.sizes.items _ c.new-reader.ensures count
    (sizes_in_range _ _ _ _ c.in_ok-sizes.ensures.taken) c.in_err-orders.ensures.refused)

pub returns-clause-found : goal.returns-clause-found
returns-clause-found c =
    let sizes = took_sizes _ _ _ _ _ c.in_ok-size_count.ensures.taken
    c.in_ok-sizes.ensures.taken in
    let colours = took_colours _ _ _ _ _ _ sizes c.in_ok-colours.ensures.taken in
    let count = took_count _ _ _ _ _ _ _ colours c.in_ok-order_count.ensures.taken in
    let P : ℕ → Type 0 = λ end. Spells c.args.bytes.now c.in_ok-sizes.sizes.items
    c.in_ok-colours.field-0 c.in_ok-orders.orders.items end in
    subst P (sym c.at.ensures.at) (spells c.args.bytes.now c.new-reader.result c.number-3.new.self
    c.orders.new.self c.in_ok-size_count.size_count c.in_ok-colours.field-0
    c.in_ok-order_count.order_count c.in_ok-sizes.sizes.items c.in_ok-orders.orders.items
    c.new-reader.ensures count c.in_ok-orders.ensures.taken
    (sizes_in_range _ _ _ _ c.in_ok-sizes.ensures.taken)
    c.in_ok-size_count.ensures.range.0 c.in_ok-size_count.ensures.range.1
    c.in_ok-colours.ensures.range.1 c.in_ok-order_count.ensures.range.1)
