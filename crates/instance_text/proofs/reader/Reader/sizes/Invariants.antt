use Rattle.std.proofs.Common.{replicate}
use Rattle.instance_text.specs.declared.field.Field.TheVariants.{Size}
use Rattle.instance_text.specs.Reading.{Took}
use Rattle.instance_text.proofs.reader.Reader.sizes.Given as goal

-- the sizes so far were read
abbrev pub invariant-loop : goal.invariant-loop
invariant-loop l = Took (replicate l.counter Size) l.sizes.items l.fn.self l.self
