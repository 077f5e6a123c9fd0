use Rattle.std.proofs.Common.{◌≡◌, ◌∷◌, ◌++◌, take}
use Rattle.std.specs.Prelude.{string_bytes, decimal, flat_map}
use Rattle.instance_text.proofs.print.push_sizes.Given as goal

-- the sizes so far were written
abbrev pub invariant-loop-size : goal.invariant-loop-size
invariant-loop-size l =
    string_bytes l.text ≡ string_bytes l.initial.text
    ++ flat_map (λ size. 32 ∷ decimal size) (take l.size-index l.sizes)
