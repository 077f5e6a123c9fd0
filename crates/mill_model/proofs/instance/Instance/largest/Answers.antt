use Rattle.std.proofs.Common.{rules, ◌≡◌, ◌-◌, ◌<◌, length, get_or, arith, ap, ◌∙◌, sym}
use Rattle.std.proofs.lemmas.List.{get_or_default}
use Rattle.mill_model.proofs.Sizes.{largest_last}
use Rattle.mill_model.proofs.instance.Instance.largest.Goals as goal

pub returns-clause-is : goal.returns-clause-is
returns-clause-is c =
    let sizes = c.self.inside.sizes.items in
    let count : c.len.result ≡ length sizes = search rules in
    let some : c.len.result - 1 < length sizes = omega (arith, c.self.invariant.within.some_size) in
    let last : c.index.result.now ≡ get_or sizes (length sizes - 1) 0 =
    c.index.ensures ∙ get_or_default sizes (c.len.result - 1) c.index.result.now 0 some
    ∙ ap (λ n. get_or sizes (n - 1) 0) count in
    rw (← c.self.view_is) (last ∙ sym (largest_last sizes c.self.invariant.rise))
