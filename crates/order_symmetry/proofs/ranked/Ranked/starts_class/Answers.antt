use Rattle.std.proofs.Common.{◌≡◌, ◌<◌, ◌≢◌, length, arith, ◌∙◌, sym, inl, inr, false-eqb, eqb-true}
use Rattle.std.proofs.Common.{eq-eqb, rules}
use Rattle.std.proofs.lemmas.List.{length-map}
use Rattle.order_symmetry.specs.Numbered.{placed_of}
use Rattle.order_symmetry.proofs.Places.{starts-ends, starts-between}
use Rattle.order_symmetry.proofs.ranked.Ranked.starts_class.Goals as goal
use Rattle.order_symmetry.proofs.ranked.Ranked.starts_class.Goals.{then-k-eq0, else-k-eq0}

pub returns-then-k-len : goal.returns-then-k-len
returns-then-k-len c =
    let items = c.self.inside.placed.items in
    c.if-k-len.true ∙ sym (rw (← c.self.view_is) (starts-ends items c.args.k
    (elim c.if-k-eq0.branch [
      | then-k-eq0 w ↦ inl w.if-k-eq0.true
      | else-k-eq0 w ↦ (let long : w.len.result ≡ length items = search rules in
          inr (eqb-true c.args.k w.len.result (sym w.value-is ∙ c.if-k-len.true) ∙ long))
    ])))

pub returns-else-k-len : goal.returns-else-k-len
returns-else-k-len c = elim c.if-k-eq0.branch [
  | then-k-eq0 w ↦ absurd (cc (eq-eqb c.args.k 0 w.if-k-eq0.true))
  | else-k-eq0 w ↦ (let items = c.self.inside.placed.items in
      let long : w.len.result ≡ length items = search rules in
      let most = rw (← c.self.view_is) at c.requires in
      let apart : c.args.k ≢ w.len.result =
      false-eqb c.args.k w.len.result (sym c.if-k-len.false ∙ w.value-is) in
      let inner : c.args.k < length items =
      omega (arith, most, length-map items placed_of) in
      c.ne.ensures ∙ sym (rw (← c.self.view_is) (starts-between items c.args.k
      c.index.result.now c.index-else-k-len.result.now (omega arith) inner c.index.ensures
      c.index-else-k-len.ensures)))
]
