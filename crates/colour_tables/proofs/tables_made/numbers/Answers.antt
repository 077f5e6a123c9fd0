use Rattle.std.proofs.Common.{suc, ◌≡◌, ◌+◌, ◌++◌, ◌∷◌, [], ap, ◌∙◌, subst, arith, rules}
use Rattle.list_laws.specs.Sets.{below}
use Rattle.colour_tables.proofs.tables_made.numbers.Goals as goal

pub loop-c-init : goal.loop-c-init
loop-c-init c = record {
  is = search rules;
  inside = omega arith;
}

pub loop-c-preserved : goal.loop-c-preserved
loop-c-preserved c =
    let k = c.loop-c.c in
    let e : c.push.new.self.items ≡ c.loop-c.numbers.items ++ c.loop-c.c ∷ [] = search rules in
    let s : suc c.loop-c.c ≡ c.loop-c.c + 1 = omega arith in
    record {
      is =
          subst (λ n. c.push.new.self.items ≡ below n) s
          (e ∙ ap (λ xs. xs ++ c.loop-c.c ∷ []) c.loop-c.invariant.is);
      inside = omega (arith, c.loop-c-test.true);
    }

pub returns : goal.returns
returns c =
    let e : c.loop-c.c ≡ c.args.count = omega (
      arith,
      c.loop-c.invariant.inside,
      c.loop-c-test.false,
    ) in
    subst (λ n. c.loop-c.numbers.items ≡ below n) e c.loop-c.invariant.is
