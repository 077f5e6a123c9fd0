use Rattle.std.proofs.Common.{arith, length, length, ◌∙◌, sym, refl, subst, rules, ◌≡◌, vec_len}
use Rattle.std.proofs.lemmas.List.{length-map, length-set}
use Rattle.large_moves.specs.Coloured.{AreHomes, homes_of}
use Rattle.large_moves.proofs.Homes.{home-at, back-next, back-all}
use Rattle.large_moves.proofs.by_colour.put_back.Goals as goal

pub index_mut-requires : goal.index_mut-requires
index_mut-requires c =
    let count = length-map c.args.coloured.now (λ c. c.home) in
    let home = home-at c.args.coloured.now c.loop-i.i c.loop-i-test.true in
    let within = c.requires.homes.within c.loop-i.i (omega (arith, count, c.loop-i-test.true)) in
    let long : vec_len c.loop-i.slabs ≡ length c.loop-i.slabs.items = search rules in
    omega (arith, home, within, long, c.loop-i.invariant.count)

pub loop-i-preserved : goal.loop-i-preserved
loop-i-preserved c = record {
  count = length-set _ _ _ ∙ c.loop-i.invariant.count;
  back = back-next (homes_of c.args.coloured.now) c.loop-i.slabs.items c.args.plan.now c.loop-i.i
      _ _ (subst (λ n. AreHomes (homes_of c.args.coloured.now) n) (sym c.loop-i.invariant.count)
      c.requires.homes)
      (let count = length-map c.args.coloured.now (λ c. c.home) in
      omega (arith, count, c.loop-i-test.true))
      (sym (home-at c.args.coloured.now c.loop-i.i c.loop-i-test.true)) refl
      c.loop-i.invariant.back;
}

pub returns-clause-back : goal.returns-clause-back
returns-clause-back c = rw c.from_list.ensures
    (back-all c.args.coloured.now c.loop-i.slabs.items c.args.plan.now c.requires.plan
    (λ k l. c.loop-i.invariant.back k (omega (arith, l, c.loop-i-test.false))))
