use Rattle.std.proofs.Common.{◌≡◌, ◌<◌, ◌≤◌, ℕ, get_or, sym, subst, arith}
use Rattle.colour_tables.proofs.ItemFound.{none-found}
use Rattle.colour_tables.proofs.StretchesFound.{pair-is}
use Rattle.colour_tables.proofs.slabs.Runs.position.Goals as goal

pub returns : goal.returns
returns c =
    let r = c.index.result.now in
    let e : c.index.result.now ≡ get_or c.args.self.now.ends.items c.args.c (0, 0) =
    pair-is c.args.self.now.ends.items c.args.c r c.requires.safe.here c.index.ensures in
    record {
      is = λ rest prices x run here colour.
          absurd (none-found c.args.self.now c.args.c c.args.place c.requires.safe rest prices x
          run here colour
          (λ s a b.
          let l : c.index.result.now.0 ≤ s = subst (λ (z : ℕ × ℕ). z.0 ≤ s) (sym e) a in
          let u : s < c.index.result.now.1 = subst (λ (z : ℕ × ℕ). s < z.1) (sym e) b in
          c.loop-t.invariant s l (omega (arith, u, c.loop-t-test.false))));
    }
