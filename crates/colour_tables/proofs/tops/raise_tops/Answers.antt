use Rattle.std.proofs.Common.{ℕ, ◌≡◌, ◌∙◌, get_or, pos, SFits, w64, to_z-of_z, rules, arith, ap}
use Rattle.std.proofs.Common.{inl, inr, subst, ◌≢◌, set}
use Rattle.std.proofs.lemmas.Bool.{cases_lt}
use Rattle.colour_tables.specs.Entries.{entry}
use Rattle.colour_tables.specs.Threes.{insert, column}
use Rattle.colour_tables.proofs.LoadsWritten.{column-same, column-other, set-other}
use Rattle.colour_tables.proofs.tops.raise_tops.Goals as goal

pub loop-l-preserved : goal.loop-l-preserved
loop-l-preserved c =
    let i = c.loop-l.l in
    let fx : SFits w64 (get_or c.args.row.now i (pos 0)) = search rules in
    let fb : SFits w64 (get_or c.loop-l.best i (pos 0)) = search rules in
    let fs : SFits w64 (get_or c.loop-l.second i (pos 0)) = search rules in
    let ft : SFits w64 (get_or c.loop-l.third i (pos 0)) = search rules in
    let f0 : SFits w64 c.inserted-tops.result.best = search rules in
    let f1 : SFits w64 c.inserted-tops.result.second = search rules in
    let f2 : SFits w64 c.inserted-tops.result.third = search rules in
    let e = simp to_z-of_z at c.inserted-tops.ensures in
    let other = λ (k : ℕ) (n : k ≢ i). column-other c.loop-l.best c.loop-l.second c.loop-l.third i k
    c.inserted-tops.result.best c.inserted-tops.result.second c.inserted-tops.result.third n in
    simp to_z-of_z (record {
      done = λ k a b. elim (cases_lt k i) [
        | inl d ↦ other k (λ q. absurd (omega arith)) ∙ c.loop-l.invariant.done k a d
        | inr d ↦ (let s : i ≡ k = omega arith in
            subst (λ z. column (set c.loop-l.best i c.inserted-tops.result.best)
            (set c.loop-l.second i c.inserted-tops.result.second)
            (set c.loop-l.third i c.inserted-tops.result.third) z ≡ insert (entry c.args.row.now z)
            (column c.args.best.now c.args.second.now c.args.third.now z)) s
            (column-same c.loop-l.best c.loop-l.second c.loop-l.third i c.inserted-tops.result.best
            c.inserted-tops.result.second c.inserted-tops.result.third (omega arith) (omega arith)
            (omega arith)
            ∙ e
            ∙ ap (insert (entry c.args.row.now i)) (c.loop-l.invariant.old i (omega arith))))
      ];
      old = λ k b. other k (λ q. absurd (omega arith)) ∙ c.loop-l.invariant.old k (omega arith);
      first =
          set-other c.loop-l.best i 0 c.inserted-tops.result.best (λ q. absurd (omega arith))
          ∙ c.loop-l.invariant.first;
    })
