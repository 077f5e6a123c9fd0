-- Load by load: the new row stands up to here, and the three greatest are right at each load.
use Rattle.std.proofs.Common.{ℕ, ◌≡◌, ◌≢◌, ◌+◌, ◌*◌, ◌<◌, ◌≤◌, ◌∙◌, ◌⊎◌, length, get_or, set, pos}
use Rattle.std.proofs.Common.{SFits, w64, to_z-of_z, rules, arith, sym, refl, ap, inl, inr, subst}
use Rattle.std.proofs.Common.{List, ℤ}
use Rattle.std.proofs.lemmas.Bool.{cases_lt}
use Rattle.std.proofs.lemmas.List.{length-set}
use Rattle.colour_tables.specs.Entries.{entry}
use Rattle.colour_tables.specs.Threes.{column, three, row_entry}
use Rattle.colour_tables.specs.declared.tops.Three.{Three}
use Rattle.colour_tables.proofs.LoadsWritten.{set-same, set-other}
use Rattle.colour_tables.proofs.FlatRows.{tops-put}
use Rattle.colour_tables.proofs.tops.replace.Goals as goal

pub loop-load-init : goal.loop-load-init
loop-load-init c =
    let rows = c.args.rows.now in
    let width = length c.args.new.now in
    let at = c.args.c * width in
    let v = get_or c.args.new.now 0 (pos 0) in
    let fv : SFits w64 (get_or c.args.new.now 0 (pos 0)) = search rules in
    simp to_z-of_z (record {
      row = λ k b.
          let z : k ≡ 0 = omega arith in
          subst (λ j. entry (set rows at v) (at + j) ≡ entry c.args.new.now j) (sym z)
          (subst (λ j. entry (set rows at v) j ≡ v) (plain at) (set-same rows at v (omega arith)));
      other = λ i b. set-other rows at i v (apart at i b);
      tops = λ k a b.
          c.requires.tops k a b
          ∙ subst (λ j. three (row_entry rows width k) c.args.present.now
          ≡ three (row_entry (set rows j v) width k) c.args.present.now) (sym (plain at))
          (tops-put rows width c.args.c 0 v c.requires.some c.requires.here
          c.args.present.now k b (λ q. absurd (omega arith)));
      first = refl;
    })
  where
    plain : (n : ℕ) → n ≡ n + 0
    plain n = omega arith

    apart : (n i : ℕ) → i < n ⊎ n + 1 ≤ i → i ≢ n
    apart n i (inl h) q = absurd (omega arith)
    apart n i (inr h) q = absurd (omega arith)

pub loop-load-preserved : goal.loop-load-preserved
loop-load-preserved c =
    let rows = c.loop-load.rows in
    let width = length c.args.new.now in
    let l = c.loop-load.load in
    let v = get_or c.args.new.now l (pos 0) in
    let r : c.replace_at.new.rows ≡ set rows (c.args.c * width + l) v = c.replace_at.ensures.rows in
    let here : c.args.c * width + width ≤ length rows =
    subst (λ n. c.args.c * width + width ≤ n)
    (sym (c.loop-load.auto.rows ∙ length-set _ _ _)) c.requires.here in
    record {
      row = λ k b. ap (λ (z : List ℤ). entry z (c.args.c * width + k)) r ∙ elim (cases_lt k l) [
        | inl a ↦ set-other rows (c.args.c * width + l) (c.args.c * width + k) v
            (λ q. absurd (omega arith)) ∙ c.loop-load.invariant.row k a
        | inr a ↦ (let e : l ≡ k = omega arith in
            subst (λ j. entry (set rows (c.args.c * width + l) v) (c.args.c * width + j)
            ≡ entry c.args.new.now j) e
            (set-same rows (c.args.c * width + l) v (omega arith)))
      ];
      other = λ i b. ap (λ (z : List ℤ). entry z i) r
          ∙ set-other rows (c.args.c * width + l) i v (apart (c.args.c * width) l i (omega arith) b)
          ∙ c.loop-load.invariant.other i (less (c.args.c * width) l i b);
      tops = λ k a b. elim (cases_eq k l) [
        | inl e ↦ subst (λ j. column c.replace_at.new.best c.replace_at.new.second
            c.replace_at.new.third j
            ≡ three (row_entry c.replace_at.new.rows width j) c.args.present.now) (sym e)
            c.replace_at.ensures.tops
        | inr n ↦ c.replace_at.ensures.others k n ∙ c.loop-load.invariant.tops k a b
            ∙ subst (λ z. three (row_entry rows width k) c.args.present.now
            ≡ three (row_entry z width k) c.args.present.now) (sym r)
            (tops-put rows width c.args.c l v (omega arith) here c.args.present.now k b n)
      ];
      first =
          ap (λ (t : Three). t.best) (c.replace_at.ensures.others 0 (λ q. absurd (omega (
            arith,
            c.loop-load.auto.load,
          ))))
          ∙ c.loop-load.invariant.first;
    }
  where
    cases_eq : (k l : ℕ) → (k ≡ l) ⊎ (k ≢ l)
    cases_eq k l = elim (cases_lt k l) [
      | inl a ↦ inr (λ q. absurd (omega arith))
      | inr a ↦ elim (cases_lt l k) [
        | inl b ↦ inr (λ q. absurd (omega arith))
        | inr b ↦ inl (omega arith)
      ]
    ]

    apart : (n l i : ℕ) → 0 ≤ l → i < n ⊎ n + (l + 1) ≤ i → i ≢ n + l
    apart n l i z (inl h) q = absurd (omega arith)
    apart n l i z (inr h) q = absurd (omega arith)

    less : (n l i : ℕ) → i < n ⊎ n + (l + 1) ≤ i → i < n ⊎ n + l ≤ i
    less n l i (inl h) = inl h
    less n l i (inr h) = inr (omega arith)
