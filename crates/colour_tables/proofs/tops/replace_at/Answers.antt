use Rattle.std.proofs.Common.{◌+◌, ◌*◌, ◌∙◌, length, get_or, set, pos, SFits, w64, to_z, to_z-of_z}
use Rattle.std.proofs.Common.{rules, arith, sym, ap}
use Rattle.std.proofs.lemmas.List.{set-get_or}
use Rattle.colour_tables.specs.Threes.{three, but, row_entry}
use Rattle.colour_tables.proofs.LoadsWritten.{column-same}
use Rattle.colour_tables.proofs.FlatRows.{rest-sorted, rest-before, rest-after}
use Rattle.colour_tables.proofs.tops.replace_at.Goals as goal

pub returns-then-old-value-clause-tops : goal.returns-then-old-value-clause-tops
returns-then-old-value-clause-tops c =
    let rows = c.args.rows.now in
    let width = length c.args.new.now in
    let l = c.args.at.load in
    let present = c.args.present.now in
    let v = get_or c.args.new.now l (pos 0) in
    let fv : SFits w64 (get_or c.args.new.now c.args.at.load (pos 0)) = search rules in
    let fo : SFits w64 (get_or c.args.rows.now
    (c.args.at.row * length c.args.new.now + c.args.at.load) (pos
    0)) = search rules in
    let fb : SFits w64 (get_or c.args.best.now c.args.at.load (pos 0)) = search rules in
    let fs : SFits w64 (get_or c.args.second.now c.args.at.load (pos 0)) = search rules in
    let ft : SFits w64 (get_or c.args.third.now c.args.at.load (pos 0)) = search rules in
    let f0 : SFits w64 c.mended-tops.result.best = search rules in
    let f1 : SFits w64 c.mended-tops.result.second = search rules in
    let f2 : SFits w64 c.mended-tops.result.third = search rules in
    let e = simp to_z-of_z at c.mended-tops.ensures.is in
    let after = rest-after rows width c.args.at.row l v c.requires.load c.requires.here present
    c.requires.once c.requires.held in
    simp to_z-of_z (column-same c.args.best.now c.args.second.now c.args.third.now l
    c.mended-tops.result.best c.mended-tops.result.second c.mended-tops.result.third (omega arith)
    (omega arith)
    (omega arith)
    ∙ e (three (row_entry rows width l) (but c.args.at.row present))
    (rest-sorted rows width c.args.at.row l v c.requires.load c.requires.here present
    c.requires.once c.requires.held)
    (c.requires.tops ∙ rest-before rows width c.args.at.row l v c.requires.load c.requires.here
    present c.requires.once c.requires.held) after ∙ sym after)

pub returns-else-old-value-clause-rows : goal.returns-else-old-value-clause-rows
returns-else-old-value-clause-rows c =
    let fv : SFits w64 (get_or c.args.new.now c.args.at.load (pos 0)) = search rules in
    let fo : SFits w64 (get_or c.args.rows.now
    (c.args.at.row * length c.args.new.now + c.args.at.load) (pos
    0)) = search rules in
    let e = simp to_z-of_z at (ap (to_z w64) c.if-old-value.false) in
    let at = c.args.at.row * length c.args.new.now + c.args.at.load in
    sym (set-get_or c.args.rows.now at (pos 0)) ∙ ap (set c.args.rows.now at) e
