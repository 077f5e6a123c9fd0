use Rattle.std.proofs.Common.{◌∷◌, ◌++◌, ◌∙◌, [], append_assoc, codes, refl, sym}
use Rattle.std.specs.Prelude.{decimal}
use Rattle.mill_io.proofs.Blockwise.{put-behind, put-fails, put-fails-behind}
use Rattle.reply_text.proofs.Parts.{first-parts}
use Rattle.reply_text.proofs.summary.Summary.put_first_line.Goals as goal

pub returns-in_err-put_two_named : goal.returns-in_err-put_two_named
returns-in_err-put_two_named g c =
    put-fails _ _ _ _ _ _ _ _ _ ((codes " weight " ++ decimal c.args.self.now.weight) ++ 10 ∷ [])
    _ _ c.from_residual.result
    (first-parts c.args.self.now c.from-seed.result c.from-orders.result c.from-seed.ensures
    c.from-orders.ensures)
    c.from_residual.ensures.0 c.in_err-put_two_named.ensures

pub returns-in_err-put_named : goal.returns-in_err-put_named
returns-in_err-put_named g c =
    put-fails-behind _ _ _ _ _ _ _ _ _ _ _ _ (10 ∷ [])
    _ _ _ c.from_residual-in_err-put_named.result
    (first-parts c.args.self.now c.from-seed.result c.from-orders.result c.from-seed.ensures
    c.from-orders.ensures)
    c.from_residual-in_err-put_named.ensures.0 c.in_ok-put_two_named.ensures
    c.in_err-put_named.ensures

pub returns : goal.returns
returns g c =
    put-behind _ _ _ _ _ _ _ _ _ _ _ _ _ c.put.result
    (first-parts c.args.self.now c.from-seed.result c.from-orders.result c.from-seed.ensures
    c.from-orders.ensures
    ∙ sym (append_assoc (codes "drill seed " ++ decimal c.from-seed.result ++ codes " orders "
    ++ decimal c.from-orders.result) (codes " weight " ++ decimal c.args.self.now.weight)
    (10 ∷ [])))
    (put-behind _ _ _ _ _ _ _ _ _ _ _ _ _ _ refl c.in_ok-put_two_named.ensures
    c.in_ok-put_named.ensures)
    c.put.ensures
