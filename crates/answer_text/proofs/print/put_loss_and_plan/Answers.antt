use Rattle.std.proofs.Common.{◌∷◌, ◌++◌, ◌∙◌, [], append_assoc, codes, flat_map, refl, sym}
use Rattle.std.specs.Fmt.{decimal}
use Rattle.line_text.specs.Numbers.{ordinal}
use Rattle.mill_io.proofs.Blockwise.{put-behind, put-fails, put-fails-behind}
use Rattle.answer_text.proofs.Printed.{plan-parts}
use Rattle.answer_text.proofs.print.put_loss_and_plan.Goals as goal

pub returns-in_err-put_named : goal.returns-in_err-put_named
returns-in_err-put_named g c =
    put-fails _ _ _ _ _ _ _ _ _
    (codes "\nplan" ++ (flat_map (λ s. 32 ∷ ordinal s) c.args.slabs.now ++ 10 ∷ [])) _ _
    c.from_residual.result (plan-parts c.args.name.now c.args.slabs.now _ c.args.lost refl)
    c.from_residual.ensures.0 c.in_err-put_named.ensures

pub returns-in_err-put : goal.returns-in_err-put
returns-in_err-put g c =
    put-fails-behind _ _ _ _ _ _ _ _ _ _ _ _
    (flat_map (λ s. 32 ∷ ordinal s) c.args.slabs.now ++ 10 ∷ [])
    _ _ _ c.from_residual-in_err-put.result
    (plan-parts c.args.name.now c.args.slabs.now _ c.args.lost refl)
    c.from_residual-in_err-put.ensures.0 c.in_ok-put_named.ensures c.in_err-put.ensures

pub returns-in_err-put_ordinals : goal.returns-in_err-put_ordinals
returns-in_err-put_ordinals g c =
    let slabs = flat_map (λ s. 32 ∷ ordinal s) c.slabs.result.now in
    put-fails-behind _ _ _ _ _ _ _ _ _ _ _ _ (10 ∷ [])
    _ _ _ c.from_residual-in_err-put_ordinals.result
    (plan-parts c.args.name.now c.args.slabs.now c.slabs.result.now c.args.lost c.slabs.ensures
    ∙ sym (append_assoc (c.args.name.now ++ decimal c.args.lost) (codes "\nplan")
    (slabs ++ 10 ∷ [])))
    c.from_residual-in_err-put_ordinals.ensures.0
    (put-behind _ _ _ _ _ _ _ _ _ _ _ _ _ _ refl c.in_ok-put_named.ensures c.in_ok-put.ensures)
    c.in_err-put_ordinals.ensures

pub returns : goal.returns
returns g c =
    let slabs = flat_map (λ s. 32 ∷ ordinal s) c.slabs.result.now in
    let before = c.args.name.now ++ decimal c.args.lost in
    put-behind _ _ _ _ _ _ _ _ _ _ _ _ _ c.put-2.result
    (plan-parts c.args.name.now c.args.slabs.now c.slabs.result.now c.args.lost c.slabs.ensures
    ∙ sym (append_assoc before (codes "\nplan") (slabs ++ 10 ∷ []))
    ∙ sym (append_assoc (before ++ codes "\nplan") slabs (10 ∷ [])))
    (put-behind _ _ _ _ _ _ _ _ _ _ _ _ _ _ refl
    (put-behind _ _ _ _ _ _ _ _ _ _ _ _ _ _ refl c.in_ok-put_named.ensures c.in_ok-put.ensures)
    c.in_ok-put_ordinals.ensures)
    c.put-2.ensures
