-- The line is put in four parts: what was put so far is a front of it, also where a part fails.
use Rattle.std.proofs.Common.{◌∷◌, ◌++◌, ◌∙◌, [], append_assoc, flat_map, length, refl, sym}
use Rattle.std.specs.Fmt.{decimal}
use Rattle.line_text.specs.Numbers.{ordinal}
use Rattle.mill_io.proofs.Blockwise.{put-behind, put-fails, put-fails-behind}
use Rattle.refute_log.specs.Text.{closing_words}
use Rattle.refute_log.proofs.RecordLines.{put-parts}
use Rattle.refute_log.proofs.print.put_record.Goals as goal

pub returns-in_err-put_named : goal.returns-in_err-put_named
returns-in_err-put_named g c =
    put-fails _ _ _ _ _ _ _ _ _
    (flat_map (λ g. 32 ∷ ordinal g) c.numbers-path.result.now
    ++ (flat_map (λ w. 32 ∷ w) (closing_words c.args.entry.now.closing) ++ 10 ∷ []))
    _ _ c.from_residual.result
    (put-parts c.args.entry.now c.letter.result.now c.numbers-path.result.now c.letter.ensures
    c.numbers-path.ensures)
    c.from_residual.ensures.0 c.in_err-put_named.ensures

pub returns-in_err-put_ordinals : goal.returns-in_err-put_ordinals
returns-in_err-put_ordinals g c =
    put-fails-behind _ _ _ _ _ _ _ _ _ _ _ _
    (flat_map (λ w. 32 ∷ w) (closing_words c.args.entry.now.closing) ++ 10 ∷ [])
    _ _ _ c.from_residual-in_err-put_ordinals.result
    (put-parts c.args.entry.now c.letter.result.now c.numbers-path.result.now c.letter.ensures
    c.numbers-path.ensures)
    c.from_residual-in_err-put_ordinals.ensures.0 c.in_ok-put_named.ensures
    c.in_err-put_ordinals.ensures

pub returns-in_err-put_closing : goal.returns-in_err-put_closing
returns-in_err-put_closing g c =
    let path = c.numbers-path.result.now in
    let closing = flat_map (λ w. 32 ∷ w) (closing_words c.args.entry.now.closing) in
    put-fails-behind _ _ _ _ _ _ _ _ _ _ _ _ (10 ∷ [])
    _ _ _ c.from_residual-in_err-put_closing.result
    (put-parts c.args.entry.now c.letter.result.now path c.letter.ensures c.numbers-path.ensures
    ∙ sym (append_assoc (c.letter.result.now ++ decimal (length path))
    (flat_map (λ g. 32 ∷ ordinal g) path) (closing ++ 10 ∷ [])))
    c.from_residual-in_err-put_closing.ensures.0
    (put-behind _ _ _ _ _ _ _ _ _ _ _ _ _ _ refl c.in_ok-put_named.ensures
    c.in_ok-put_ordinals.ensures)
    c.in_err-put_closing.ensures

pub returns : goal.returns
returns g c =
    let path = c.numbers-path.result.now in
    let closing = flat_map (λ w. 32 ∷ w) (closing_words c.args.entry.now.closing) in
    let before = c.letter.result.now ++ decimal (length path) in
    put-behind _ _ _ _ _ _ _ _ _ _ _ _ _ c.put.result
    (put-parts c.args.entry.now c.letter.result.now path c.letter.ensures c.numbers-path.ensures
    ∙ sym (append_assoc before (flat_map (λ g. 32 ∷ ordinal g) path) (closing ++ 10 ∷ []))
    ∙ sym (append_assoc (before ++ flat_map (λ g. 32 ∷ ordinal g) path) closing (10 ∷ [])))
    (put-behind _ _ _ _ _ _ _ _ _ _ _ _ _ _ refl
    (put-behind _ _ _ _ _ _ _ _ _ _ _ _ _ _ refl c.in_ok-put_named.ensures
    c.in_ok-put_ordinals.ensures)
    c.in_ok-put_closing.ensures)
    c.put.ensures
