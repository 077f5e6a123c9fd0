use Rattle.std.proofs.Common.{◌∷◌, ◌∙◌, ap, flat_map, sym}
use Rattle.std.specs.Fmt.{signed_decimal}
use Rattle.line_text.specs.Numbers.{ordinal}
use Rattle.mill_io.proofs.Blockwise.{put-same}
use Rattle.refute_log.proofs.RecordLines.{spaced-path, spaced-prices}
use Rattle.refute_log.proofs.print.put_closing.Goals as goal

pub returns-in-Priced : goal.returns-in-Priced
returns-in-Priced g c =
    rw c.in-Priced.is (put-same _ _ _ _ _ _ _ _ _ c.put_signed_numbers.result
    (spaced-prices c.in-Priced.prices
    ∙ ap (flat_map (λ y. 32 ∷ signed_decimal y)) (sym c.list.ensures.is))
    c.put_signed_numbers.ensures)

pub returns-in-Dominated : goal.returns-in-Dominated
returns-in-Dominated g c =
    rw c.in-Dominated.is (put-same _ _ _ _ _ _ _ _ _ c.put_ordinals.result
    (spaced-path c.in-Dominated.other
    ∙ ap (flat_map (λ g. 32 ∷ ordinal g)) (sym c.numbers.ensures))
    c.put_ordinals.ensures)
