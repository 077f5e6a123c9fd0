use Rattle.std.proofs.Common.{◌∷◌, []}
use Rattle.std.proofs.lemmas.Result.{err_from_is_err_and}
use Rattle.instance_text.specs.declared.field.Field.TheVariants.{Weight, Colour}
use Rattle.instance_text.proofs.FieldsInTurn.{fails_next, fails_front, fails_later, took_append}
use Rattle.instance_text.proofs.reader.Reader.order.Goals as goal

pub returns-in_err-weight-clause-refused : goal.returns-in_err-weight-clause-refused
returns-in_err-weight-clause-refused c =
    let p = err_from_is_err_and c.from_residual.result c.from_residual.ensures.1 in
    rw (p.1, p.2) (fails_front (Weight ∷ []) (Colour ∷ []) c.args.self.now _
    (fails_next Weight c.args.self.now _ c.in_err-weight.ensures.refused))

pub returns-in_err-colour-clause-refused : goal.returns-in_err-colour-clause-refused
returns-in_err-colour-clause-refused c =
    let p = err_from_is_err_and c.from_residual-in_err-colour.result
    c.from_residual-in_err-colour.ensures.1 in
    rw (p.1, p.2) (fails_later (Weight ∷ []) (Colour ∷ []) _ c.args.self.now c.number.new.self _
    c.in_ok-weight.ensures.taken
    (fails_next Colour c.number.new.self _ c.in_err-colour.ensures.refused))

pub returns-clause-taken : goal.returns-clause-taken
returns-clause-taken c =
    took_append (Weight ∷ []) (Colour ∷ []) _ _ c.args.self.now c.number.new.self
    c.number-2.new.self c.in_ok-weight.ensures.taken c.in_ok-colour.ensures.taken
