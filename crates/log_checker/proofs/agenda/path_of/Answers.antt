use Rattle.std.proofs.Common.{◌≡◌, ◌<◌, ◌++◌, ◌∷◌, [], length, ◌∙◌, get_or, refl}
use Rattle.std.proofs.Common.{ltb-true}
use Rattle.std.proofs.lemmas.Result.{IfOk-weaker}
use Rattle.mill_model.specs.Log.{recorded}
use Rattle.log_checker.specs.Agenda.{wanted_path}
use Rattle.log_checker.proofs.OneRecord.{recorded-at}
use Rattle.log_checker.proofs.agenda.path_of.Goals as goal

pub returns-in-Child : goal.returns-in-Child
returns-in-Child c =
    let h : c.in-Child.parent < length c.args.log.now =
    ltb-true c.in-Child.parent (length c.args.log.now) (rw c.in-Child.is at c.requires) in
    let p : get_or (recorded c.args.log.now) c.in-Child.parent [] ≡ c.index-log-parent.result.path =
    recorded-at c.args.log.now c.in-Child.parent c.index-log-parent.result h
    c.index-log-parent.is in
    let found = (get_or c.args.log.now c.in-Child.parent c.index-log-parent.result).path in
    let e : found ++ c.in-Child.group ∷ [] ≡ wanted_path c.args.log.now c.args.wanted =
    rw (c.in-Child.is, p, ← c.index-log-parent.is) refl in
    IfOk-weaker c.child.result (λ path. path ≡ found ++ c.in-Child.group ∷ [])
    (λ path. path ≡ wanted_path c.args.log.now c.args.wanted) (λ path q. q ∙ e) c.child.ensures
