use Rattle.std.proofs.Common.{◌≡◌, ◌<◌, ◌++◌, ◌∷◌, [], length, ◌∙◌, get_or, refl, ltb-true, ap, sym}
use Rattle.mill_model.specs.Log.{recorded}
use Rattle.mill_model.specs.declared.closing.Entry.{Entry}
use Rattle.log_checker.specs.Agenda.{wanted_path}
use Rattle.log_checker.proofs.OneRecord.{recorded-at}
use Rattle.log_checker.proofs.agenda.compare_wanted.Goals as goal

pub returns-in-Child : goal.returns-in-Child
returns-in-Child c =
    let parent = c.in-Child.parent in
    let h : parent < length c.args.log.now =
    ltb-true parent (length c.args.log.now) (rw c.in-Child.is at c.requires) in
    let p : get_or (recorded c.args.log.now) parent [] ≡ c.index-log-parent.result.path =
    recorded-at c.args.log.now parent c.index-log-parent.result h c.index-log-parent.is in
    let child : wanted_path c.args.log.now c.args.wanted
    ≡ c.index-log-parent.result.path ++ c.in-Child.group ∷ [] = rw (c.in-Child.is, p) refl in
    let n : c.numbers.result.now ≡ c.index-log-parent.result.path =
    c.numbers.ensures ∙ ap (λ (entry : Entry). entry.path) (sym c.index-log-parent.is) in
    rw child (rw n at c.compare_child.ensures)
