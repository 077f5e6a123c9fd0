use Rattle.std.proofs.Common.{◌≡◌, map, refl, sym, subst}
use Rattle.std.specs.Prelude.{IfSome}
use Rattle.job_words.specs.Words.{spelling}
use Rattle.job_words.specs.declared.command.TheConstants.{COMMANDS}
use Rattle.job_words.proofs.Names.{found}
use Rattle.job_words.proofs.command.command_of.Goals as goal

pub returns-clause-some : goal.returns-clause-some
returns-clause-some c =
    subst (λ it. IfSome it (λ command. c.args.word.now ≡ spelling command)) (sym c.served.ensures)
    (found (λ name command. name ≡ spelling command) c.args.word.now
    (map (λ row. (row.0.now, row.1)) COMMANDS)
    (refl, (refl, (refl, (refl, (refl, (refl, tt)))))))
