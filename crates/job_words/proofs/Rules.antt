-- The rules of the table of options.
use Rattle.std.proofs.Common.{◌≡◌, ℕ, List, map, refl, sym, subst}
use Rattle.std.specs.Prelude.{Some, IfSome}
use Rattle.job_words.specs.Options.{name_of, rule_of}
use Rattle.job_words.specs.Table.{served_as}
use Rattle.job_words.specs.declared.option.Rule.{Rule}
use Rattle.job_words.specs.declared.option.TheConstants.{OPTIONS}
use Rattle.job_words.proofs.Names.{found}

-- the name and the rule are those of one setting
abbrev IsRow : List ℕ → Rule → Type 0
IsRow name rule = (rule ≡ rule_of rule.setting) × (name ≡ name_of rule.setting)

-- as they are in each row of the table
pub rule-served : (word : List ℕ) (rule : Rule) →
    Some rule ≡ served_as (map (λ row. (row.0.now, row.1)) OPTIONS) word →
    (rule ≡ rule_of rule.setting) × (word ≡ name_of rule.setting)
rule-served word rule is =
    subst (λ meaning. IfSome meaning (IsRow word)) (sym is)
    (found IsRow word (map (λ row. (row.0.now, row.1)) OPTIONS) (
      (refl, refl),
      (
        (refl, refl),
        (
          (refl, refl),
          (
            (refl, refl),
            (
              (refl, refl),
              (
                (refl, refl),
                tt,
              ),
            ),
          ),
        ),
      ),
    ))
