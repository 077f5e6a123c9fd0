use Rattle.std.proofs.Common.{rules}
use Rattle.std.proofs.lemmas.List.Sorted.{answers_always}
use Rattle.log_checker.specs.Keys.{key_in}
use Rattle.log_checker.proofs.keys.sort.Goals as goal

pub returns-clause-sorted : goal.returns-clause-sorted
returns-clause-sorted c =
    c.sort_unstable_by_key.ensures.sorted key_in (answers_always _ _ _ (λ f a r g h. search rules))
