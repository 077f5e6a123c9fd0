use Rattle.mill_laws.proofs.RunLaws.{run-fits-the-tree, thrifty-run-fits-the-thrifty-tree}
use Rattle.mill_laws.proofs.runs.run_fits_the_tree.Goals as goal

pub returns-clause-any_test : goal.returns-clause-any_test
returns-clause-any_test c = run-fits-the-tree

pub returns-clause-ascent : goal.returns-clause-ascent
returns-clause-ascent c = thrifty-run-fits-the-thrifty-tree
