use Rattle.job_words.specs.declared.option.Setting.TheVariants.{Workers, Nodes}
use Rattle.slab_top.proofs.commands.solve.serve.Goals as goal

pub solve-requires-clause-some : goal.solve-requires-clause-some
solve-requires-clause-some g c = (c.requires.in_range Workers).0

pub solve-requires-clause-few : goal.solve-requires-clause-few
solve-requires-clause-few g c = (c.requires.in_range Workers).1

pub solve-requires-clause-nodes : goal.solve-requires-clause-nodes
solve-requires-clause-nodes g c = (c.requires.in_range Nodes).1
