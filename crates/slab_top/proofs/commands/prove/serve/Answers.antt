use Rattle.job_words.specs.declared.option.Setting.TheVariants.{Workers, Nodes}
use Rattle.slab_top.proofs.commands.prove.serve.Goals as goal

pub prove-requires-clause-some : goal.prove-requires-clause-some
prove-requires-clause-some g c = (c.requires.in_range Workers).0

pub prove-requires-clause-few : goal.prove-requires-clause-few
prove-requires-clause-few g c = (c.requires.in_range Workers).1

pub prove-requires-clause-nodes : goal.prove-requires-clause-nodes
prove-requires-clause-nodes g c = (c.requires.in_range Nodes).1
