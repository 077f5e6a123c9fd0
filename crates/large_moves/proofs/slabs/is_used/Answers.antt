use Rattle.std.proofs.Common.{◌∙◌, ap}
use Rattle.std.specs.Option.{is_some}
use Rattle.index_links.proofs.Members.{used-first}
use Rattle.large_moves.proofs.slabs.is_used.Goals as goal

pub returns : goal.returns
returns c = c.is_some.ensures ∙ ap is_some c.first.ensures.is
    ∙ used-first c.args.links.now c.first.ensures.kept c.args.s c.requires
