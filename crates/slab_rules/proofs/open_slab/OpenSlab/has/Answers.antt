use Rattle.std.proofs.Common.{◌≡◌, ◌∙◌, ◌==◌, rules}
use Rattle.std.specs.List.{list_any}
use Rattle.slab_rules.proofs.Joined.{any-holds}
use Rattle.slab_rules.proofs.open_slab.OpenSlab.has.Goals as goal

pub returns : goal.returns
returns c =
    let found : c.contains.result
    ≡ list_any (λ x. x == c.args.colour) c.args.self.now.colours = search rules in
    found ∙ any-holds c.args.colour c.args.self.now.colours
