use Rattle.split_tree.proofs.LiveGroups.{key-carried}
use Rattle.std.proofs.Common.{rules, ◌≡◌, filter}
use Rattle.list_laws.specs.Sets.{holds}
use Rattle.split_tree.specs.Keys.{padded}
use Rattle.split_tree.proofs.live_key.key_group.Goals as goal

pub returns : goal.returns
returns c orders carries =
    let slab = c.args.slab.now in
    let among : c.coming_among.result
    ≡ padded (filter (λ x. holds x slab.colours) c.args.coming.now) =
    search rules in
    rw (c.load.ensures.is, c.colours.ensures.is)
    (key-carried slab orders c.args.coming.now c.coming_among.result c.load.ensures.kept carries
    among)
