use Rattle.std.proofs.Common.{◌≡◌, ◌&&◌, Bool, true, take, arith, get_or, length, refl, leb, ltb}
use Rattle.std.proofs.Common.{false}
use Rattle.std.proofs.lemmas.Bool.{lt-leb}
use Rattle.mill_model.specs.Tree.{next_new}
use Rattle.log_checker.proofs.tree.goes_on_at.Goals as goal

pub returns-then-count-g : goal.returns-then-count-g
returns-then-count-g c =
    let far : leb (get_or c.args.path.now c.args.k 0) (next_new (take c.args.k c.args.path.now))
    ≡ false =
    lt-leb (get_or c.args.path.now c.args.k 0) (next_new (take c.args.k c.args.path.now))
    (omega (arith, c.if-count-g.true, c.requires.count)) in
    rw far (never (ltb (length (take c.args.k c.args.path.now))
    (length c.args.rules.now.ranked.items)) _ _)
  where
    never : (b x y : Bool) → false ≡ (b && false && x && y)
    never true x y = refl
    never false x y = refl
