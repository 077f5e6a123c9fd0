use Rattle.std.proofs.Common.{◌≡◌, ◌+◌, ℕ, ap, arith, length, length-take, refl, sym}
use Rattle.mill_io.proofs.Blockwise.{all-held, fills-block, held-and-piece, stays-in-block}
use Rattle.mill_io.proofs.block.Block.put_short.Goals as goal

pub returns-then-end-lt-BLOCK : goal.returns-then-end-lt-BLOCK
returns-then-end-lt-BLOCK g c =
    stays-in-block _ _ _ _ _ _ _ _
    (held-and-piece c.self.inside.filled _ _ c.self.inside.bytes c.args.self.now
    c.copy_from_slice.new.self c.args.piece.now (omega (arith, c.self.told, c.self.invariant))
    c.self.view_is c.copy_from_slice.ensures.after refl)

pub returns : goal.returns
returns g c =
    let size : length c.args.self.now + length c.args.piece.now ≡ 4096 =
    omega (
      arith,
      c.self.told,
      c.self.invariant,
      c.requires.short,
      ap length c.self.view_is,
      length-take {A = ℕ},
      c.if-end-lt-BLOCK.false,
    ) in
    fills-block _ _ _ _ _ _ _ _ c.write_all.result
    (sym (all-held c.self.inside.filled _ c.self.inside.bytes c.args.self.now
    c.copy_from_slice.new.self c.args.piece.now (omega (arith, c.self.told, c.self.invariant))
    c.self.view_is c.copy_from_slice.ensures.after
    (omega (
      arith,
      c.self.told,
      c.self.invariant,
      ap length c.self.view_is,
      length-take {A = ℕ},
      size,
    )) (omega arith)))
    size c.write_all.ensures.ok c.write_all.ensures.err c.write_all.ensures.held
    c.write_all.ensures.cause
