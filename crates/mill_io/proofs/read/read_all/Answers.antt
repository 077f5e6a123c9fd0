use Rattle.std.proofs.Common.{◌≡◌, ℕ, rules, arith, length, length-append, length-take, vec_len}
use Rattle.mill_io.proofs.Fronts.{two-reads-give}
use Rattle.std.proofs.KnownBytes.{Consumes-trans}
use Rattle.mill_io.proofs.read.read_all.Goals as goal

-- what was lost is what was kept, and the bytes of the last read

pub returns-then-count-room-clause-lost_past : goal.returns-then-count-room-clause-lost_past
returns-then-count-room-clause-lost_past g c =
    let kept : vec_len c.loop-count.bytes ≡ length c.loop-count.bytes.items = search rules in
    λ _. (
      _,
      Consumes-trans _ _ _ _ _ c.loop-count.invariant.all c.in-Ok.ensures.bytes.0,
      simp length-append (omega (
        arith,
        kept,
        c.in-Ok.ensures.bound.0,
        c.in-Ok.ensures.bound.1,
        length-take {A = ℕ},
      )),
    )

pub returns-then-is_err-clause-lost_within : goal.returns-then-is_err-clause-lost_within
returns-then-is_err-clause-lost_within g c =
    let kept : vec_len c.loop-count.bytes ≡ length c.loop-count.bytes.items = search rules in
    λ _. (
      _,
      Consumes-trans _ _ _ _ _ c.loop-count.invariant.all c.in-Ok.ensures.bytes.0,
      simp length-append (omega (arith, kept, c.in-Ok.ensures.bound.0, c.in-Ok.ensures.bound.1)),
    )

-- what was given is what was kept, and the bytes of the last read
pub returns-then-count-room-clause-given_past : goal.returns-then-count-room-clause-given_past
returns-then-count-room-clause-given_past g c =
    let kept : vec_len c.loop-count.bytes ≡ length c.loop-count.bytes.items = search rules in
    λ _. two-reads-give _ _ _ _ _ _ c.loop-count.invariant.given c.in-Ok.ensures.given
    (omega (
      arith,
      kept,
      c.in-Ok.ensures.bound.0,
      c.in-Ok.ensures.bound.1,
      length-take {A = ℕ},
    ))
