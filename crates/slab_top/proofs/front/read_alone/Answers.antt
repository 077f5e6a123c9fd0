use Rattle.std.proofs.Common.{refl, inr}
use Rattle.job_words.specs.declared.option.Setting.TheVariants.{Colours}
use Rattle.slab_top.specs.Input.{Front}
use Rattle.slab_top.proofs.front.read_alone.Goals as goal

pub read_instance-requires-clause-low : goal.read_instance-requires-clause-low
read_instance-requires-clause-low c = (c.requires.in_range Colours).0

pub read_instance-requires-clause-high : goal.read_instance-requires-clause-high
read_instance-requires-clause-high c = (c.requires.in_range Colours).1

pub returns-in-Some : goal.returns-in-Some
returns-in-Some c =
    let front : Front = record {
      problem = c.in_ok-instance.instance;
      end = c.in_ok-instance.end;
    } in
    inr (
      front,
      (c.in_ok-instance.ensures.limit, c.in_ok-instance.ensures.found),
      (c.in-Some.at, refl, c.in-Some.ensures.some),
    )

pub returns-in-None : goal.returns-in-None
returns-in-None c =
    let front : Front = record {
      problem = c.in_ok-instance.instance;
      end = c.in_ok-instance.end;
    } in (
      front,
      (c.in_ok-instance.ensures.limit, c.in_ok-instance.ensures.found),
      (refl, c.in-None.ensures.none),
    )
