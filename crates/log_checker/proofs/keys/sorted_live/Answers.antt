use Rattle.log_checker.proofs.keys.sorted_live.Goals as goal

pub returns : goal.returns
returns c =
    record {
      plain = c.in_ok-live.live.items;
      live = c.in_ok-live.ensures;
      moved = c.sort.ensures.permutation;
      rise = c.sort.ensures.sorted;
    }
