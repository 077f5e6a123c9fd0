use Rattle.refute_log.proofs.Reading.{priced-fits, dominated-fits}
use Rattle.refute_log.proofs.record.next_closing.Goals as goal

pub returns-in-Some-clause-fit : goal.returns-in-Some-clause-fit
returns-in-Some-clause-fit c =
    rw c.from_list.ensures
    (priced-fits c.args.orders c.args.depth c.in-Some.prices.items c.requires
    (rw c.in-Some.is at c.in_ok-read-in-80.ensures.count)
    (rw c.in-Some.is at c.in_ok-read-in-80.ensures.limit))

pub returns-in-Some-read-clause-fit : goal.returns-in-Some-read-clause-fit
returns-in-Some-read-clause-fit c =
    rw c.from_list-in-Some-read.ensures
    (dominated-fits c.args.orders c.args.depth c.in-Some-read.other.items c.requires
    (rw c.in-Some-read.is at c.in_ok-read-in-68.ensures.count)
    (rw c.in-Some-read.is at c.in_ok-read-in-68.ensures.limit))
