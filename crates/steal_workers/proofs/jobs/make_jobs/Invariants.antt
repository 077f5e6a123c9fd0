use Rattle.std.proofs.Common.{◌≡◌, ◌<◌, ◌++◌, All, length, map}
use Rattle.std.specs.Vec.Iter.{into_iter_items, into_iter_len}
use Rattle.running_worker.specs.declared.job.Job.{Job}
use Rattle.steal_workers.specs.Deques.{thieves_in}
use Rattle.steal_workers.specs.Rounds.{job_owners, job_seats, job_thieves}
use Rattle.steal_workers.proofs.jobs.make_jobs.Given as goal

-- what the jobs so far have, with what is left for the others
abbrev pub invariant-loop-own : goal.invariant-loop-own
invariant-loop-own l = record {
  number : l.number ≡ length l.jobs.items;
  each : All (λ (job : Job). job.number < length l.fn.dealt.owns.items) l.jobs.items;
  owns : job_owners l.jobs.items ++ l.own-iterator.rest.items ≡ l.fn.dealt.owns.items;
  all_thieves : job_thieves l.jobs.items ++ thieves_in (into_iter_items l.all_thieves)
      ≡ thieves_in l.fn.dealt.all_thieves.items;
  seats : map job_seats l.jobs.items ++ into_iter_items l.seats ≡ l.fn.seats.items;
  thieves_long : into_iter_len l.all_thieves ≡ length (into_iter_items l.all_thieves);
  seats_long : into_iter_len l.seats ≡ length (into_iter_items l.seats);
}
