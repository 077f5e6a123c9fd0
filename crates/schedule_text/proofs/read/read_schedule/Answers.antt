use Rattle.schedule_text.proofs.WorkerNumbers.{has-read-more}
use Rattle.schedule_text.proofs.read.read_schedule.Goals as goal

pub loop-token-preserved : goal.loop-token-preserved
loop-token-preserved c =
    has-read-more c.args.workers c.in-Some-worker_of.worker c.args.text.now c.in-Some.token.now
    c.loop-token.tokens c.next_token-in-loop-token.new.self c.loop-token.schedule.items
    c.push.new.self.items c.loop-token.invariant c.in-Some.ensures.some
    c.in-Some-worker_of.ensures.some c.in-Some-worker_of.ensures.value c.in_ok-push.ensures.items
