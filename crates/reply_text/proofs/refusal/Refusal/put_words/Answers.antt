use Rattle.reply_text.proofs.refusal.Refusal.put_words.Goals as goal

pub returns-in-Rest : goal.returns-in-Rest
returns-in-Rest g c = rw c.in-Rest.is c.put_named-in-Rest.ensures

pub returns-in-Schedule : goal.returns-in-Schedule
returns-in-Schedule g c = rw c.in-Schedule.is c.put_named-in-Schedule.ensures
