-- What stops a command where a reader gives an error: want of memory stays what it is, and anything
-- else is a refusal of the text.
use Rattle.instance_text.specs.declared.error.InstanceError.{InstanceError}
use Rattle.instance_text.specs.declared.error.InstanceError.TheVariants as instance
use Rattle.answer_text.specs.declared.error.AnswerTextError.{AnswerTextError}
use Rattle.answer_text.specs.declared.error.AnswerTextError.TheVariants as answer
use Rattle.reply_text.specs.declared.refusal.Refusal.TheVariants.{Instance, Answer}
use Rattle.reply_text.specs.declared.stop.Stop.{Stop}
use Rattle.reply_text.specs.declared.stop.Stop.TheVariants.{Refused, OutOfMemory}

abbrev pub stop_in_instance : InstanceError → Stop
stop_in_instance instance.OutOfMemory = OutOfMemory
stop_in_instance why = Refused (Instance why)

abbrev pub stop_in_answer : AnswerTextError → Stop
stop_in_answer answer.OutOfMemory = OutOfMemory
stop_in_answer why = Refused (Answer why)
