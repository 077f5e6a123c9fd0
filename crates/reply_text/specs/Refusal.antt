-- What is written of a refusal.
use Rattle.std.specs.Prelude.{ℕ, List, ◌++◌, codes, decimal}
use Rattle.instance_text.specs.Fields.{name_of}
use Rattle.instance_text.specs.declared.error.InstanceError.{InstanceError}
use Rattle.instance_text.specs.declared.error.InstanceError.TheVariants as instance
use Rattle.answer_text.specs.declared.error.AnswerTextError.{AnswerTextError}
use Rattle.answer_text.specs.declared.error.AnswerTextError.TheVariants as answer
use Rattle.reply_text.specs.declared.refusal.Refusal.{Refusal}
use Rattle.reply_text.specs.declared.refusal.Refusal.TheVariants.{TooLong, Instance, Rest, Answer}
use Rattle.reply_text.specs.declared.refusal.Refusal.TheVariants.{AnswerKind, Schedule}

-- What is wrong with a text, in the words of the refusal. Want of memory isn't, so it is in no
-- refusal of a text; it has words only so that each error has some.

abbrev pub reason_in_instance : InstanceError → List ℕ
reason_in_instance (instance.BadByte at) = codes "byte " ++ decimal at
reason_in_instance (instance.Short token) = codes "short token " ++ decimal token
reason_in_instance (instance.OutOfRange what token) =
    codes "range " ++ name_of what ++ codes " token " ++ decimal token
reason_in_instance instance.OutOfMemory = codes "memory"

abbrev pub reason_in_answer : AnswerTextError → List ℕ
reason_in_answer (answer.BadLine number) = codes "line " ++ decimal number
reason_in_answer (answer.NotRising number) =
    codes "line " ++ decimal number ++ codes " not rising"
reason_in_answer (answer.CountDiffers stated found) =
    codes "count stated " ++ decimal stated ++ codes " found " ++ decimal found
reason_in_answer answer.OutOfMemory = codes "memory"

-- why an input is refused
abbrev pub reason_of : Refusal → List ℕ
reason_of (TooLong limit) = codes "long " ++ decimal limit
reason_of (Instance why) = codes "instance " ++ reason_in_instance why
reason_of (Rest at) = codes "rest byte " ++ decimal at
reason_of (Answer why) = codes "answer " ++ reason_in_answer why
reason_of AnswerKind = codes "answer kind"
reason_of (Schedule token) = codes "schedule token " ++ decimal token

abbrev pub words_of_refusal : Refusal → List ℕ
words_of_refusal why = codes "refused " ++ reason_of why
