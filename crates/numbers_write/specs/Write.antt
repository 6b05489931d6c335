-- What writing a message of numbers answers: as the writer does, or 64 where the numbers are no message.
use Rattle.std.specs.Prelude.{List, ℕ, length, Some, None, Result, Ok, Err}
use Rattle.messages.specs.Messages.{write_of}
use Rattle.messages.specs.MessageOf.{message_of}
use Rattle.numbers_to_message.specs.Types.{Made}
use Rattle.numbers_to_message.specs.Table.{message_of_numbers}
use Rattle.util.specs.declared.refusal.Refusal.{Refusal}
use Rattle.util.specs.Refusals.{number}
use Rattle.writer.specs.Write.{written_at, written_number, written_value, output_after}
use Rattle.numbers_write.specs.declared.WriteError.{WriteError}
use Rattle.numbers_write.specs.declared.WriteError.TheVariants.{NoMessage, Refused}

-- the number of an error: a refusal's own, 64 where the numbers are no message
abbrev pub error_number : WriteError → ℕ
error_number NoMessage = 64
error_number (Refused r) = number r

-- what the writer answers, with its refusal as an error
abbrev pub as_answer : Result ℕ Refusal → Result ℕ WriteError
as_answer (Ok n) = Ok n
as_answer (Err r) = Err (Refused r)

-- the answer: the frame's length, or an error
abbrev pub made_answer : Made → List ℕ → List ℕ → List ℕ → ℕ → Result ℕ WriteError
made_answer (Some x) text entries out place = as_answer (written_at (write_of (message_of x.0 x.1 text entries)) (length out) place)
made_answer None text entries out place = Err NoMessage

-- the number and the value that an answer carries
abbrev pub answer_number : Result ℕ WriteError → ℕ
answer_number (Ok n) = 0
answer_number (Err e) = error_number e

abbrev pub answer_value : Result ℕ WriteError → ℕ
answer_value (Ok n) = n
answer_value (Err e) = 0

-- the number of the refusal, 0 for none
abbrev pub made_number : Made → List ℕ → List ℕ → List ℕ → ℕ → ℕ
made_number (Some x) text entries out place = written_number (written_at (write_of (message_of x.0 x.1 text entries)) (length out) place)
made_number None text entries out place = 64

-- the value besides: the frame's length
abbrev pub made_value : Made → List ℕ → List ℕ → List ℕ → ℕ → ℕ
made_value (Some x) text entries out place = written_value (written_at (write_of (message_of x.0 x.1 text entries)) (length out) place)
made_value None text entries out place = 0

-- the output afterwards
abbrev pub made_output : Made → List ℕ → List ℕ → List ℕ → ℕ → List ℕ
made_output (Some x) text entries out place = output_after (write_of (message_of x.0 x.1 text entries)) out place
made_output None text entries out place = out

-- the same by the numbers of the message
abbrev pub write_answer : List ℕ → List ℕ → List ℕ → List ℕ → ℕ → Result ℕ WriteError
write_answer v text entries out place = made_answer (message_of_numbers v) text entries out place

abbrev pub write_number : List ℕ → List ℕ → List ℕ → List ℕ → ℕ → ℕ
write_number v text entries out place = made_number (message_of_numbers v) text entries out place

abbrev pub write_value : List ℕ → List ℕ → List ℕ → List ℕ → ℕ → ℕ
write_value v text entries out place = made_value (message_of_numbers v) text entries out place

abbrev pub write_output : List ℕ → List ℕ → List ℕ → List ℕ → ℕ → List ℕ
write_output v text entries out place = made_output (message_of_numbers v) text entries out place
