-- A reply as a journal records it.
use Rattle.std.specs.Prelude.{Result, Ok, Err}
use Rattle.request_codec.specs.Tree.{Tree}
use Rattle.silo_event.specs.declared.fault.Fault.{Fault}
use Rattle.silo_event.specs.declared.reply.Reply.{Reply}
use Rattle.silo_event.specs.Fault.{fault_code, fault_text}
use Rattle.journal_text.specs.RecordedFault.{CodeAndText, code_and_text}
use Rattle.journal_text.specs.declared.recorded.RecordedReply.{RecordedReply}

-- a fault is recorded as its code and its text
abbrev pub recorded_outcome : Result Tree Fault → Result Tree CodeAndText
recorded_outcome (Ok value) = Ok value
recorded_outcome (Err fault) = Err (code_and_text (fault_code fault) (fault_text fault))

abbrev pub recorded_of : Reply → RecordedReply
recorded_of reply = record { recipient = reply.recipient; outcome = recorded_outcome reply.outcome }
