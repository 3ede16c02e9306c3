use Rattle.std.proofs.Common.{String, Global, string_bytes, arith}
use Rattle.request_codec.specs.Answers.{Reads}
use Rattle.request_codec.specs.Call.{Call, asks, message_call}
use Rattle.request_codec.specs.Seen.{value_of}
use Rattle.request_codec.specs.declared.datum.Datum.{Datum}
use Rattle.request_codec.proofs.PartAnswers.{Reads-ok, Reads-none}
use Rattle.request_codec.proofs.Whole.{is_message, no_message, message_call-short}
use Rattle.request_codec.proofs.reading.decode.Goals as goal

abbrev call_shown : String Global × Datum → Call
call_shown found = asks (string_bytes found.0) (value_of found.1)

pub returns-clause-spelled : goal.returns-clause-spelled
returns-clause-spelled c =
    let bytes = c.args.bytes.now in
    let read : Reads call_shown c.call_in.result (message_call bytes) = rw (message_call-short bytes (omega arith)) c.call_in.ensures in
    is_message call_shown c.call_in.result bytes (λ i. omega (arith, c.type_inv.bytes i)) (Reads-ok call_shown c.call_in.result (message_call bytes) read)

pub returns-clause-none : goal.returns-clause-none
returns-clause-none c =
    let bytes = c.args.bytes.now in
    let read : Reads call_shown c.call_in.result (message_call bytes) = rw (message_call-short bytes (omega arith)) c.call_in.ensures in
    λ e. no_message bytes (Reads-none call_shown c.call_in.result (message_call bytes) read e)
