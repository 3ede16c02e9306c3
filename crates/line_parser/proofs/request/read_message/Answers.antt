use Rattle.std.proofs.Common.{sym}
use Rattle.line_parser.proofs.Results.{if_ok_as}
use Rattle.line_parser.proofs.Steps.{value_is}
use Rattle.line_parser.proofs.request.read_message.Goals as goal

pub message_of_bytes-requires : goal.message_of_bytes-requires
message_of_bytes-requires c = (c.requires.0, value_is _ _ c.args.argument.refusal c.requires.0 c.requires.1 c.in-Bytes.is)

pub returns-in-Bytes : goal.returns-in-Bytes
returns-in-Bytes c = if_ok_as c.message_of_bytes.result c.message_of_bytes.ensures λ asked said json is. said json (value_is _ _ c.args.argument.refusal json is c.in-Bytes.is)

pub returns-in-Json : goal.returns-in-Json
returns-in-Json c = if_ok_as c.message_of_json.result c.message_of_json.ensures λ asked said json is. rw (value_is _ _ c.args.argument.refusal json is c.in-Json.is) (sym said)
