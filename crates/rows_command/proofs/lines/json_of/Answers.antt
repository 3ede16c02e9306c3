use Rattle.std.proofs.Common.{ap, ◌∙◌}
use Rattle.serde_json.specs.View.{view}
use Rattle.request_codec.specs.Json.{json_of}
use Rattle.rows_command.proofs.States.{spelled}
use Rattle.rows_command.proofs.lines.json_of.Goals as goal

pub returns : goal.returns
returns c = spelled c.args.state.now (view c.in_ok-value.value) c.to_string.result (c.in_ok-value.ensures ∙ ap json_of c.in_ok-datum.ensures) c.to_string.ensures.text
