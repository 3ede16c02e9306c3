use Rattle.serde_json.specs.View.{view}
use Rattle.request_codec.specs.Seen.{value_of}
use Rattle.request_codec.proofs.JsonDepths.{within_depth}
use Rattle.line_parser.proofs.asked.state_of_json.Goals as goal

pub write_state-requires : goal.write_state-requires
write_state-requires c = within_depth (view c.args.value.now) (value_of c.in-Ok.datum) c.in-Ok.ensures
