use Rattle.request_codec.specs.Lenient.{json_value}
use Rattle.request_codec.proofs.Entries.{ascend_on}
use Rattle.request_codec.proofs.json_shown.RefValueShown.next_field.Goals as goal

pub returns-in-Some-clause-order : goal.returns-in-Some-clause-order
returns-in-Some-clause-order c = ascend_on json_value c.args.fields.now (c.in-Some.field.0.now, c.in-Some.field.1.now) c.next.new.self c.in-Some.ensures.steps
