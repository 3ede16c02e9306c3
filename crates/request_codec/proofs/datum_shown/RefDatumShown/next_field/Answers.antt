use Rattle.request_codec.specs.Seen.{value_of}
use Rattle.request_codec.proofs.Entries.{ascend_on}
use Rattle.request_codec.proofs.datum_shown.RefDatumShown.next_field.Goals as goal

pub returns-in-Some-clause-order : goal.returns-in-Some-clause-order
returns-in-Some-clause-order c = ascend_on value_of c.args.fields.now (c.in-Some.field.0.now, c.in-Some.field.1.now) c.next.new.self c.in-Some.ensures.steps
