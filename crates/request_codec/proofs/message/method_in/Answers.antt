use Rattle.std.proofs.lemmas.List.{take_rest}
use Rattle.request_codec.proofs.Whole.{no_empty_message, method_is, method_there}
use Rattle.request_codec.proofs.message.method_in.Goals as goal

pub unreachable-requires : goal.unreachable-requires
unreachable-requires c = no_empty_message c.args.bytes.now c.in-empty.len_below c.requires

pub unreachable-requires-in-None : goal.unreachable-requires-in-None
unreachable-requires-in-None c = let read = rw take_rest at c.in-None.ensures in method_there c.args.bytes.now c.requires read

pub returns : goal.returns
returns c = let read = rw take_rest at c.in-Some.ensures in method_is c.args.bytes.now c.in-Some.method.now c.in-Some.field-0-1.now c.requires read
