use Rattle.std.proofs.Common.{sym, ap, subst, ◌∙◌}
use Rattle.std.specs.Prelude.{is_some}
use Rattle.std.proofs.lemmas.Option.{same_Some}
use Rattle.request_codec.specs.Call.{Call}
use Rattle.request_codec.specs.Spelling.{SpellsMessage}
use Rattle.request_codec.specs.Written.{message_spelling}
use Rattle.turn_arena.specs.NodeValue.{node_value}
use Rattle.turn_arena.proofs.formed.formed_call_in.Goals as goal

pub known_call-requires : goal.known_call-requires
known_call-requires c = ap is_some c.bytes.ensures.reads

pub returns-clause-value : goal.returns-clause-value
returns-clause-value c =
    same_Some _ _ (sym (c.known_call.ensures.asked (node_value c.in_ok-argument.argument) _ c.in_ok-argument.ensures) ∙ c.bytes.ensures.reads)

pub returns-clause-spelled : goal.returns-clause-spelled
returns-clause-spelled c =
    let whole = subst (SpellsMessage c.args.message.now.method c.args.message.now.argument) c.bytes.ensures.exact c.bytes.ensures.spelled in
    subst (λ (m : Call). SpellsMessage m.method m.argument (message_spelling m)) (sym (returns-clause-value c)) whole
