use Rattle.std.proofs.Common.{ap, sym, subst, ◌∙◌, drop}
use Rattle.std.proofs.lemmas.List.{take_rest}
use Rattle.std.specs.Prelude.{IsSome}
use Rattle.request_codec.specs.Call.{message_call}
use Rattle.request_codec.specs.Reading.{text_at}
use Rattle.turn_arena.proofs.Known.{not_none, no_call, behind_first, known_method, known_argument, known_asked}
use Rattle.turn_arena.proofs.formed.known_call.Goals as goal

pub unreachable-requires : goal.unreachable-requires
unreachable-requires c = no_call c.args.bytes.now c.requires c.in_default.len_below

pub known_text-requires : goal.known_text-requires
known_text-requires c =
    let first = behind_first c.args.bytes.now c.requires in
    rw (take_rest c.args.bytes.now 1) (known_method first.0 (drop 1 c.args.bytes.now) (subst (λ b. IsSome (message_call b)) first.1 c.requires))

pub unreachable-requires-in_default-known_text : goal.unreachable-requires-in_default-known_text
unreachable-requires-in_default-known_text c =
    let first = behind_first c.args.bytes.now c.requires in
    not_none _ (sym c.in_default-known_text.ensures) (rw (take_rest c.args.bytes.now 1) (known_method first.0 (drop 1 c.args.bytes.now) (subst (λ b. IsSome (message_call b)) first.1 c.requires)))

pub returns-clause-stands : goal.returns-clause-stands
returns-clause-stands c =
    let bytes = c.args.bytes.now in
    let first = behind_first bytes c.requires in
    known_argument first.0 (drop 1 bytes) (subst (λ b. IsSome (message_call b)) first.1 c.requires) c.in-Some.method.now c.in-Some.argument.now (ap (λ b. text_at b) (sym (take_rest bytes 1)) ∙ sym c.in-Some.ensures)

pub returns-clause-asked : goal.returns-clause-asked
returns-clause-asked c = λ argument rest is.
    let bytes = c.args.bytes.now in
    let first = behind_first bytes c.requires in
    ap message_call first.1
    ∙ known_asked first.0 (drop 1 bytes) (subst (λ b. IsSome (message_call b)) first.1 c.requires) c.in-Some.method.now c.in-Some.argument.now (ap (λ b. text_at b) (sym (take_rest bytes 1)) ∙ sym c.in-Some.ensures) argument rest is
