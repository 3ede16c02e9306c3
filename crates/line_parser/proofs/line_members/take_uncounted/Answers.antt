use Rattle.std.proofs.Common.{true, sym, subst, ◌∙◌}
use Rattle.std.specs.Prelude.{OnOk}
use Rattle.line_parser.specs.inside.LineMembers.{TakesMember}
use Rattle.line_parser.specs.inside.PassedMembers.{TakesUncounted}
use Rattle.line_parser.specs.declared.line_members.LineMembers.{LineMembers}
use Rattle.line_parser.proofs.MembersTaken.{args_taken, state_taken, neither}
use Rattle.line_parser.proofs.line_members.take_uncounted.Goals as goal

pub returns-in-Op : goal.returns-in-Op
returns-in-Op c = c.take_text.ensures c.args.bytes.now.items

pub returns-in-Id : goal.returns-in-Id
returns-in-Id c = c.take_natural.ensures c.args.bytes.now.items

pub returns-in-Failed : goal.returns-in-Failed
returns-in-Failed c =
    subst (λ n. OnOk c.take_failed.result (TakesUncounted n c.args.reader.now c.take_failed.new.reader c.args.members.now c.args.bytes.now.items c.take_failed.new.members c.args.bytes.now.items)) (sym c.in-Failed.is) (c.take_failed.ensures c.args.bytes.now.items)

pub returns-in_ok-members-in-Args : goal.returns-in_ok-members-in-Args
returns-in_ok-members-in-Args c count more =
    let new : LineMembers = record c.args.members.now { args = true; refusal = c.in_ok-members-in-Args.field-0; count = count } in
    subst (λ n. TakesMember n c.args.reader.now c.take_value.new.reader c.args.members.now c.args.bytes.now.items new c.take_value.new.bytes.items) (sym c.in-Args.is)
    (args_taken c.args.members.now count c.args.bytes.now.items c.take_value.new.bytes.items c.args.reader.now c.take_value.new.reader c.in_ok-members-in-Args.field-0 c.in_ok-members-in-Args.ensures.value (neither c.args.members.now.args c.args.members.now.state (sym c.has_value.ensures ∙ c.in_ok-members-in-Args.ensures.empty)) more)

pub returns-in_ok-members-in-State : goal.returns-in_ok-members-in-State
returns-in_ok-members-in-State c count more =
    let new : LineMembers = record c.args.members.now { state = true; refusal = c.in_ok-members-in-State.field-0; count = count } in
    subst (λ n. TakesMember n c.args.reader.now c.take_value-in-State.new.reader c.args.members.now c.args.bytes.now.items new c.take_value-in-State.new.bytes.items) (sym c.in-State.is)
    (state_taken c.args.members.now count c.args.bytes.now.items c.take_value-in-State.new.bytes.items c.args.reader.now c.take_value-in-State.new.reader c.in_ok-members-in-State.field-0 c.in_ok-members-in-State.ensures.value (neither c.args.members.now.args c.args.members.now.state (sym c.has_value-in-State.ensures ∙ c.in_ok-members-in-State.ensures.empty)) more)
