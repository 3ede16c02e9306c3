use Rattle.std.proofs.Common.{◌≡◌, ◌++◌, map, take}
use Rattle.silo_event.specs.Fault.{fault_code}
use Rattle.silo_event.specs.declared.reply.Reply.{Reply}
use Rattle.line_text.specs.Text.{fault_of}
use Rattle.line_service.specs.Counts.{code_of}
use Rattle.line_service.proofs.counting.codes_of.Given as goal

abbrev pub invariant-refusals : goal.invariant-refusals
invariant-refusals l = l.list.items ≡ map (λ r. fault_code (fault_of r)) (take l.refusal-index l.refusals)

abbrev pub invariant-replies : goal.invariant-replies
invariant-replies l = l.list.items ≡ map (λ r. fault_code (fault_of r)) l.fn.refusals ++ map (λ (r : Reply). code_of r.outcome) (take l.reply-index l.replies)
