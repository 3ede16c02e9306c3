use Rattle.std.proofs.Common.{[], ap, if◌then◌else◌, length, map, string_bytes, ℕ, ◌++◌, ◌∙◌}
use Rattle.line_service.specs.Counts.{codes_of, counts_text}
use Rattle.line_text.proofs.LinesOfBytes.{left_of-fresh}
use Rattle.line_service.specs.Reasons.{reasons_behind}
use Rattle.command_parts.specs.Setups.{setup_of}
use Rattle.serve_command.proofs.ServingLemmas.{served_lines, stops_read, told_lines}
use Rattle.serve_command.proofs.serving.serve_reader.Goals as goal

pub returns-in-Err-clause-fault : goal.returns-in-Err-clause-fault
returns-in-Err-clause-fault g c = stops_read c.in-Err.why _ _ _ (left_of-fresh c.args.input.now.lines _ c.requires.fresh) c.in-Err.ensures.err

pub returns-clause-served : goal.returns-clause-served
returns-clause-served g c =
    let setup = setup_of c.args.start.tenants c.args.start.age c.args.start.ages in
    let from = g.R.Read.remaining c.args.input.now.reader in
    let left = g.R.Read.remaining c.read_all.new.input.reader in
    let served = c.in_ok-served.served in
    served_lines setup from _ left (left_of-fresh c.args.input.now.lines from c.requires.fresh) c.in-Ok.said.items c.in-Ok.ensures.ok served.refusals.items c.in_ok-served.ensures.refused served.report.silo g.L.GrainLogic.logic
    (map (λ v. v.items) served.report.answers.items) c.in_ok-served.ensures.lanes

pub returns-clause-told : goal.returns-clause-told
returns-clause-told g c =
    let setup = setup_of c.args.start.tenants c.args.start.age c.args.start.ages in
    let from = g.R.Read.remaining c.args.input.now.reader in
    let left = g.R.Read.remaining c.read_all.new.input.reader in
    let telling = c.args.telling in
    let served = c.in_ok-served.served in
    let silo = served.report.silo in
    let reasons = string_bytes c.in-Ok-reasons_text.reasons in
    told_lines setup from _ left (left_of-fresh c.args.input.now.lines from c.requires.fresh) c.in-Ok.said.items c.in-Ok.ensures.ok served.refusals.items c.in_ok-served.ensures.refused silo telling reasons (string_bytes c.in-Ok-with_counts.told)
    (c.in-Ok-reasons_text.ensures ∙ ap (λ lines. if telling.explain_lines then reasons_behind 0 lines else []) c.as_slice.ensures.value)
    (c.in-Ok-with_counts.ensures ∙ ap (λ lines. reasons ++ (if telling.summary then counts_text lines (codes_of served.refusals.items silo.whole.replies) (length silo.journal) else [])) (c.len-lines.ensures ∙ c.in-Ok.said.ok.0))
