use Rattle.std.proofs.Common.{inl, inr}
use Rattle.std.proofs.KnownBytes.{Keeps-refl}
use Rattle.std.proofs.lemmas.Result.{IfErr-weaker}
use Rattle.command_parts.specs.Setups.{starting, version_of}
use Rattle.data_command.specs.Data.{AnswersData, DataFailsBy, log_view, since}
use Rattle.data_command.specs.Passing.{RunHas, RunLasts}
use Rattle.data_command.proofs.Beginnings.{at_ready, found_so, not_opened, on_ok_so, ready_words}
use Rattle.data_command.proofs.answering.answer_data.Goals as goal

-- ---- no silo goes on with the folder

pub returns-in-Err-clause-fault : goal.returns-in-Err-clause-fault
returns-in-Err-clause-fault g c =
    let start = starting (version_of g.L.GrainLogic.logic c.args.opening.start.kinds) c.args.opening.start.tenants c.args.opening.start.age c.args.opening.start.ages in
    let view = log_view g.F.LogHost.begun g.F.LogHost.acts g.F.LogHost.past g.F.LogHost.failed in
    inl (not_opened start c.args.opening.sends (view c.args.files.now) (view c.open_folder.new.files) c.in-Err.why c.open_folder.ensures.left c.in-Err.ensures.fault, (Keeps-refl (g.R.Read.remaining c.args.input.now.reader), Keeps-refl (g.W.Write.contents c.args.output.now.writer)))

pub returns-in-Err-ready_silo-clause-fault : goal.returns-in-Err-ready_silo-clause-fault
returns-in-Err-ready_silo-clause-fault g c =
    let view = log_view g.F.LogHost.begun g.F.LogHost.acts g.F.LogHost.past g.F.LogHost.failed in
    inl (c.in-Err-ready_silo.ensures.fault (view c.args.files.now) (found_so c.open_folder.ensures.left c.open_folder.ensures.acts c.in-Ok.ensures.log c.in-Ok.ensures.point), (Keeps-refl (g.R.Read.remaining c.args.input.now.reader), Keeps-refl (g.W.Write.contents c.args.output.now.writer)))

-- ---- what a run is handed

pub answer_on-done-requires-clause-ready : goal.answer_on-done-requires-clause-ready
answer_on-done-requires-clause-ready g c =
    let view = log_view g.F.LogHost.begun g.F.LogHost.acts g.F.LogHost.past g.F.LogHost.failed in
    (c.in-Ok-ready_silo.ensures.ready (view c.args.files.now) (found_so c.open_folder.ensures.left c.open_folder.ensures.acts c.in-Ok.ensures.log c.in-Ok.ensures.point)).runs

pub answer_on-done-requires-clause-drops : goal.answer_on-done-requires-clause-drops
answer_on-done-requires-clause-drops g c =
    let view = log_view g.F.LogHost.begun g.F.LogHost.acts g.F.LogHost.past g.F.LogHost.failed in
    (c.in-Ok-ready_silo.ensures.ready (view c.args.files.now) (found_so c.open_folder.ensures.left c.open_folder.ensures.acts c.in-Ok.ensures.log c.in-Ok.ensures.point)).drops

pub answer_on-done-requires-clause-opened : goal.answer_on-done-requires-clause-opened
answer_on-done-requires-clause-opened g c =
    let view = log_view g.F.LogHost.begun g.F.LogHost.acts g.F.LogHost.past g.F.LogHost.failed in
    (c.in-Ok-ready_silo.ensures.ready (view c.args.files.now) (found_so c.open_folder.ensures.left c.open_folder.ensures.acts c.in-Ok.ensures.log c.in-Ok.ensures.point)).opens

pub answer_on-done-requires-clause-found : goal.answer_on-done-requires-clause-found
answer_on-done-requires-clause-found g c =
    let view = log_view g.F.LogHost.begun g.F.LogHost.acts g.F.LogHost.past g.F.LogHost.failed in
    (c.in-Ok-ready_silo.ensures.ready (view c.args.files.now) (found_so c.open_folder.ensures.left c.open_folder.ensures.acts c.in-Ok.ensures.log c.in-Ok.ensures.point)).found

pub answer_on-done-requires-clause-words : goal.answer_on-done-requires-clause-words
answer_on-done-requires-clause-words g c =
    let view = log_view g.F.LogHost.begun g.F.LogHost.acts g.F.LogHost.past g.F.LogHost.failed in
    ready_words (c.in-Ok-ready_silo.ensures.ready (view c.args.files.now) (found_so c.open_folder.ensures.left c.open_folder.ensures.acts c.in-Ok.ensures.log c.in-Ok.ensures.point))

-- ---- what it comes to

pub returns-clause-answered : goal.returns-clause-answered
returns-clause-answered g c =
    let view = log_view g.F.LogHost.begun g.F.LogHost.acts g.F.LogHost.past g.F.LogHost.failed in
    let ready = c.in-Ok-ready_silo.ensures.ready (view c.args.files.now) (found_so c.open_folder.ensures.left c.open_folder.ensures.acts c.in-Ok.ensures.log c.in-Ok.ensures.point) in
    let opens = c.in-Ok-ready_silo.ensures.opens (view c.args.files.now) (found_so c.open_folder.ensures.left c.open_folder.ensures.acts c.in-Ok.ensures.log c.in-Ok.ensures.point) in
    on_ok_so c.answer_on-done.result _ _
    (at_ready ready opens (λ own n now. AnswersData own n (since now (view c.answer_on-done.new.files)) (g.R.Read.remaining c.args.input.now.reader) (g.R.Read.remaining c.answer_on-done.new.input.reader) (g.W.Write.contents c.args.output.now.writer) (g.W.Write.contents c.answer_on-done.new.output.writer))) c.answer_on-done.ensures.answered

pub returns-clause-has : goal.returns-clause-has
returns-clause-has g c =
    let view = log_view g.F.LogHost.begun g.F.LogHost.acts g.F.LogHost.past g.F.LogHost.failed in
    let ready = c.in-Ok-ready_silo.ensures.ready (view c.args.files.now) (found_so c.open_folder.ensures.left c.open_folder.ensures.acts c.in-Ok.ensures.log c.in-Ok.ensures.point) in
    let opens = c.in-Ok-ready_silo.ensures.opens (view c.args.files.now) (found_so c.open_folder.ensures.left c.open_folder.ensures.acts c.in-Ok.ensures.log c.in-Ok.ensures.point) in
    on_ok_so c.answer_on-done.result _ _
    (λ has synced. at_ready ready opens (λ own n now. RunHas own n (since now (view c.answer_on-done.new.files)) (g.R.Read.remaining c.args.input.now.reader)) (has synced)) c.answer_on-done.ensures.has

pub returns-clause-fault : goal.returns-clause-fault
returns-clause-fault g c =
    let view = log_view g.F.LogHost.begun g.F.LogHost.acts g.F.LogHost.past g.F.LogHost.failed in
    let ready = c.in-Ok-ready_silo.ensures.ready (view c.args.files.now) (found_so c.open_folder.ensures.left c.open_folder.ensures.acts c.in-Ok.ensures.log c.in-Ok.ensures.point) in
    let opens = c.in-Ok-ready_silo.ensures.opens (view c.args.files.now) (found_so c.open_folder.ensures.left c.open_folder.ensures.acts c.in-Ok.ensures.log c.in-Ok.ensures.point) in
    IfErr-weaker c.answer_on-done.result _ _
    (λ why is. inr (at_ready ready opens (λ own n now. DataFailsBy own n (since now (view c.answer_on-done.new.files)) why (g.R.Read.remaining c.args.input.now.reader) (g.R.Read.remaining c.answer_on-done.new.input.reader) c.answer_on-done.new.input.lines (g.W.Write.contents c.args.output.now.writer) (g.W.Write.contents c.answer_on-done.new.output.writer)) is)) c.answer_on-done.ensures.fault

pub returns-clause-lasts : goal.returns-clause-lasts
returns-clause-lasts g c synced known =
    let view = log_view g.F.LogHost.begun g.F.LogHost.acts g.F.LogHost.past g.F.LogHost.failed in
    let ready = c.in-Ok-ready_silo.ensures.ready (view c.args.files.now) (found_so c.open_folder.ensures.left c.open_folder.ensures.acts c.in-Ok.ensures.log c.in-Ok.ensures.point) in
    let opens = c.in-Ok-ready_silo.ensures.opens (view c.args.files.now) (found_so c.open_folder.ensures.left c.open_folder.ensures.acts c.in-Ok.ensures.log c.in-Ok.ensures.point) in
    inr (inl (at_ready ready opens (λ own n now. RunLasts own n (since now (view c.answer_on-done.new.files))) (c.answer_on-done.ensures.lasts synced)))
