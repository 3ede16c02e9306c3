use Rattle.silo_core.specs.History.{History}
use Rattle.std.proofs.Common.{subst, sym, ◌∙◌}
use Rattle.silo_core.specs.Reopening.{OpensEmpty}
use Rattle.command_parts.specs.Setups.{starting, version_of}
use Rattle.command_parts.proofs.KeptLemmas.{kept_unless}
use Rattle.line_commands.proofs.AnsweringLemmas.{answers_all, stops_all}
use Rattle.line_commands.proofs.AnsweringLemmas.{both_written, empty_kept, ended_so, led_to_end, not_kept_so, opens, opens_so, stopped_files}
use Rattle.line_commands.proofs.AnsweringLemmas.{to_end, up_to, written_after}
use Rattle.line_commands.proofs.answering.answer_and_keep.Goals as goal

-- it opens empty, and that stays so
pub keep_journal-first-requires : goal.keep_journal-first-requires
keep_journal-first-requires g c = subst (λ (h : History). OpensEmpty h.setup) (sym c.silo.ensures) (opens_so _ _ _ _ c.in-Ok.ensures.setup)

pub keep_journal-kept-requires : goal.keep_journal-kept-requires
keep_journal-kept-requires g c =
    subst (λ (h : History). OpensEmpty h.setup) (sym c.silo-in-Ok-answer_reader.ensures)
    (opens_so _ _ _ _ (c.in-Ok-answer_reader.ensures.setup c.in-Ok.ensures.keeps ∙ c.in-Ok.ensures.setup))

pub keep_after-cause-requires : goal.keep_after-cause-requires
keep_after-cause-requires g c other =
    subst (λ (h : History). OpensEmpty h.setup) (sym c.silo-in-Err-answer_reader.ensures)
    (empty_kept c.in-Err-answer_reader.why _ _ (opens_so _ _ _ _ c.in-Ok.ensures.setup) (c.in-Err-answer_reader.ensures.kept c.in-Ok.ensures.keeps) other)

-- all was answered
pub returns-in-Ok-answer_reader-clause-answered : goal.returns-in-Ok-answer_reader-clause-answered
returns-in-Ok-answer_reader-clause-answered g c =
    let start = starting (version_of g.L.GrainLogic.logic c.args.start.kinds) c.args.start.tenants c.args.start.age c.args.start.ages in
    let is = opens _ c.in-Ok.silo.history c.in-Ok.ensures.setup c.in-Ok.ensures.opening c.in-Ok.ensures.failures in
    ended_so
    g.F.WholeFiles.may_hold g.F.WholeFiles.may_fail g.F.WholeFiles.may_leave start c.args.sends c.args.files.now c.keep_journal-first.new.files
    c.keep_journal-kept.new.files c.silo.result.now c.answer_reader.new.silo.history c.silo-in-Ok-answer_reader.result.now
    (c.silo.ensures ∙ is) c.silo-in-Ok-answer_reader.ensures _ _ _ _ _ c.keep_journal-kept.result
    (kept_unless _ c.keep_journal-first.result c.in_default-first.not-Err c.keep_journal-first.ensures.kept)
    (to_end start c.args.sends c.in-Ok.silo.history c.answer_reader.new.silo.history is _ _ _ _ (answers_all _ c.in-Ok.ensures.keeps _ _ _ _ _ _ _ _ c.in-Ok-answer_reader.ensures.answered))
    c.answer_reader.ensures.failures c.keep_journal-kept.ensures.kept

pub returns-in-Ok-answer_reader-clause-fault : goal.returns-in-Ok-answer_reader-clause-fault
returns-in-Ok-answer_reader-clause-fault g c =
    let start = starting (version_of g.L.GrainLogic.logic c.args.start.kinds) c.args.start.tenants c.args.start.age c.args.start.ages in
    let is = opens _ c.in-Ok.silo.history c.in-Ok.ensures.setup c.in-Ok.ensures.opening c.in-Ok.ensures.failures in
    not_kept_so
    g.F.WholeFiles.may_hold g.F.WholeFiles.may_fail g.F.WholeFiles.may_leave start c.args.sends c.args.files.now c.keep_journal-first.new.files
    c.keep_journal-kept.new.files c.silo.result.now c.answer_reader.new.silo.history c.silo-in-Ok-answer_reader.result.now
    (c.silo.ensures ∙ is) c.silo-in-Ok-answer_reader.ensures _ _ _ _ _ _ _ c.keep_journal-kept.result
    (kept_unless _ c.keep_journal-first.result c.in_default-first.not-Err c.keep_journal-first.ensures.kept)
    (to_end start c.args.sends c.in-Ok.silo.history c.answer_reader.new.silo.history is _ _ _ _ (answers_all _ c.in-Ok.ensures.keeps _ _ _ _ _ _ _ _ c.in-Ok-answer_reader.ensures.answered))
    c.answer_reader.ensures.failures c.keep_journal-kept.ensures.fault

pub returns-in-Ok-answer_reader-clause-journal : goal.returns-in-Ok-answer_reader-clause-journal
returns-in-Ok-answer_reader-clause-journal g c =
    let start = starting (version_of g.L.GrainLogic.logic c.args.start.kinds) c.args.start.tenants c.args.start.age c.args.start.ages in
    let is = opens _ c.in-Ok.silo.history c.in-Ok.ensures.setup c.in-Ok.ensures.opening c.in-Ok.ensures.failures in
    both_written
    g.F.WholeFiles.may_hold g.F.WholeFiles.may_fail g.F.WholeFiles.may_leave start c.args.sends c.args.files.now c.keep_journal-first.new.files
    c.keep_journal-kept.new.files c.silo.result.now c.answer_reader.new.silo.history (c.silo.ensures ∙ is)
    c.silo-in-Ok-answer_reader.result.now c.silo-in-Ok-answer_reader.ensures _ _
    (kept_unless _ c.keep_journal-first.result c.in_default-first.not-Err c.keep_journal-first.ensures.kept)
    c.keep_journal-first.ensures.alone c.keep_journal-kept.ensures.alone
    (led_to_end start c.args.sends _ _ _ _ _ (to_end start c.args.sends c.in-Ok.silo.history c.answer_reader.new.silo.history is _ _ _ _ (answers_all _ c.in-Ok.ensures.keeps _ _ _ _ _ _ _ _ c.in-Ok-answer_reader.ensures.answered)))

-- or up to a fault
pub returns-in-Err-answer_reader-clause-fault : goal.returns-in-Err-answer_reader-clause-fault
returns-in-Err-answer_reader-clause-fault g c =
    let start = starting (version_of g.L.GrainLogic.logic c.args.start.kinds) c.args.start.tenants c.args.start.age c.args.start.ages in
    let is = opens _ c.in-Ok.silo.history c.in-Ok.ensures.setup c.in-Ok.ensures.opening c.in-Ok.ensures.failures in
    written_after
    g.F.WholeFiles.may_hold g.F.WholeFiles.may_fail g.F.WholeFiles.may_leave start c.args.sends c.args.files.now c.keep_journal-first.new.files
    c.keep_after-cause.new.files c.silo.result.now c.answer_reader.new.silo.history c.silo-in-Err-answer_reader.result.now
    (c.silo.ensures ∙ is) c.silo-in-Err-answer_reader.ensures _ _ _ _ _ _ _ c.in-Err-answer_reader.why c.keep_after-cause.result
    (kept_unless _ c.keep_journal-first.result c.in_default-first.not-Err c.keep_journal-first.ensures.kept)
    (up_to start c.args.sends c.in-Ok.silo.history c.answer_reader.new.silo.history is _ _ _ _ c.in-Err-answer_reader.why
    c.answer_reader.new.input.lines c.answer_reader.new.output.calls (stops_all _ c.in-Ok.ensures.keeps _ _ _ _ _ _ _ _ _ c.in-Err-answer_reader.why _ c.in-Err-answer_reader.ensures.stopped))
    c.answer_reader.ensures.failures c.keep_after-cause.ensures.ends

pub returns-in-Err-answer_reader-clause-journal : goal.returns-in-Err-answer_reader-clause-journal
returns-in-Err-answer_reader-clause-journal g c =
    let start = starting (version_of g.L.GrainLogic.logic c.args.start.kinds) c.args.start.tenants c.args.start.age c.args.start.ages in
    let is = opens _ c.in-Ok.silo.history c.in-Ok.ensures.setup c.in-Ok.ensures.opening c.in-Ok.ensures.failures in
    stopped_files
    g.F.WholeFiles.may_hold g.F.WholeFiles.may_fail g.F.WholeFiles.may_leave start c.args.sends c.args.files.now c.keep_journal-first.new.files
    c.keep_after-cause.new.files c.silo.result.now c.answer_reader.new.silo.history (c.silo.ensures ∙ is)
    c.silo-in-Err-answer_reader.result.now c.silo-in-Err-answer_reader.ensures _ _ _ c.answer_reader.new.input.lines _ _
    c.answer_reader.new.output.calls c.in-Err-answer_reader.why
    (kept_unless _ c.keep_journal-first.result c.in_default-first.not-Err c.keep_journal-first.ensures.kept)
    c.keep_journal-first.ensures.alone c.keep_after-cause.ensures.alone c.keep_after-cause.ensures.unwritten
    (up_to start c.args.sends c.in-Ok.silo.history c.answer_reader.new.silo.history is _ _ _ _ c.in-Err-answer_reader.why
    c.answer_reader.new.input.lines c.answer_reader.new.output.calls (stops_all _ c.in-Ok.ensures.keeps _ _ _ _ _ _ _ _ _ c.in-Err-answer_reader.why _ c.in-Err-answer_reader.ensures.stopped))
