use Rattle.std.proofs.Common.{◌∙◌, arith, refl, sym, true≢false}
use Rattle.command_parts.specs.Setups.{started, version_of}
use Rattle.data_command.specs.Data.{log_claims, log_view}
use Rattle.data_command.proofs.OnLogs.{answered, ends_answered, ends_cut, ends_has, ends_lasts, lasts_single, not_paused, replaced, starts_so, stops_by, stops_lasts, stops_unreplaced, unreplaced}
use Rattle.data_command.proofs.answering.answer_on.Goals as goal

pub returns-in-Err-clause-lasts : goal.returns-in-Err-clause-lasts
returns-in-Err-clause-lasts g c sync =
    lasts_single (started (version_of g.L.GrainLogic.logic c.args.task.now.kinds) c.args.silo.now.history.setup) c.args.task.now.sends
    (log_claims g.F.LogHost.begun g.F.LogHost.acts g.F.LogHost.past g.F.LogHost.failed c.args.files.now c.start_log.new.files) c.in-Err.ensures.lasts

pub logs-init : goal.logs-init
logs-init g c =
    let view = log_view g.F.LogHost.begun g.F.LogHost.acts g.F.LogHost.past g.F.LogHost.failed in (
      starts_so c.args.silo.now.keeps (version_of g.L.GrainLogic.logic c.args.task.now.kinds) c.args.silo.now.history.setup c.args.task.now.sends c.args.task.now.sync
          (view c.args.files.now) (view c.start_log.new.files) (view c.set_sync.new.self) (g.R.Read.remaining c.args.input.now.reader) (g.W.Write.contents c.args.output.now.writer)
          c.in-Ok.lines c.in-Ok.ensures.fresh c.start_log.new.silo.history c.in-Ok-start_log.begun c.in-Ok-start_log.ensures.started c.set_sync.ensures.synced c.set_sync.ensures.past,
      c.in-Ok-start_log.ensures.ready,
      c.start_log.ensures.keeps,
      c.start_log.ensures.task,
      refl,
      refl,
      (λ none. none),
      omega arith,
      (λ e. absurd (true≢false (sym e))),
    )

pub logs-preserved : goal.logs-preserved
logs-preserved g c =
    let view = log_view g.F.LogHost.begun g.F.LogHost.acts g.F.LogHost.past g.F.LogHost.failed in
    let inv = c.logs.invariant in
    let at = replaced view c.args.task.now c.logs.begun inv.0 c.requires.words inv.3 c.requires.drops c.replace_log.ensures.dropped c.replace_log.ensures.tables c.in-Ok-replace_log.ensures.next in (
      answered at _ inv.4 _ (c.replace_log.ensures.keeps ∙ inv.2) _ _ _ _ _ (view c.answer_logged.new.log) c.in-Ok-answer_logged.ensures.ran
          c.answer_logged.ensures.begun c.answer_logged.ensures.past c.in-Ok-answer_logged.ensures.tables,
      c.in-Ok-answer_logged.ensures.ready,
      c.answer_logged.ensures.keeps ∙ c.replace_log.ensures.keeps ∙ inv.2,
      inv.3,
      inv.4,
      c.in-Ok-answer_logged.ensures.output ∙ inv.5,
      (λ none. c.in-Ok-answer_logged.ensures.out (inv.6 none)),
      c.in-Ok-answer_logged.ensures.bound,
      (λ e. c.in-Ok-answer_logged.ensures.ended (not_paused c.in-Ok-answer_logged.ran.paused e)),
    )

-- ---- no checkpoint came in the place of the log

pub returns-in-Err-replace_log-clause-fault : goal.returns-in-Err-replace_log-clause-fault
returns-in-Err-replace_log-clause-fault g c =
    let view = log_view g.F.LogHost.begun g.F.LogHost.acts g.F.LogHost.past g.F.LogHost.failed in
    stops_unreplaced c.logs.invariant.0 (view c.replace_log.new.files) (g.R.Read.remaining c.logs.input.reader) c.logs.input.lines c.in-Err-replace_log.why c.in-Err-replace_log.ensures.fault

pub returns-in-Err-replace_log-clause-lasts : goal.returns-in-Err-replace_log-clause-lasts
returns-in-Err-replace_log-clause-lasts g c synced =
    let view = log_view g.F.LogHost.begun g.F.LogHost.acts g.F.LogHost.past g.F.LogHost.failed in
    unreplaced view c.args.task.now c.logs.begun c.logs.invariant.0 c.requires.words c.logs.invariant.3 synced c.replace_log.ensures.stands

-- ---- the end of the input

pub returns-then-ended-clause-answered : goal.returns-then-ended-clause-answered
returns-then-ended-clause-answered g c =
    let view = log_view g.F.LogHost.begun g.F.LogHost.acts g.F.LogHost.past g.F.LogHost.failed in
    let inv = c.logs.invariant in
    let at = replaced view c.args.task.now c.logs.begun inv.0 c.requires.words inv.3 c.requires.drops c.replace_log.ensures.dropped c.replace_log.ensures.tables c.in-Ok-replace_log.ensures.next in
    let end = inv.8 c.if-ended.true in
    ends_answered at c.logs.input.lines (g.R.Read.remaining c.logs.input.reader) end.0 end.1 refl

pub returns-then-ended-clause-has : goal.returns-then-ended-clause-has
returns-then-ended-clause-has g c synced =
    let view = log_view g.F.LogHost.begun g.F.LogHost.acts g.F.LogHost.past g.F.LogHost.failed in
    let inv = c.logs.invariant in
    let at = replaced view c.args.task.now c.logs.begun inv.0 c.requires.words inv.3 c.requires.drops c.replace_log.ensures.dropped c.replace_log.ensures.tables c.in-Ok-replace_log.ensures.next in
    let end = inv.8 c.if-ended.true in
    ends_has at c.logs.input.lines (g.R.Read.remaining c.logs.input.reader) end.0 end.1 refl synced

pub returns-then-ended-clause-cut : goal.returns-then-ended-clause-cut
returns-then-ended-clause-cut g c synced =
    let view = log_view g.F.LogHost.begun g.F.LogHost.acts g.F.LogHost.past g.F.LogHost.failed in
    let inv = c.logs.invariant in
    ends_cut (replaced view c.args.task.now c.logs.begun inv.0 c.requires.words inv.3 c.requires.drops c.replace_log.ensures.dropped c.replace_log.ensures.tables c.in-Ok-replace_log.ensures.next) synced

pub returns-then-ended-clause-lasts : goal.returns-then-ended-clause-lasts
returns-then-ended-clause-lasts g c synced =
    let view = log_view g.F.LogHost.begun g.F.LogHost.acts g.F.LogHost.past g.F.LogHost.failed in
    let inv = c.logs.invariant in
    ends_lasts (replaced view c.args.task.now c.logs.begun inv.0 c.requires.words inv.3 c.requires.drops c.replace_log.ensures.dropped c.replace_log.ensures.tables c.in-Ok-replace_log.ensures.next) synced

-- ---- it stops while lines are answered

pub returns-in-Err-answer_logged-clause-fault : goal.returns-in-Err-answer_logged-clause-fault
returns-in-Err-answer_logged-clause-fault g c =
    let view = log_view g.F.LogHost.begun g.F.LogHost.acts g.F.LogHost.past g.F.LogHost.failed in
    let inv = c.logs.invariant in
    let at = replaced view c.args.task.now c.logs.begun inv.0 c.requires.words inv.3 c.requires.drops c.replace_log.ensures.dropped c.replace_log.ensures.tables c.in-Ok-replace_log.ensures.next in
    stops_by at _ inv.4 (view c.answer_logged.new.log) (g.R.Read.remaining c.answer_logged.new.input.reader) (g.W.Write.contents c.answer_logged.new.output.writer) c.answer_logged.new.input.lines
    c.in-Err-answer_logged.why c.running_cause.result c.running_cause.ensures c.in-Err-answer_logged.ensures.stops

pub returns-in-Err-answer_logged-clause-lasts : goal.returns-in-Err-answer_logged-clause-lasts
returns-in-Err-answer_logged-clause-lasts g c synced =
    let view = log_view g.F.LogHost.begun g.F.LogHost.acts g.F.LogHost.past g.F.LogHost.failed in
    let inv = c.logs.invariant in
    let at = replaced view c.args.task.now c.logs.begun inv.0 c.requires.words inv.3 c.requires.drops c.replace_log.ensures.dropped c.replace_log.ensures.tables c.in-Ok-replace_log.ensures.next in
    stops_lasts at synced _ inv.4 (view c.answer_logged.new.log) c.answer_logged.ensures.begun c.answer_logged.ensures.past c.answer_logged.ensures.lasts
