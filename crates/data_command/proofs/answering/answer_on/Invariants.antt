use Rattle.std.proofs.Common.{◌≡◌, ◌≤◌, ◌+◌, ◌-◌, [], None, false, true}
use Rattle.std.specs.Io.KnownBytes.{IsAtEnd}
use Rattle.line_text.specs.Reading.{left_of}
use Rattle.line_answer.specs.Limits.{answered_limit}
use Rattle.command_parts.specs.Setups.{version_of}
use Rattle.data_command.specs.Data.{log_view}
use Rattle.data_command.proofs.OnLogs.{OnLogs, still}
use Rattle.data_command.proofs.answering.answer_on.Given as goal

abbrev pub invariant-logs : goal.invariant-logs
invariant-logs g l =
    let version = version_of g.L.GrainLogic.logic l.fn.task.kinds in
    let old = log_view g.F.LogHost.begun g.F.LogHost.acts g.F.LogHost.past g.F.LogHost.failed l.fn.files in
    let now = log_view g.F.LogHost.begun g.F.LogHost.acts g.F.LogHost.past g.F.LogHost.failed l.files in
    OnLogs l.fn.silo.keeps version l.fn.silo.history.setup l.fn.task.sends l.fn.task.sync old (g.R.Read.remaining l.fn.input.reader) (g.W.Write.contents l.fn.output.writer)
    (left_of l.input.lines (g.R.Read.remaining l.input.reader)) l.silo.history (g.W.Write.contents l.output.writer) l.count l.begun.number l.begun.place now
    × (l.silo.stopped ≡ false) × (l.silo.keeps ≡ l.fn.silo.keeps)
    × (l.task ≡ record l.fn.task { log = None }) × (l.sends ≡ l.fn.task.sends)
    × (l.output.calls.failed ≡ l.fn.output.calls.failed)
    × (l.fn.output.calls.held ≡ false → l.output.calls.held ≡ false)
    × (l.count ≤ answered_limit)
    × (l.ended ≡ true → (l.input.lines.ahead ≡ []) × IsAtEnd (g.R.Read.remaining l.input.reader))

abbrev pub decreases-logs : goal.decreases-logs
decreases-logs g l = (answered_limit - l.count) + still l.ended
