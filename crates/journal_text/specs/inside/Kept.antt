-- What the types of a journal's parts keep of its rules, where numbers are in their range.
use Rattle.std.specs.Prelude.{ℕ, ◌≤◌, List, IsTrue}
use Rattle.grain_id.specs.Names.{Grain}
use Rattle.grain_id.specs.Words.{is_word}
use Rattle.grain_storage.specs.declared.row.Row.{Row}
use Rattle.silo_event.specs.declared.reply.Reply.{Reply}
use Rattle.silo_event.specs.declared.step.Step.{Step}
use Rattle.journal_text.specs.Form.{written}
use Rattle.journal_text.specs.RecordedReply.{recorded_of}
use Rattle.journal_text.specs.Rules.{HasNumbers, IsLine, IsStep, ToNumber}
use Rattle.journal_text.specs.Text.{row_line}
use Rattle.journal_text.specs.declared.line.Line.TheVariants as line

-- a kind or a tenant, and what is said of it
abbrev pub HasWord : {X : Type 0} → List ℕ × X → Type 0
HasWord entry = IsTrue (is_word entry.0)

abbrev pub KeepsStep : Step → Type 0
KeepsStep s = HasNumbers s → IsStep written s

abbrev pub KeepsReply : Reply → Type 0
KeepsReply reply = ToNumber reply.recipient → IsLine written (line.Reply (recorded_of reply))

abbrev pub KeepsRow : Grain × Row → Type 0
KeepsRow row = 1 ≤ row.1.version → IsLine written (row_line row)
