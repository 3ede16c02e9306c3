use Rattle.journal_text.proofs.Common.{◌≡◌, ◌++◌, map, drop, string_bytes, recorded_of, written, lines_text}
use Rattle.journal_text.specs.declared.line.Line.TheVariants as line
use Rattle.journal_text.proofs.journal_writer.push_replies.Given as goal

abbrev pub invariant-replies : goal.invariant-replies
invariant-replies l = string_bytes l.text ++ lines_text written (map line.Reply (map recorded_of (drop l.reply-index l.replies))) ≡ string_bytes l.initial.text ++ lines_text written (map line.Reply (map recorded_of l.replies))
