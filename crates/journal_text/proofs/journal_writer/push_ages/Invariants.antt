use Rattle.journal_text.proofs.Common.{◌≡◌, ◌++◌, map, drop, string_bytes, written, lines_text, kind_line}
use Rattle.journal_text.proofs.journal_writer.push_ages.Given as goal

abbrev pub invariant-ages : goal.invariant-ages
invariant-ages l = string_bytes l.text ++ lines_text written (map kind_line (drop l.kind-index l.ages)) ≡ string_bytes l.initial.text ++ lines_text written (map kind_line l.ages)
