use Rattle.journal_text.proofs.Common.{◌≡◌, ◌++◌, map, drop, string_bytes, written, lines_text, row_line}
use Rattle.journal_text.proofs.journal_writer.push_rows.Given as goal

abbrev pub invariant-rows : goal.invariant-rows
invariant-rows l = string_bytes l.text ++ lines_text written (map row_line (drop l.grain-index l.rows)) ≡ string_bytes l.initial.text ++ lines_text written (map row_line l.rows)
