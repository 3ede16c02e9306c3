use Rattle.journal_text.proofs.Common.{◌≡◌, ◌++◌, map, drop, string_bytes, written, lines_text}
use Rattle.journal_text.specs.declared.line.Line.TheVariants as line
use Rattle.journal_text.proofs.journal_writer.push_steps.Given as goal

abbrev pub invariant-steps : goal.invariant-steps
invariant-steps l = string_bytes l.text ++ lines_text written (map line.Step (drop l.step-index l.steps)) ≡ string_bytes l.initial.text ++ lines_text written (map line.Step l.steps)
