use Rattle.std.proofs.Common.{◌∙◌, cond, ◌∷◌, ◌+◌, length, ap, sym, arith}
use Rattle.std.proofs.lemmas.List.{length-append}
use Rattle.log_text.specs.Lines.{whole_lines}
use Rattle.log_text.specs.Reading.{asked_first}
use Rattle.log_text.proofs.Lines.{no_line, one_line}
use Rattle.log_text.proofs.reader.count_asked.Goals as goal

pub returns-in_default : goal.returns-in_default
returns-in_default c = omega (arith, c.lines.invariant.counted, ap asked_first (no_line c.lines.rest.now c.in_default.ensures))

pub lines-preserved : goal.lines-preserved
lines-preserved c =
    let cut = c.in-Some.ensures in
    let line = c.in-Some.line.now in
    let behind = c.in-Some.behind.now in
    let lines = ap whole_lines cut.1 ∙ one_line line behind cut.0 in
    let one = ap asked_first lines ∙ ap (λ b. cond b (1 + asked_first (whole_lines behind)) 0) (sym c.is_asked.ensures ∙ c.if-is_asked.true) in
    record {
      counted = omega (arith, c.lines.invariant.counted, one);
      few = omega (arith, c.lines.invariant.few, ap length cut.1, length-append line (10 ∷ behind));
    }

pub returns-else-is_asked : goal.returns-else-is_asked
returns-else-is_asked c =
    let cut = c.in-Some.ensures in
    let line = c.in-Some.line.now in
    let behind = c.in-Some.behind.now in
    let lines = ap whole_lines cut.1 ∙ one_line line behind cut.0 in
    let none = ap asked_first lines ∙ ap (λ b. cond b (1 + asked_first (whole_lines behind)) 0) (sym c.is_asked.ensures ∙ c.if-is_asked.false) in
    omega (arith, c.lines.invariant.counted, none)
