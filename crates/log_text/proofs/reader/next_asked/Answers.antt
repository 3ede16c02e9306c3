use Rattle.std.proofs.Common.{◌∙◌, ◌∷◌, length, drop, ap, sym, arith}
use Rattle.std.proofs.lemmas.List.{length-append}
use Rattle.log_text.specs.Lines.{whole_lines}
use Rattle.log_text.specs.Reading.{asked_lines}
use Rattle.std.specs.Prelude.{map}
use Rattle.log_text.proofs.CutBytes.{all_behind}
use Rattle.log_text.proofs.Lines.{no_line, one_line}
use Rattle.log_text.proofs.reader.next_asked.Goals as goal

pub returns-in_default : goal.returns-in_default
returns-in_default c = ap (map (λ line. drop 1 line)) (no_line c.args.asked.now c.in_default.ensures)

pub returns-in-len1-up : goal.returns-in-len1-up
returns-in-len1-up c =
    let cut = c.in-Some.ensures in
    let line = c.in-Some.line.now in
    let rest = c.in-Some.rest.now in
    let lines = ap whole_lines cut.1 ∙ one_line line rest cut.0 in (
      ap (map (λ line. drop 1 line)) lines ∙ ap (λ l. l ∷ asked_lines rest) (sym (all_behind 1 line)),
      omega (arith, ap length cut.1, length-append line (10 ∷ rest)),
    )
