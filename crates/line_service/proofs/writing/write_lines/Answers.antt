use Rattle.std.proofs.Common.{Err, [], ◌∷◌, refl, ap, ◌∙◌}
use Rattle.std.specs.Prelude.{map as map_list}
use Rattle.std.proofs.lemmas.Result.{err_from_is_err_and}
use Rattle.line_text.proofs.ReadLines.{handed_on}
use Rattle.line_service.proofs.Written.{written_none, goes_on, breaks_off, one_line, stops_line}
use Rattle.line_service.proofs.writing.write_lines.Goals as goal

pub lines-init : goal.lines-init
lines-init g c = (([], refl, written_none (g.W.Write.contents c.args.output.now.writer)), refl)

pub lines-preserved : goal.lines-preserved
lines-preserved g c =
    let so_far = c.lines.invariant.0 in
    let next = ap (map_list g.T.OneLine.line) c.in-Some.ensures.cases.0 in (
      goes_on _ _ _ _ _ _ (g.T.OneLine.line c.in-Some.one.now ∷ []) _ so_far.1 next so_far.2 (one_line _ _ _ c.in_ok-write_line.ensures.written),
      c.in_ok-write_line.ensures.unfailed ∙ c.lines.invariant.1,
    )

pub returns-in_err-write_line-clause-stopped : goal.returns-in_err-write_line-clause-stopped
returns-in_err-write_line-clause-stopped g c =
    let p = err_from_is_err_and c.from_residual.result c.from_residual.ensures.1 in
    let so_far = c.lines.invariant.0 in
    let next = ap (map_list g.T.OneLine.line) c.in-Some.ensures.cases.0 in
    handed_on _ _ _ (p.1 ∙ ap Err p.2) (breaks_off _ _ _ _ _ _ (g.T.OneLine.line c.in-Some.one.now ∷ []) _ so_far.1 next so_far.2 _ (stops_line _ _ _ _ c.in_err-write_line.ensures.stopped))
