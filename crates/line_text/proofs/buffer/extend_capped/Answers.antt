use Rattle.std.proofs.Common.{◌≡◌, ◌++◌, take, min, ◌-◌, length, ap, ◌∙◌, arith}
use Rattle.line_text.specs.Limits.{kept_limit}
use Rattle.line_text.proofs.Pieces.{capped}
use Rattle.line_text.proofs.buffer.extend_capped.Goals as goal

pub returns : goal.returns
returns c =
    let line = c.args.line.now in
    let front = c.args.front.now in
    let kept : c.min-kept.result ≡ min (length front) (kept_limit - length line.items) = omega (arith, line.ok.0) in
    c.in_ok-extend_from_slice.ensures.items ∙ ap (λ n. line.items ++ take n front) kept ∙ capped line.items front kept_limit (omega (arith, line.ok.0))
