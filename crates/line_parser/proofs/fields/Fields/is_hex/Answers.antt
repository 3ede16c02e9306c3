use Rattle.std.proofs.Common.{◌≡◌, length, option_map, sym, ap, ◌∙◌, arith}
use Rattle.line_parser.proofs.NoBytes.{several_no_bytes, unnamed_no_bytes, named_bytes}
use Rattle.line_parser.proofs.fields.Fields.is_hex.Goals as goal

pub returns-then-count-ne1 : goal.returns-then-count-ne1
returns-then-count-ne1 c placed h = several_no_bytes placed (λ one. omega (arith, c.if-count-ne1.true, c.count.ensures placed h, one))

pub returns-in_default : goal.returns-in_default
returns-in_default c placed h = unnamed_no_bytes placed (sym h.last_is ∙ ap (option_map (λ t. t.now)) c.in_default.is)

pub returns : goal.returns
returns c placed h =
    let one : length placed ≡ 1 = omega (arith, c.if-count-ne1.false, c.count.ensures placed h) in
    c.is_hex_name.ensures ∙ named_bytes placed c.in-Some.name.now one (sym h.last_is ∙ ap (option_map (λ t. t.now)) c.in-Some.is)
