use Rattle.std.proofs.Common.{subst}
use Rattle.json.specs.Lex.{tokens}
use Rattle.line_parser.specs.inside.LineMembers.{IsNatural}
use Rattle.line_parser.specs.inside.Step.{form_text}
use Rattle.line_parser.proofs.ShortMembers.{five_first}
use Rattle.line_parser.proofs.short_line.short_line.Goals as goal

pub returns-then-ends_line : goal.returns-then-ends_line
returns-then-ends_line c =
    let op = rw c.in-Some-Op-default.field-0-0-is at c.in-Some-Op-default.ensures in
    let grain = rw c.in-Some-Grain-default.field-0-0-is at c.in-Some-Grain-default.ensures in
    record {
      behind = tokens c.in_ok-grain.rest.now;
      begins = five_first (form_text c.in_ok-form.form) c.in_ok-grain.grain.now _ _ _ _ _ _ c.in_ok-begun.ensures op c.in_ok-form.ensures grain c.in_ok-grain.ensures;
      ends = c.ends_line.ensures c.if-ends_line.true;
    }

pub returns : goal.returns
returns c =
    let op = rw c.in-Some-Op-default.field-0-0-is at c.in-Some-Op-default.ensures in
    let grain = rw c.in-Some-Grain-default.field-0-0-is at c.in-Some-Grain-default.ensures in
    let number = tokens c.in-Some-Turn-default.number.now in
    record {
      behind = tokens c.in_ok-grain.rest.now;
      begins = five_first (form_text c.in_ok-form.form) c.in_ok-grain.grain.now _ _ _ _ _ _ c.in_ok-begun.ensures op c.in_ok-form.ensures grain c.in_ok-grain.ensures;
      ends = (
        number,
        rw c.in-Some-Turn-default.field-0-0-is at c.in-Some-Turn-default.ensures,
        subst (λ ts. IsNatural number c.in_ok-turn.turn ts) (c.ends_line-2.ensures c.if-not-ends_line.false) c.in_ok-turn.ensures,
      );
    }
