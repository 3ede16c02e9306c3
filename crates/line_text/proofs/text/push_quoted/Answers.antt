use Rattle.std.proofs.Common.{◌≡◌, true, string_bytes, sym, ap, ◌∙◌}
use Rattle.std.specs.List.{list_all}
use Rattle.line_text.specs.inside.Standing.{stands}
use Rattle.line_text.proofs.Plain.{as_is_after}
use Rattle.line_text.proofs.text.push_quoted.Goals as goal

pub returns : goal.returns
returns c =
    let is : list_all stands c.args.part.now ≡ true = ap (list_all stands) (sym c.as_bytes.ensures.value) ∙ sym c.all_stand.ensures ∙ c.if-not-all_stand.false in
    as_is_after c.push_str-3.result c.args.part.now (string_bytes c.args.text.now) (string_bytes c.push_str.new.self) (string_bytes c.push_str-2.new.self) _ is c.in_ok-push_str.ensures.bytes c.in_ok-push_str-2.ensures.bytes c.push_str-3.ensures.bytes
