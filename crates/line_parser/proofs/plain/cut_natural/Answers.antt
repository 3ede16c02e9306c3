use Rattle.std.proofs.Common.{◌≡◌, ◌∷◌, ◌<◌, ◌^◌, Some, length, length-take, take, drop, true, sym, ap, ◌∙◌, arith}
use Rattle.std.specs.Str.Parse.{digits_value}
use Rattle.json.specs.Token.{number}
use Rattle.json.specs.Word.{head}
use Rattle.json.specs.Lex.{token, between, lex}
use Rattle.serde_json.specs.Data.{unsigned}
use Rattle.line_parser.specs.inside.Plain.{is_number_end}
use Rattle.line_parser.proofs.PlainLexemes.{number_lexed}
use Rattle.line_parser.proofs.PlainNaturals.{number_of-digits, few_digits, digits_end}
use Rattle.line_parser.proofs.plain.cut_natural.Goals as goal

pub returns : goal.returns
returns c =
    let d = c.args.rest.now in
    let found = c.leading_digits-n.ensures in
    let k = c.leading_digits-n.result.1 in
    let long : length (take k d) ≡ k = omega (arith, length-take k d, found.bound) in
    let ends : is_number_end (head (drop k d)) ≡ true = ap is_number_end (sym c.byte_at.ensures.value) ∙ sym c.ends_number.ensures ∙ c.if-not-ends_number.false in
    let few : digits_value 10 (take k d) < 10 ^ 18 = few_digits (take k d) found.digits (omega (arith, long, found.bound)) in
    record {
      digits = take k d;
      lexed = number_lexed d k (digits_end d k found.digits found.bound.0 ends) (c.are_of_number.ensures.some c.if-not-are_of_number.false) (c.are_of_number.ensures.zero c.if-not-are_of_number.false) ends ∙ sym (ap (λ r. token (number (take k d)) ∷ lex between r) c.range_from.ensures.value);
      read = number_of-digits (take k d) found.digits (omega (arith, long, c.are_of_number.ensures.some c.if-not-are_of_number.false)) (omega (arith, few)) ∙ ap (λ n. Some (unsigned n)) (sym found.value);
      fits = omega (arith, few, found.value);
    }
