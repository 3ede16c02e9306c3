use Rattle.std.proofs.Common.{◌≡◌, pos, Some, drop, get_or, true, false, ◌==◌, w64, to_z, to_z-of_z, sym, ap, subst, ◌∙◌, arith, take_all, length-drop}
use Rattle.std.proofs.lemmas.Int.{to_z_pos}
use Rattle.fast_float.specs.Text.{scan}
use Rattle.serde_json.specs.Data.{unsigned}
use Rattle.serde_json.specs.Find.{of_integer}
use Rattle.serde_json.specs.Read.{number_of, number_from}
use Rattle.line_parser.specs.inside.Number.{IsWhole}
use Rattle.line_parser.proofs.number.whole_number_of_any.Goals as goal

pub returns-in_ok-number : goal.returns-in_ok-number
unfolding number_of
returns-in_ok-number c =
    let s = c.as_bytes-bytes.result.now in
    let signed : (get_or s 0 0 == 45) ≡ true = sym c.if-has_minus.ensures.value in
    let parts : c.scan.result ≡ scan (drop 1 s) = c.scan.ensures.parts ∙ ap scan (take_all _ (drop 1 s) (omega (arith, length-drop 1 s))) in
    let read : number_from true (scan (drop 1 s)) ≡ number_of s = rw signed in
    let n = c.in_ok-number.number in
    let text : number_of c.args.text.now ≡ Some (of_integer n) = ap number_of (sym c.as_bytes-bytes.ensures.value) ∙ sym read ∙ ap (number_from true) (sym parts) ∙ c.in_ok-number.ensures.read in
    let whole : IsWhole c.args.text.now n = record { read = text; fits = c.in_ok-number.ensures.fits } in
    subst (IsWhole c.args.text.now) (sym (to_z-of_z c.in_ok-number.ensures.fits)) whole

pub returns-then-number : goal.returns-then-number
unfolding number_of
returns-then-number c =
    let s = c.as_bytes-bytes.result.now in
    let no_sign : (get_or s 0 0 == 45) ≡ false = sym c.if-has_minus.ensures.value in
    let read : number_from false (scan s) ≡ number_of s = rw no_sign in
    let n = c.in_ok-number-2.number in
    let same : to_z w64 n ≡ pos n = to_z_pos w64 n (omega arith) in
    let text : number_of c.args.text.now ≡ Some (unsigned n) = ap number_of (sym c.as_bytes-bytes.ensures.value) ∙ sym read ∙ ap (number_from false) (sym c.scan-else-has_minus.ensures.parts) ∙ c.in_ok-number-2.ensures.read in
    let whole : IsWhole c.args.text.now (pos n) = record { read = text; fits = omega arith } in
    subst (IsWhole c.args.text.now) (sym same) whole
