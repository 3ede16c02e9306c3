use Rattle.std.proofs.Common.{ℕ, Err, [], ◌∷◌, ◌++◌, length, ap, subst, ◌∙◌, arith}
use Rattle.std.specs.Int.{w32, to_be_bytes}
use Rattle.std.specs.Prelude.{unwrap_or}
use Rattle.std.proofs.lemmas.Result.{err_from_is_err_and}
use Rattle.std.proofs.lemmas.List.{length-append}
use Rattle.request_codec.specs.Hex.{bytes_of_digits}
use Rattle.request_codec.specs.Written.{Puts}
use Rattle.request_codec.proofs.Digits.{digits_spelled}
use Rattle.request_codec.proofs.Puts.{Puts-then, Puts-front}
use Rattle.request_codec.proofs.bytes.hexadecimal.put_digits.Goals as goal

pub returns-in_err-count : goal.returns-in_err-count
returns-in_err-count c =
    let p = err_from_is_err_and c.from_residual.result c.from_residual.ensures.1 in
    let bytes = unwrap_or (bytes_of_digits c.args.digits.now) [] in
    rw (digits_spelled c.args.digits.now c.requires.hex, p.1, p.2, c.in_err-count.ensures.0) (omega (arith, c.in_err-count.ensures.1, c.bytes_in.ensures, length-append (7 ∷ to_be_bytes w32 (length bytes)) bytes))

pub returns-in_err-put_counted : goal.returns-in_err-put_counted
returns-in_err-put_counted c =
    let q = c.from_residual-in_err-put_counted in
    let p = err_from_is_err_and q.result q.ensures.1 in
    let bytes = unwrap_or (bytes_of_digits c.args.digits.now) [] in
    let old = c.args.out.now.items in
    let new = c.put_counted.new.out.items in
    let e = c.in_err-put_counted.field-0.0 in
    let put = subst (λ (n : ℕ). Puts c.args.limit old new (Err e) (7 ∷ to_be_bytes w32 n)) (c.in_ok-count.ensures ∙ c.bytes_in.ensures) c.in_err-put_counted.ensures in
    rw (digits_spelled c.args.digits.now c.requires.hex, p.1, p.2) (Puts-front c.args.limit old new new (7 ∷ to_be_bytes w32 (length bytes)) bytes e put)

pub returns : goal.returns
returns c =
    let bytes = unwrap_or (bytes_of_digits c.args.digits.now) [] in
    let old = c.args.out.now.items in
    let put = c.in_ok-put_counted.ensures.0 ∙ ap (λ (n : ℕ). old ++ 7 ∷ to_be_bytes w32 n) (c.in_ok-count.ensures ∙ c.bytes_in.ensures) in
    rw (digits_spelled c.args.digits.now c.requires.hex) (Puts-then c.args.limit old (7 ∷ to_be_bytes w32 (length bytes)) c.put_counted.new.out.items c.put_decoded.new.out.items bytes c.put_decoded.result put c.put_decoded.ensures)
