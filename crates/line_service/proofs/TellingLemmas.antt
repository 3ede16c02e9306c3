-- Which lines made no step, line by line.
use Rattle.line_parser.specs.declared.line.Line.{Line}
use Rattle.std.proofs.Common.{List, [], ap, append-nil, append_assoc, arith, get_or, length, suc, sym, take, ℕ, ◌++◌, ◌+◌, ◌<◌, ◌∙◌, ◌∷◌}
use Rattle.std.proofs.Common.{◌≡◌}
use Rattle.line_service.specs.Reasons.{reason_line, reason_of, reasons_behind}
use Rattle.std.proofs.lemmas.List.{length-take, take_more}

-- one line more
reasons_next : (number : ℕ) (done : List Line) (l : Line) → reasons_behind number (done ++ l ∷ []) ≡ reasons_behind number done ++ reason_line (suc (number + length done)) (reason_of l)
reasons_next number [] l =
    let same : number ≡ number + 0 = omega arith in
    append-nil (reason_line (suc number) (reason_of l)) ∙ ap (λ n. reason_line (suc n) (reason_of l)) same
reasons_next number (first ∷ done) l =
    let same : suc number + length done ≡ number + suc (length done) = omega arith in
    ap (λ t. reason_line (suc number) (reason_of first) ++ t) (reasons_next (suc number) done l ∙ ap (λ n. reasons_behind (suc number) done ++ reason_line (suc n) (reason_of l)) same)
    ∙ sym (append_assoc (reason_line (suc number) (reason_of first)) (reasons_behind (suc number) done) (reason_line (suc (number + suc (length done))) (reason_of l)))

-- of the lines that stand before a place, and the line there
pub reasons_taken : (lines : List Line) (at : ℕ) (l : Line) → at < length lines → l ≡ get_or lines at l → reasons_behind 0 (take (at + 1) lines) ≡ reasons_behind 0 (take at lines) ++ reason_line (at + 1) (reason_of l)
reasons_taken lines at l within is =
    let taken = length-take at lines in
    let number : suc (0 + length (take at lines)) ≡ at + 1 = omega (arith, taken, within) in
    ap (reasons_behind 0) (take_more lines at l within ∙ ap (λ x. take at lines ++ x ∷ []) (sym is))
    ∙ reasons_next 0 (take at lines) l
    ∙ ap (λ n. reasons_behind 0 (take at lines) ++ reason_line n (reason_of l)) number
