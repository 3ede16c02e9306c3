-- A line that was read, and the end of an input.
use Rattle.std.proofs.Common.{◌≡◌, ◌≢◌, ℕ, suc, ◌<◌, ◌==◌, Bool, true, false, List, [], ◌∷◌, ◌++◌, length, take, cond, Option, Some, None, Result, Err, IfErr, refl, sym, ap, ap₂, ◌∙◌, subst, arith, append-nil, length-append, length-take, take_all, ⊎_elim}
use Rattle.std.specs.Prelude.{IsErrAnd}
use Rattle.std.proofs.lemmas.Bool.{cases_lt}
use Rattle.std.proofs.lemmas.Result.{err_from_is_err_and}
use Rattle.std.specs.Io.KnownBytes.{IsAtEnd}
use Rattle.line_parser.specs.Meaning.{line_limit, meaning_of}
use Rattle.line_parser.proofs.Meaning.{said_under, meaning_of-under, long_under}
use Rattle.line_text.specs.Limits.{kept_limit}
use Rattle.line_text.specs.Lines.{lines_of, onto}
use Rattle.line_text.specs.Reading.{Reading, IsFresh, left_of, LinesTaken, TakesCut}
use Rattle.line_text.proofs.LinesOfBytes.{length_some}

-- ---- a line that was cut says what the whole line says

said_cut_under : (limit : ℕ) (l : List ℕ) → said_under limit (take (suc limit) l) ≡ said_under limit l
said_cut_under limit [] = refl
said_cut_under limit (b ∷ bytes) =
    ⊎_elim (λ h. ap (λ t. said_under limit (b ∷ t)) (take_all limit bytes (omega arith)))
    (λ h. long_under limit (b ∷ take limit bytes) (omega (arith, length-take limit bytes)) ∙ sym (long_under limit (b ∷ bytes) (omega arith))) (cases_lt (length bytes) limit)

said_cut_at : (limit cut : ℕ) (l : List ℕ) → cut ≡ suc limit → said_under limit (take cut l) ≡ said_under limit l
said_cut_at limit cut l e = ap (λ n. said_under limit (take n l)) e ∙ said_cut_under limit l

pub said_cut : (l : List ℕ) → meaning_of (take kept_limit l) ≡ meaning_of l
said_cut l = meaning_of-under (take kept_limit l) ∙ said_cut_at line_limit kept_limit l refl ∙ sym (meaning_of-under l)

-- a line of which something was cut off says what the whole line says
pub same_said : (found shown : List ℕ) (old new : Option (List ℕ)) → found ≡ shown → (w : TakesCut old new shown) → meaning_of found ≡ meaning_of w.line
same_said found shown old new e w = ap meaning_of e ∙ sym (said_cut shown) ∙ ap meaning_of w.cut ∙ said_cut w.line

-- ---- the end of the input

pub all_taken_here : (input : List ℕ) (reading : Reading) (rest : Option (List ℕ)) (done : List (List ℕ)) → IsFresh reading → IsAtEnd rest
    → LinesTaken (Some input) (left_of reading rest) done → (rest ≡ Some []) × (lines_of input ≡ done)
all_taken_here input reading None done none end h = absurd h
all_taken_here input reading (Some bytes) done none end h = (ap Some end, h ∙ ap (λ l. done ++ lines_of l) (ap₂ (λ a b. a ++ b) none end) ∙ append-nil done)

-- bytes that are there are some line
onto_some : (b : ℕ) (lines : List (List ℕ)) → onto b lines ≢ []
onto_some b [] h = absurd cc
onto_some b (l ∷ lines) h = absurd cc

first_some : (t : Bool) (b : ℕ) (lines : List (List ℕ)) → cond t ([] ∷ lines) (onto b lines) ≢ []
first_some true b lines h = absurd cc
first_some false b lines h = onto_some b lines h

lines_some : (bytes : List ℕ) → 0 < length bytes → lines_of bytes ≢ []
lines_some [] some h = absurd (omega arith)
lines_some (b ∷ bytes) some h = first_some (b == 10) b (lines_of bytes) h

-- bytes that are read ahead are some line
pub lines_ahead : (reading : Reading) (bytes : List ℕ) → reading.ahead ≢ [] → lines_of (reading.ahead ++ bytes) ≢ []
lines_ahead reading bytes some = lines_some (reading.ahead ++ bytes) (omega (arith, length_some reading.ahead some, length-append reading.ahead bytes))

-- what a `?` hands on
pub handed_on : {T E : Type 0} (r : Result T E) (P : E → Type 0) (e : E) → r ≡ Err e → P e → IfErr r P
handed_on r P e is h = subst (λ x. IfErr x P) (sym is) h

pub handed : {T E : Type 0} (r : Result T E) (P : E → Type 0) (e : E) → IsErrAnd r (λ y. y ≡ e) → P e → IfErr r P
handed r P e is h =
    let p = err_from_is_err_and r is in
    handed_on r P e (p.1 ∙ ap Err p.2) h
