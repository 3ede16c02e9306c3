-- A loop that reads a list, at its end or at what doesn't fit.
use Rattle.std.proofs.Common.{◌≡◌, ℕ, suc, List, [], ◌∷◌, ◌++◌, Option, Some, Err, ap, subst, sym, ◌∙◌}
use Rattle.std.specs.Prelude.{IsErrAnd, Result, map}
use Rattle.std.proofs.lemmas.Result.{err_from_is_err_and}
use Rattle.std.proofs.lemmas.List.{map-append}
use Rattle.journal_text.specs.declared.fault.LineFault.{LineFault}
use Rattle.journal_text.specs.declared.fault.LineFault.TheVariants as faults
use Rattle.journal_text.specs.inside.Answers.{Misses, Reads}
use Rattle.checkpoint_text.specs.inside.Reading.{times}
use Rattle.checkpoint_text.proofs.Times.{Goes, goes_more, goes_out, onto}

module _ {A : Type 0} (read : List ℕ → Option (A × List ℕ)) where
  -- if one of the list isn't read, nothing is
  pub loop_fails : (count left more : ℕ) (bytes rest : List ℕ) (xs : List A) (why : LineFault)
      → left ≡ suc more → Goes read count bytes xs left rest → Misses why (read rest) → Misses why (times read count bytes)
  loop_fails count left more bytes rest xs faults.NoForm next goes none = goes_out read count left more bytes rest xs next none goes
  loop_fails count left more bytes rest xs faults.Memory next goes none = tt

  -- one more was read, and added
  pub loop_goes : {Y : Type 0} (seen : Y → A) (count left more : ℕ) (bytes rest behind : List ℕ) (ys zs : List Y) (y : Y)
      → left ≡ suc more → Goes read count bytes (map seen ys) left rest → read rest ≡ Some (seen y, behind) → zs ≡ ys ++ y ∷ [] → Goes read count bytes (map seen zs) more behind
  loop_goes seen count left more bytes rest behind ys zs y next goes is added =
      ap (λ l. onto l (times read more behind)) (ap (map seen) added ∙ map-append seen ys (y ∷ []))
      ∙ goes_more read count left more bytes rest behind (map seen ys) (seen y) next is goes

-- a fault that is handed on
pub handed : {X A : Type 0} (all : X → A) (r : Result X LineFault) (found : Option A) (e : LineFault) → IsErrAnd r (λ y. y ≡ e) → Misses e found → Reads all r found
handed all r found e is h =
    let p = err_from_is_err_and r is in
    subst (λ x. Reads all x found) (sym (p.1 ∙ ap Err p.2)) h
