-- The lines of an input so far, and what they say.
use Rattle.std.proofs.Common.{◌≡◌, ◌≢◌, ◌<◌, ℕ, List, [], ◌∷◌, ◌++◌, Option, Some, None, length, ap, sym, ◌∙◌, inl, arith, length-append}
use Rattle.std.specs.Prelude.{IfSome, map as map_list}
use Rattle.std.specs.Io.KnownBytes.{Keeps, IsAtEnd}
use Rattle.std.proofs.lemmas.List.{map-append, length-map}
use Rattle.line_parser.specs.declared.line.Line.{Line}
use Rattle.line_parser.specs.Meaning.{meaning_of}
use Rattle.line_text.specs.declared.fault.LineFault.TheVariants as fault
use Rattle.line_text.specs.Limits.{lines_limit}
use Rattle.line_text.specs.Lines.{lines_of}
use Rattle.line_text.specs.Reading.{Reading, IsFresh, LinesTaken, TakesLine, left_of}
use Rattle.line_text.specs.Gathered.{ReadsAll, StopsGathering}
use Rattle.line_text.proofs.LinesOfBytes.{LinesTaken-trans, LinesTaken-kept, LinesTaken-self, length_some}
use Rattle.line_text.proofs.TakenLines.{TakesLine-lines}
use Rattle.line_text.proofs.ReadLines.{all_taken_here, lines_ahead}

pub record Gathered (from left : Option (List ℕ)) (all : List Line) : Type 0 where
  pub done : List (List ℕ)
  pub taken : LinesTaken from left done
  pub said : all ≡ map_list meaning_of done

pub gathered_none : (from : Option (List ℕ)) (all : List Line) → all ≡ [] → Gathered from from all
gathered_none from all none = record { done = []; taken = LinesTaken-self from; said = none }

module _ (from left next : Option (List ℕ)) (all : List Line) (p : Gathered from left all) where
  -- one line more
  pub gathered_more : (l : List ℕ) (said : Line) (more : List Line) → TakesLine left next l → said ≡ meaning_of l → more ≡ all ++ said ∷ [] → Gathered from next more
  gathered_more l said more took is grown = record {
    done = p.done ++ l ∷ [];
    taken = LinesTaken-trans from left next p.done (l ∷ []) p.taken (TakesLine-lines left next l took);
    said = grown ∙ (λ i. p.said i ++ is i ∷ []) ∙ sym (map-append meaning_of p.done (l ∷ []));
  }

  pub gathered_kept : Keeps left next → Gathered from next all
  gathered_kept h = record { done = p.done; taken = LinesTaken-kept from left next p.done p.taken h; said = p.said }

-- all of the input
pub gathered_all : (from : Option (List ℕ)) (reading : Reading) (rest : Option (List ℕ)) (all : List Line) → IsFresh reading → IsAtEnd rest
    → Gathered from (left_of reading rest) all → IfSome from (λ input. ReadsAll input all rest)
gathered_all None reading rest all none end p = tt
gathered_all (Some input) reading rest all none end p =
    let whole = all_taken_here input reading rest p.done none end p.taken in
    record { read = whole.0; said = p.said ∙ ap (map_list meaning_of) (sym whole.1) }

-- more lines than an input may have
pub gathered_full : (from : Option (List ℕ)) (reading : Reading) (rest : Option (List ℕ)) (all : List Line) → length all ≡ lines_limit → reading.ahead ≢ []
    → Gathered from (left_of reading rest) all → StopsGathering fault.TooMuch from reading.calls
gathered_full None reading rest all full some p = inl tt
gathered_full (Some input) reading None all full some p = absurd p.taken
gathered_full (Some input) reading (Some bytes) all full some p =
    let more = lines_of (reading.ahead ++ bytes) in
    let rest_some : 0 < length more = length_some more (lines_ahead reading bytes some) in
    let counted : length all ≡ length p.done = ap length p.said ∙ length-map p.done meaning_of in
    inl (omega (arith, full, counted, rest_some, ap length p.taken, length-append p.done more))
