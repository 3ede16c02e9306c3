-- What is read stands in the bytes.
use Rattle.std.proofs.Common.{◌≡◌, ◌==◌, ◌∙◌, Bool, true, false, true≢false, cond, List, [], ◌∷◌, ◌++◌, length, drop, append_assoc, refl, ap, sym, ℕ}
use Rattle.std.specs.Prelude.{flat_map}
use Rattle.std.proofs.lemmas.Bool.{eqb-true}
use Rattle.std.proofs.lemmas.List.{append-nil}
use Rattle.std.proofs.lemmas.Grind.{flat_map-append}
use Rattle.std.proofs.lemmas.Slice.Eq.{slice_eq-Decides}
use Rattle.std.proofs.lemmas.Bool.Decides.{Decides-eqb}
use Rattle.std.proofs.Math.Seq.{drop-append_seam}
use Rattle.log_text.specs.Lines.{IsPrefixOf, ended, onto_first, tag_of, whole_lines}
use Rattle.log_text.specs.Sums.{Sums}
use Rattle.log_text.specs.Batches.{batch_text, line_text, lines_text, log_text, mark_line, sum_of}
use Rattle.log_text.specs.Reading.{batches_in, closed, fits, recovered, same_text}
use Rattle.log_text.specs.Laws.{ReadStands}
use Rattle.log_text.proofs.Lines.{none_first}

-- the text of lines, each with its LF
abbrev all_ended : List (List ℕ) → List ℕ
all_ended lines = flat_map ended lines

onto_ended : (b : ℕ) (lines : List (List ℕ)) (bytes : List ℕ) → IsPrefixOf (all_ended lines) bytes → IsPrefixOf (all_ended (onto_first b lines)) (b ∷ bytes)
onto_ended b [] bytes p = none_first (b ∷ bytes)
onto_ended b (line ∷ lines) bytes p = (p.0, ap (λ l. b ∷ l) p.1)

either_ended : (b : ℕ) (c : Bool) → (b == 10) ≡ c → (lines : List (List ℕ)) (bytes : List ℕ) → IsPrefixOf (all_ended lines) bytes
    → IsPrefixOf (all_ended (cond c ([] ∷ lines) (onto_first b lines))) (b ∷ bytes)
either_ended b true is lines bytes p = (p.0, ap (λ l. 10 ∷ l) p.1 ∙ ap (λ x. x ∷ bytes) (sym (eqb-true b 10 is)))
either_ended b false is lines bytes p = onto_ended b lines bytes p

-- the whole lines stand first
pub lines_stand : (bytes : List ℕ) → IsPrefixOf (all_ended (whole_lines bytes)) bytes
lines_stand [] = none_first []
lines_stand (b ∷ bytes) = either_ended b (b == 10) refl (whole_lines bytes) bytes (lines_stand bytes)

tagged : (line : List ℕ) → (tag_of line == 43) ≡ true → line_text (drop 1 line) ≡ ended line
tagged [] is = absurd (true≢false (sym is))
tagged (b ∷ line) is = ap (λ x. x ∷ ended line) (sym (eqb-true b 43 is))

pub same_from_text : (xs ys : List ℕ) → same_text xs ys ≡ true → xs ≡ ys
same_from_text xs ys is = (slice_eq-Decides Decides-eqb xs ys (same_text xs ys) refl).0 is

-- one more line that was asked
more_lines : (pending : List (List ℕ)) (line : List ℕ) (lines : List (List ℕ)) → (tag_of line == 43) ≡ true
    → lines_text (pending ++ drop 1 line ∷ []) ++ all_ended lines ≡ lines_text pending ++ all_ended (line ∷ lines)
more_lines pending line lines is =
    ap (λ l. l ++ all_ended lines) (flat_map-append line_text pending (drop 1 line ∷ []) ∙ ap (λ l. lines_text pending ++ l) (append-nil (line_text (drop 1 line)) ∙ tagged line is))
    ∙ append_assoc (lines_text pending) (ended line) (all_ended lines)

module _ (sums : Sums) (name : List ℕ) where
  mark_stands : (sum : ℕ) (pending lines : List (List ℕ)) (line : List ℕ) (d : Bool) → fits sums name sum pending line ≡ d
      → IsPrefixOf (log_text sums name (sum_of sums name sum (closed sums name pending line)) (batches_in sums name (sum_of sums name sum (closed sums name pending line)) [] lines)) (all_ended lines)
      → IsPrefixOf (log_text sums name sum (cond d (closed sums name pending line ∷ batches_in sums name (sum_of sums name sum (closed sums name pending line)) [] lines) []))
      (lines_text pending ++ all_ended (line ∷ lines))
  mark_stands sum pending lines line false is p = none_first (lines_text pending ++ all_ended (line ∷ lines))
  mark_stands sum pending lines line true is p =
      let b = closed sums name pending line in
      let next = sum_of sums name sum b in
      let rest : List ℕ = log_text sums name next (batches_in sums name next [] lines) in
      let mark = mark_line sums name sum b in (
        p.0,
        append_assoc (batch_text sums name sum b) rest p.0
            ∙ ap (λ l. batch_text sums name sum b ++ l) p.1
            ∙ append_assoc (lines_text pending) (ended mark) (all_ended lines)
            ∙ ap (λ l. lines_text pending ++ (ended l ++ all_ended lines)) (sym (same_from_text line mark is)),
      )

  either_stands : (sum : ℕ) (pending lines : List (List ℕ)) (line : List ℕ) (c : Bool) → (tag_of line == 43) ≡ c
      → IsPrefixOf (log_text sums name sum (batches_in sums name sum (pending ++ drop 1 line ∷ []) lines)) (lines_text (pending ++ drop 1 line ∷ []) ++ all_ended lines)
      → IsPrefixOf (log_text sums name (sum_of sums name sum (closed sums name pending line)) (batches_in sums name (sum_of sums name sum (closed sums name pending line)) [] lines)) (all_ended lines)
      → IsPrefixOf (log_text sums name sum (cond c (batches_in sums name sum (pending ++ drop 1 line ∷ []) lines)
      (cond (fits sums name sum pending line) (closed sums name pending line ∷ batches_in sums name (sum_of sums name sum (closed sums name pending line)) [] lines) [])))
      (lines_text pending ++ all_ended (line ∷ lines))
  either_stands sum pending lines line true is p q = (p.0, p.1 ∙ more_lines pending line lines is)
  either_stands sum pending lines line false is p q = mark_stands sum pending lines line (fits sums name sum pending line) refl q

  pub batches_stand : (sum : ℕ) (pending lines : List (List ℕ)) → IsPrefixOf (log_text sums name sum (batches_in sums name sum pending lines)) (lines_text pending ++ all_ended lines)
  batches_stand sum pending [] = none_first (lines_text pending ++ [])
  batches_stand sum pending (line ∷ lines) =
      either_stands sum pending lines line (tag_of line == 43) refl
      (batches_stand sum (pending ++ drop 1 line ∷ []) lines)
      (batches_stand (sum_of sums name sum (closed sums name pending line)) [] lines)

-- what is left behind a first part
pub left_by : (first rest bytes : List ℕ) → first ++ rest ≡ bytes → drop (length first) bytes ≡ rest
left_by first rest bytes is = ap (drop (length first)) (sym is) ∙ drop-append_seam first rest

pub read_stands : ReadStands
read_stands sums name sum bytes =
    let lines = lines_stand bytes in
    let read = batches_stand sums name sum [] (whole_lines bytes) in
    let text : List ℕ = log_text sums name sum (recovered sums name sum bytes) in
    let whole : text ++ (read.0 ++ lines.0) ≡ bytes = sym (append_assoc text read.0 lines.0) ∙ ap (λ l. l ++ lines.0) read.1 ∙ lines.1 in
    ap (λ l. text ++ l) (left_by text (read.0 ++ lines.0) bytes whole) ∙ whole
