-- The first batch of some bytes, as far as it is read.
use Rattle.std.proofs.Common.{◌≡◌, ◌==◌, ◌∙◌, Bool, true, false, true≢false, cond, List, [], ◌∷◌, ◌++◌, length, drop, map, append_assoc, refl, ap, sym, ℕ, None}
use Rattle.std.proofs.lemmas.Bool.{eqb-true}
use Rattle.std.proofs.lemmas.List.{append-nil}
use Rattle.std.proofs.lemmas.Grind.{flat_map-append}
use Rattle.log_text.specs.Lines.{ArePlain, HasNoBreak, ended, tag_of, whole_lines}
use Rattle.log_text.specs.Sums.{own_sums}
use Rattle.log_text.specs.Batches.{Batch, line_text, lines_text, mark_behind, mark_line, sum_behind, sum_of}
use Rattle.log_text.specs.Reading.{IsBehind, asked_lines, batches_in, closed, fits, next_of, recovered, told_in}
use Rattle.log_text.specs.Answers.{AllAsked, Closes, IsPart, SoFar}
use Rattle.log_text.proofs.Lines.{no_line, one_ended, one_line}
use Rattle.log_text.proofs.Marks.{told_sized}
use Rattle.log_text.proofs.Stands.{same_from_text}
use Rattle.log_text.proofs.Written.{lines_on, marked}

pub nothing_yet : (bytes : List ℕ) → SoFar bytes bytes
nothing_yet bytes = record { lines = []; plain = tt; text = refl }

-- the lines of a batch's bytes
pub asked_again : (lines : List (List ℕ)) → ArePlain lines → asked_lines (lines_text lines) ≡ lines
asked_again [] plain = refl
asked_again (line ∷ lines) plain =
    ap (map (λ l. drop 1 l)) (one_ended (43 ∷ line) (lines_text lines) (refl, plain.0)) ∙ ap (λ ls. line ∷ ls) (asked_again lines plain.1)

pub plain_push : (lines : List (List ℕ)) (line : List ℕ) → ArePlain lines → HasNoBreak line → ArePlain (lines ++ line ∷ [])
plain_push [] line are is = (is, tt)
plain_push (l ∷ lines) line are is = (are.0, plain_push lines line are.1 is)

asked_text : (line : List ℕ) → (tag_of line == 43) ≡ true → 43 ∷ drop 1 line ≡ line
asked_text [] is = absurd (true≢false (sym is))
asked_text (b ∷ line) is = ap (λ x. x ∷ line) (sym (eqb-true b 43 is))

pub plain_rest : (line : List ℕ) → HasNoBreak line → HasNoBreak (drop 1 line)
plain_rest [] is = is
plain_rest (b ∷ line) is = is.1

-- one line more
pub one_more : (bytes rest line behind : List ℕ) → SoFar bytes rest → HasNoBreak line → rest ≡ line ++ 10 ∷ behind → (tag_of line == 43) ≡ true → SoFar bytes behind
one_more bytes rest line behind so plain is asked =
    let more : List ℕ = line_text (drop 1 line) in
    record {
      lines = so.lines ++ drop 1 line ∷ [];
      plain = plain_push so.lines (drop 1 line) so.plain (plain_rest line plain);
      text =
          so.text
          ∙ ap (λ l. lines_text so.lines ++ l) (is ∙ sym (append_assoc line (10 ∷ []) behind) ∙ ap (λ l. ended l ++ behind) (sym (asked_text line asked)))
          ∙ sym (append_assoc (lines_text so.lines) more behind)
          ∙ ap (λ l. l ++ behind) (ap (λ l. lines_text so.lines ++ l) (sym (append-nil more)) ∙ sym (flat_map-append line_text so.lines (drop 1 line ∷ [])));
    }

module _ (name : List ℕ) (sum : ℕ) (bytes : List ℕ) where
  -- what is read of the bytes is read of what is left
  read_so_far : (lines : List (List ℕ)) (rest : List ℕ) → ArePlain lines → bytes ≡ lines_text lines ++ rest
      → recovered own_sums name sum bytes ≡ batches_in own_sums name sum lines (whole_lines rest)
  read_so_far lines rest plain is = ap (recovered own_sums name sum) is ∙ lines_on own_sums name lines sum [] rest plain

  pub ends_there : AllAsked bytes → recovered own_sums name sum bytes ≡ []
  ends_there all =
      read_so_far all.so.lines all.rest all.so.plain all.so.text ∙ ap (batches_in own_sums name sum all.so.lines) (no_line all.rest all.plain)

  no_mark : (lines others : List (List ℕ)) (line : List ℕ) (c d : Bool) → c ≡ false → d ≡ false
      → cond c (batches_in own_sums name sum (lines ++ drop 1 line ∷ []) others)
      (cond d (closed own_sums name lines line ∷ batches_in own_sums name (sum_of own_sums name sum (closed own_sums name lines line)) [] others) []) ≡ []
  no_mark lines others line true d p q = absurd (true≢false p)
  no_mark lines others line false true p q = absurd (true≢false q)
  no_mark lines others line false false p q = refl

  by_test : (b : Bool) → (b ≡ true → ⊥) → b ≡ false
  by_test true none = absurd (none refl)
  by_test false none = refl

  module _ (asked line behind : List ℕ) (part : IsPart bytes asked line behind) where
    at_line : recovered own_sums name sum bytes ≡ batches_in own_sums name sum part.lines (line ∷ whole_lines behind)
    at_line =
        read_so_far part.lines (line ++ 10 ∷ behind) part.are (part.bytes_are ∙ ap (λ l. l ++ (line ++ 10 ∷ behind)) part.text)
        ∙ ap (batches_in own_sums name sum part.lines) (one_line line behind part.plain)

    -- the line is neither asked nor a mark of those before it
    pub faulty_there : Closes name sum asked line None → recovered own_sums name sum bytes ≡ []
    faulty_there none =
        at_line
        ∙ no_mark part.lines (whole_lines behind) line (tag_of line == 43) (fits own_sums name sum part.lines line) part.other
        (by_test (fits own_sums name sum part.lines line) (λ fit.
        let same = same_from_text line (mark_line own_sums name sum (closed own_sums name part.lines line)) fit in
        none (told_in own_sums name (length (lines_text part.lines)) line) (told_sized own_sums name line sum part.lines same) (same ∙ ap (λ a. mark_behind own_sums name sum a (told_in own_sums name (length (lines_text part.lines)) line)) (sym part.text))))

    -- the line is their mark
    pub batch_there : (told : List ℕ) (next : ℕ)
        → (line ≡ mark_behind own_sums name sum asked told) × (length told ≡ 16) × (next ≡ sum_behind own_sums name sum asked told)
        → IsBehind own_sums name sum bytes (next_of asked told next behind)
    batch_there told next closes =
        let lines : part.lines ≡ asked_lines asked = sym (ap asked_lines part.text ∙ asked_again part.lines part.are) in
        let mine : lines_text (asked_lines asked) ≡ asked = ap lines_text (sym lines) ∙ sym part.text in
        let batch : Batch = record { lines = asked_lines asked; told = told } in
        let marks : line ≡ mark_line own_sums name sum batch = closes.0 ∙ ap (λ a. mark_behind own_sums name sum a told) (sym mine) in
        let same : next ≡ sum_of own_sums name sum batch = closes.2 ∙ ap (λ a. sum_behind own_sums name sum a told) (sym mine) in
        record {
          text =
              part.bytes_are
              ∙ ap (λ l. l ++ (line ++ 10 ∷ behind)) (sym mine)
              ∙ ap (λ l. lines_text batch.lines ++ l) (sym (append_assoc line (10 ∷ []) behind) ∙ ap (λ l. ended l ++ behind) marks)
              ∙ sym (append_assoc (lines_text batch.lines) (ended (mark_line own_sums name sum batch)) behind);
          next = same;
          read =
              at_line
              ∙ ap (λ ls. batches_in own_sums name sum ls (line ∷ whole_lines behind)) lines
              ∙ ap (λ l. batches_in own_sums name sum batch.lines (l ∷ whole_lines behind)) marks
              ∙ marked own_sums name sum batch (whole_lines behind) closes.1
              ∙ ap (λ n. batch ∷ recovered own_sums name n behind) (sym same);
        }
