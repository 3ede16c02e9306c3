-- Where a run paused.
use Rattle.std.proofs.Common.{◌≡◌, ◌∙◌, ℕ, Bool, IfSome, List, [], ◌∷◌, ◌++◌, Option, None, Some, append_assoc, append-nil, ap, inl, inr, refl, sym, ⊎_elim}
use Rattle.grain_logic.specs.Logic.{Logic}
use Rattle.silo_core.specs.History.{History}
use Rattle.line_text.specs.Lines.{lines_of, whole_lines}
use Rattle.line_text.proofs.LinesOfBytes.{lines_of-break, whole_lines-break}
use Rattle.line_text.proofs.TakenLines.{HaveNoBreaks, ended_lines}
use Rattle.log_answer.specs.Answers.{HasLeft, LeadsOn, led, told_for}
use Rattle.log_answer.specs.Runs.{AnswersPart}
use Rattle.log_answer.proofs.Done.{Done}

lines_of-ended : (lines : List (List ℕ)) (rest : List ℕ) → HaveNoBreaks lines → lines_of (ended_lines lines ++ rest) ≡ lines ++ lines_of rest
lines_of-ended [] rest h = refl
lines_of-ended (l ∷ lines) rest h =
    ap lines_of (append_assoc l (10 ∷ ended_lines lines) rest) ∙ lines_of-break l (ended_lines lines ++ rest) h.0 ∙ ap (λ (others : List (List ℕ)). l ∷ others) (lines_of-ended lines rest h.1)

whole_lines-ended : (lines : List (List ℕ)) (rest : List ℕ) → HaveNoBreaks lines → whole_lines (ended_lines lines ++ rest) ≡ lines ++ whole_lines rest
whole_lines-ended [] rest h = refl
whole_lines-ended (l ∷ lines) rest h =
    ap whole_lines (append_assoc l (10 ∷ ended_lines lines) rest) ∙ whole_lines-break l (ended_lines lines ++ rest) h.0 ∙ ap (λ (others : List (List ℕ)). l ∷ others) (whole_lines-ended lines rest h.1)

module _ (keeps : Bool) (logic : Logic) (n count : ℕ) (old all new : History) (before after : Option (List ℕ)) (asked texts : List ℕ) (told : List (List ℕ)) (has : HasLeft keeps all new) where
  part_in : (input bytes : List ℕ) → Done logic n count (Some input) (Some bytes) old all before after asked texts told []
      → AnswersPart keeps logic n input told old new (Some bytes) before after
  part_in input bytes p =
      let lines : told ++ [] ≡ told = append-nil told in
      let leads : LeadsOn keeps logic n old told new (told_for logic n old.whole told) =
      record {
        all = all;
        left = has;
        leads = record { setup = p.setup; whole = p.whole ∙ ap (led logic n old.whole) lines; idle = p.idle; text_is = refl };
      } in
      ⊎_elim
      (λ whole. record {
        taken = ended_lines (told ++ []);
        rest = bytes;
        parts = whole.1;
        left_is = refl;
        are = inl (record {
          all = λ more. lines_of-ended (told ++ []) more whole.0 ∙ ap (λ (ls : List (List ℕ)). ls ++ lines_of more) lines;
          whole = λ more. whole_lines-ended (told ++ []) more whole.0 ∙ ap (λ (ls : List (List ℕ)). ls ++ whole_lines more) lines;
        });
        text = told_for logic n old.whole told;
        leads = leads;
        written = p.written;
      })
      (λ last. record {
        taken = input;
        rest = [];
        parts = sym (append-nil input);
        left_is = ap Some last.1;
        are = inr (sym lines ∙ sym last.0, refl);
        text = told_for logic n old.whole told;
        leads = leads;
        written = p.written;
      }) p.took

  pub answers_part : (from left : Option (List ℕ)) → Done logic n count from left old all before after asked texts told []
      → IfSome from (λ input. AnswersPart keeps logic n input told old new left before after)
  answers_part None left p = tt
  answers_part (Some input) None p = absurd p.taken
  answers_part (Some input) (Some bytes) p = part_in input bytes p
