-- What lines say, and one line more.
use Rattle.std.proofs.Common.{◌≡◌, ℕ, List, [], ◌∷◌, ◌++◌, length, refl, sym, ap, ◌∙◌, append_assoc, append-nil}
use Rattle.silo_event.specs.Failed.{marked_step}
use Rattle.silo_event.specs.declared.step.Answer.{Answer}
use Rattle.silo_event.specs.declared.step.Step.{Step}
use Rattle.silo_model.specs.Run.{run_by, marked}
use Rattle.line_parser.specs.Meaning.{meaning_of}
use Rattle.line_text.specs.LineTexts.{Stepper, said_lines, step_said, steps_said, as_taken, line_text, lines_text}
use Rattle.line_parser.specs.declared.line.Line.{Line}
use Rattle.line_parser.specs.declared.line.Line.TheVariants as line

pub said_lines-more : (lines : List (List ℕ)) (l : List ℕ) → said_lines (lines ++ l ∷ []) ≡ said_lines lines ++ meaning_of l ∷ []
said_lines-more [] l = refl
said_lines-more (d ∷ lines) l = ap (λ saids. meaning_of d ∷ saids) (said_lines-more lines l)

pub steps_said-more : (saids : List Line) (said : Line) → steps_said (saids ++ said ∷ []) ≡ steps_said saids ++ step_said said
steps_said-more [] said = append-nil (step_said said)
steps_said-more (x ∷ saids) said = ap (λ steps. step_said x ++ steps) (steps_said-more saids said) ∙ sym (append_assoc (step_said x) (steps_said saids) (step_said said))

-- each step has its answer
abbrev pub EachAnswered : List Line → List Answer → Type 0
EachAnswered saids given = length given ≡ length (steps_said saids)

pub as_taken-append : (saids others : List Line) (given more : List Answer) → EachAnswered saids given → as_taken (saids ++ others) (given ++ more) ≡ as_taken saids given ++ as_taken others more
as_taken-append [] others [] more each = refl
as_taken-append [] others (a ∷ given) more each = absurd (cc (each))
as_taken-append (line.Nothing ∷ saids) others given more each = ap (λ (rest : List Line). line.Nothing ∷ rest) (as_taken-append saids others given more each)
as_taken-append (line.Refusal r ∷ saids) others given more each = ap (λ (rest : List Line). line.Refusal r ∷ rest) (as_taken-append saids others given more each)
as_taken-append (line.Step s ∷ saids) others [] more each = absurd (cc (each))
as_taken-append (line.Step s ∷ saids) others (a ∷ given) more each = ap (λ (rest : List Line). line.Step (marked_step s a) ∷ rest) (as_taken-append saids others given more (cc (each)))

-- the steps as they were taken
pub steps_said-taken : (saids : List Line) (given : List Answer) → EachAnswered saids given → steps_said (as_taken saids given) ≡ marked (steps_said saids) given
steps_said-taken [] given each = refl
steps_said-taken (line.Nothing ∷ saids) given each = steps_said-taken saids given each
steps_said-taken (line.Refusal r ∷ saids) given each = steps_said-taken saids given each
steps_said-taken (line.Step s ∷ saids) [] each = absurd (cc (each))
steps_said-taken (line.Step s ∷ saids) (a ∷ given) each = ap (λ (rest : List Step). marked_step s a ∷ rest) (steps_said-taken saids given (cc (each)))

pub lines_text-append : {M : Type 0} (by : Stepper M) (m : M) (saids others : List Line) → lines_text by m (saids ++ others) ≡ lines_text by m saids ++ lines_text by (run_by by.step m (steps_said saids)) others
lines_text-append by m [] others = refl
lines_text-append by m (line.Nothing ∷ saids) others = lines_text-append by m saids others
lines_text-append by m (line.Refusal r ∷ saids) others =
    let first = line_text by m (line.Refusal r) in
    ap (λ text. first ++ text) (lines_text-append by m saids others) ∙ sym (append_assoc first (lines_text by m saids) (lines_text by (run_by by.step m (steps_said saids)) others))
lines_text-append by m (line.Step s ∷ saids) others =
    let first = line_text by m (line.Step s) in
    let after = run_by by.step m (s ∷ []) in
    ap (λ text. first ++ text) (lines_text-append by after saids others) ∙ sym (append_assoc first (lines_text by after saids) (lines_text by (run_by by.step after (steps_said saids)) others))
