-- What is written for lines, and the steps that they say. It is told once, of whatever takes steps and keeps replies: the
-- whole of all tenants, or the machine of one.
use Rattle.std.specs.Prelude.{ℕ, Bool, true, List, [], ◌∷◌, ◌++◌, length, drop, map, filter, Option, Some, None, if◌then◌else◌}
use Rattle.silo_event.specs.Failed.{marked_step}
use Rattle.silo_event.specs.declared.reply.Reply.{Reply}
use Rattle.silo_event.specs.declared.step.Answer.{Answer}
use Rattle.silo_event.specs.declared.step.Step.{Step}
use Rattle.grain_logic.specs.Logic.{Logic}
use Rattle.silo_model.specs.Machine.{Machine}
use Rattle.silo_model.specs.Step.{machine_step}
use Rattle.silo_model.specs.Whole.{Whole, whole_step}
use Rattle.silo_model.specs.Run.{run_by, concerns}
use Rattle.line_parser.specs.Meaning.{meaning_of}
use Rattle.line_text.specs.Text.{line_of, refusal_line, not_now_line}
use Rattle.line_parser.specs.declared.line.Line.{Line}
use Rattle.line_parser.specs.declared.line.Line.TheVariants as line

-- what takes steps: the replies that it holds, and what it is after a step, if the step is possible
pub record Stepper (M : Type 0) : Type 0 where
  pub replies : M → List Reply
  pub step : M → Step → Option M

abbrev pub whole_stepper : Logic → Stepper Whole
whole_stepper logic = record { replies = λ w. w.replies; step = whole_step logic }

abbrev pub machine_stepper : Logic → Stepper Machine
machine_stepper logic = record { replies = λ m. m.replies; step = machine_step logic }

-- ---- what lines say

abbrev pub said_lines : List (List ℕ) → List Line
said_lines lines = map meaning_of lines

-- the step that is said, or none
abbrev pub step_said : Line → List Step
step_said line.Nothing = []
step_said (line.Refusal r) = []
step_said (line.Step s) = s ∷ []

-- the steps that are said, in order
abbrev pub steps_said : List Line → List Step
steps_said [] = []
steps_said (said ∷ saids) = step_said said ++ steps_said saids

-- What is said, as it was taken, by the answers to its steps: a step whose storage call failed is marked so.
abbrev pub as_taken : List Line → List Answer → List Line
as_taken [] given = []
as_taken (line.Nothing ∷ saids) given = line.Nothing ∷ as_taken saids given
as_taken (line.Refusal r ∷ saids) given = line.Refusal r ∷ as_taken saids given
as_taken (line.Step s ∷ saids) [] = []
as_taken (line.Step s ∷ saids) (a ∷ given) = line.Step (marked_step s a) ∷ as_taken saids given

-- ---- texts

-- with LF
abbrev pub ended : List ℕ → List ℕ
ended text = text ++ 10 ∷ []

-- each reply's line, with LF
abbrev pub texts_of : List Reply → List ℕ
texts_of [] = []
texts_of (r ∷ rs) = ended (line_of r) ++ texts_of rs

-- the replies that a step added, or the text of a step that isn't possible
abbrev pub step_text : {M : Type 0} → (M → List Reply) → M → Option M → List ℕ
step_text replies m None = ended not_now_line
step_text replies m (Some after) = texts_of (drop (length (replies m)) (replies after))

-- what is written for a line
abbrev pub line_text : {M : Type 0} → Stepper M → M → Line → List ℕ
line_text by m line.Nothing = []
line_text by m (line.Refusal r) = ended (refusal_line r)
line_text by m (line.Step s) = step_text by.replies m (by.step m s)

-- what is written for each line, by what the lines say, one after another
abbrev pub line_texts : {M : Type 0} → Stepper M → M → List Line → List (List ℕ)
line_texts by m [] = []
line_texts by m (said ∷ saids) = line_text by m said ∷ line_texts by (run_by by.step m (step_said said)) saids

abbrev pub joined : List (List ℕ) → List ℕ
joined [] = []
joined (text ∷ texts) = text ++ joined texts

-- what is written for all of them
abbrev pub lines_text : {M : Type 0} → Stepper M → M → List Line → List ℕ
lines_text by m saids = joined (line_texts by m saids)

-- ---- the lines of one tenant

-- the line's step is the tenant's or nobody's; a line that says no step is nobody's
abbrev pub line_concerns : List ℕ → Line → Bool
line_concerns tenant line.Nothing = true
line_concerns tenant (line.Refusal r) = true
line_concerns tenant (line.Step s) = concerns tenant s

-- the lines that concern the tenant, in order: the others are struck out
abbrev pub lines_to : List ℕ → List Line → List Line
lines_to tenant saids = filter (line_concerns tenant) saids

-- of the texts of lines, those of the lines that concern the tenant
abbrev pub texts_to : List ℕ → List Line → List (List ℕ) → List (List ℕ)
texts_to tenant [] texts = []
texts_to tenant (said ∷ saids) [] = []
texts_to tenant (said ∷ saids) (text ∷ texts) =
    if line_concerns tenant said then text ∷ texts_to tenant saids texts else texts_to tenant saids texts
