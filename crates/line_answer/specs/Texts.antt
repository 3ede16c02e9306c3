-- What is written for lines that are answered at once. It is told once, of the whole of all tenants and of the machine of one.
use Rattle.std.specs.Prelude.{ℕ, Bool, true, false, List, [], ◌∷◌, ◌++◌, length, drop, filter, Option, Some, None}
use Rattle.silo_event.specs.declared.step.Step.{Step}
use Rattle.line_parser.specs.declared.line.Line.{Line}
use Rattle.line_parser.specs.declared.line.Line.TheVariants as line
use Rattle.line_parser.specs.declared.line.LineRefusal.TheVariants.{NotARequest}
use Rattle.line_text.specs.LineTexts.{ended, joined, line_concerns, texts_of}
use Rattle.line_text.specs.Text.{refusal_line, not_now_line}
use Rattle.answer_model.specs.Answering.{Luck, Stepper, Asked, taken, is_asked, answering, answered, all_answered}

-- ---- what lines ask

-- a line, and the luck of the requests that came of it
pub record Heard : Type 0 where
  pub said : Line
  pub lucks : List Luck

-- what is asked, if it is asked at all
abbrev pub asked_if : Bool → Step → List Luck → List Asked
asked_if true s lucks = record { step = s; lucks = lucks } ∷ []
asked_if false s lucks = []

-- what the line asks: a step that is no client's to ask is no request
abbrev pub asks_by : Line → List Luck → List Asked
asks_by line.Nothing lucks = []
asks_by (line.Refusal r) lucks = []
asks_by (line.Step s) lucks = asked_if (is_asked s) s lucks

-- what the lines ask, in order
abbrev pub asks_of : List Heard → List Asked
asks_of [] = []
asks_of (h ∷ heard) = asks_by h.said h.lucks ++ asks_of heard

-- ---- what is done and written for them

-- the text that a possible step brings, or that it isn't possible
abbrev pub text_if : {M : Type 0} → Option M → List ℕ → List ℕ
text_if None text = ended not_now_line
text_if (Some m) text = text

module _ {M : Type 0} (by : Stepper M) (n : ℕ) where
  -- the steps that are tried for all that is asked
  abbrev pub all_steps : M → List Asked → List Step
  all_steps m [] = []
  all_steps m (asked ∷ others) = answering by n m asked ++ all_steps (answered by n m asked) others

  -- the replies that answering added
  abbrev pub asked_text : M → Asked → List ℕ
  asked_text m asked = text_if (by.step m (taken asked)) (texts_of (drop (length (by.replies m)) (by.replies (answered by n m asked))))

  abbrev pub step_text : Bool → M → Step → List Luck → List ℕ
  step_text true m s lucks = asked_text m (record { step = s; lucks = lucks })
  step_text false m s lucks = ended (refusal_line NotARequest)

  -- what is written for a line
  abbrev pub line_text : M → Line → List Luck → List ℕ
  line_text m line.Nothing lucks = []
  line_text m (line.Refusal r) lucks = ended (refusal_line r)
  line_text m (line.Step s) lucks = step_text (is_asked s) m s lucks

  -- what is written for each line, one after another
  abbrev pub line_texts : M → List Heard → List (List ℕ)
  line_texts m [] = []
  line_texts m (h ∷ heard) = line_text m h.said h.lucks ∷ line_texts (all_answered by n m (asks_by h.said h.lucks)) heard

  -- and for all of them
  abbrev pub lines_text : M → List Heard → List ℕ
  lines_text m heard = joined (line_texts m heard)

-- ---- the lines of one tenant

-- the lines that concern the tenant, in order, each with its luck: the others are struck out
abbrev pub heard_to : List ℕ → List Heard → List Heard
heard_to tenant heard = filter (λ h. line_concerns tenant h.said) heard
