-- Laws of lines that are answered at once: a tenant can't tell from what it is shown whether anybody else asks, and each client is
-- answered first.
use Rattle.std.specs.Prelude.{◌≡◌, ℕ, true, List, [], ◌++◌, Some, Result, map}
use Rattle.request_codec.specs.Tree.{Tree}
use Rattle.grain_id.specs.Names.{Client}
use Rattle.silo_event.specs.Asker.{asking_of}
use Rattle.silo_event.specs.declared.fault.Fault.{Fault}
use Rattle.silo_event.specs.declared.reply.Party.TheVariants as party
use Rattle.silo_event.specs.declared.reply.Reply.{Reply}
use Rattle.silo_event.specs.declared.step.Step.{Step}
use Rattle.grain_logic.specs.Logic.{Logic}
use Rattle.silo_model.specs.Calls.{told}
use Rattle.silo_model.specs.Journal.{LeadsTo}
use Rattle.silo_model.specs.Whole.{shown_to}
use Rattle.silo_core.specs.History.{History}
use Rattle.line_parser.specs.declared.line.Line.{Line}
use Rattle.line_parser.specs.declared.line.Line.TheVariants as line
use Rattle.line_text.specs.LineTexts.{said_lines, texts_of}
use Rattle.answer_model.specs.Answering.{Luck, is_asked, machine_stepper, whole_stepper, all_answered}
use Rattle.answer_model.specs.Apart.{asked_by}
use Rattle.answer_model.specs.Certain.{AllWell}
use Rattle.answer_model.specs.Idle.{AllIdle, AllToGrains}
use Rattle.line_answer.specs.Texts.{Heard, asks_of, line_text, lines_text}
use Rattle.line_answer.specs.Runs.{AnswersLines}

-- the lines, with good luck
abbrev pub heard_well : List Line → List Heard
heard_well saids = map (λ said. record { said = said; lucks = [] }) saids

-- Two silos that show a tenant the same answered lines. If what the tenant and nobody asked by them is the same, with the same luck, then
-- they show the tenant the same again.
abbrev pub LinesApart : Type 0
LinesApart = (logic : Logic) (n : ℕ) (tenant : List ℕ) (lines others : List (List ℕ)) (old new before after : History) (text other : List ℕ)
    → (here : AnswersLines logic n old lines new text) → (there : AnswersLines logic n before others after other)
    → shown_to tenant old.whole ≡ shown_to tenant before.whole
    → asked_by tenant (asks_of here.heard) ≡ asked_by tenant (asks_of there.heard)
    → shown_to tenant new.whole ≡ shown_to tenant after.whole

-- From where a journal leads and where all is idle lines were answered, and the journal shows that all went well: the storage never
-- failed, and no turn was given up.
pub record AnswersWell (logic : Logic) (n : ℕ) (old : History) (lines : List (List ℕ)) (new : History) (text : List ℕ) : Type 0 where
  pub leads : LeadsTo logic old.setup old.journal old.whole
  pub idle : AllIdle old.whole.entries
  pub answers : AnswersLines logic n old lines new text
  pub well : AllWell new.journal

-- Then all is a function of the lines: what is written, of what the silo had; and what a tenant is shown, of what it was shown and of
-- what the tenant and nobody asked.
abbrev pub LinesCertain : Type 0
LinesCertain = (logic : Logic) (n : ℕ) (lines : List (List ℕ)) (old new : History) (text : List ℕ)
    → AnswersWell logic n old lines new text
    → (text ≡ lines_text (whole_stepper logic) n old.whole (heard_well (said_lines lines)))
    × ((tenant : List ℕ) → shown_to tenant new.whole
    ≡ all_answered (machine_stepper logic) n (shown_to tenant old.whole) (asked_by tenant (asks_of (heard_well (said_lines lines)))))

-- Two silos that show a tenant the same answered lines, and all went well. If what the tenant and nobody ask by them is the same, then
-- they show the tenant the same again, whatever the others ask.
abbrev pub LinesAlone : Type 0
LinesAlone = (logic : Logic) (n : ℕ) (tenant : List ℕ) (lines others : List (List ℕ)) (old new before after : History) (text other : List ℕ)
    → AnswersWell logic n old lines new text → AnswersWell logic n before others after other
    → shown_to tenant old.whole ≡ shown_to tenant before.whole
    → asked_by tenant (asks_of (heard_well (said_lines lines))) ≡ asked_by tenant (asks_of (heard_well (said_lines others)))
    → shown_to tenant new.whole ≡ shown_to tenant after.whole

-- What is written for a client's line: the line of one reply to it under its number, and behind it lines of replies to grains.
abbrev pub ClientsFirst : Type 0
ClientsFirst = (logic : Logic) (n : ℕ) (h : History) (s : Step) (lucks : List Luck) (client : Client) (id : ℕ)
    → LeadsTo logic h.setup h.journal h.whole → AllIdle h.whole.entries → is_asked s ≡ true → asking_of s ≡ Some (client, id)
    → (outcome : Result Tree Fault) × (others : List Reply) × AllToGrains others
    × (line_text (whole_stepper logic) n h.whole (line.Step s) lucks ≡ texts_of (told (party.Client client id) outcome ++ others))
