-- Laws of a silo that starts again and again from its log.
use Rattle.std.specs.Prelude.{◌≡◌, ℕ, Bool, List, ◌++◌}
use Rattle.grain_logic.specs.Logic.{Logic}
use Rattle.silo_event.specs.declared.reply.Reply.{Reply}
use Rattle.silo_model.specs.Segments.{told_before, untold}
use Rattle.silo_model.specs.Whole.{Whole, shown_to}
use Rattle.silo_core.specs.History.{History}
use Rattle.answer_model.specs.Apart.{asked_by}
use Rattle.line_answer.specs.Texts.{asks_of}
use Rattle.log_text.specs.Lines.{HasNoBreak, IsPrefixOf}
use Rattle.log_host.specs.declared.place.LogPlace.{LogPlace}
use Rattle.log_host.specs.Lasting.{Grows, lines_in}
use Rattle.log_host.specs.Laws.{AllTold, AreLives, Life, left_by, restarted}
use Rattle.log_answer.specs.Answers.{HasLeft, heard_of, led, silo_log, told_for}
use Rattle.log_answer.specs.Runs.{GoesOn}
use Rattle.log_answer.specs.Starts.{AgainOn, AnswersAgain, IsOwn, MarksTell, StopsAgain}
use Rattle.log_answer.specs.declared.starting.Again.{Again}
use Rattle.log_answer.specs.declared.starting.AgainFault.{AgainFault}
use Rattle.log_answer.specs.declared.starting.AgainFault.TheVariants as fault

-- What a silo tells for some lines is the beginning of what it tells for them and for more.
abbrev pub SilosGrow : Type 0
SilosGrow = (logic : Logic) (n : ℕ) (w : Whole) → Grows (told_for logic n w)

-- A start that answered a log again, whatever a crash left of it, goes on: what it keeps of the log is settled, and the silo is where its
-- lines lead, whether it keeps its history or drops it.
abbrev pub StartsGoOn : Type 0
StartsGoOn = (keeps : Bool) (logic : Logic) (n : ℕ) (place : LogPlace) (left : List ℕ) (old new : History) (again : Again)
    → HasNoBreak place.name → AgainOn keeps logic n place left old new again
    → GoesOn logic n old.whole place.sum again.place (restarted (silo_log logic n old.whole place.name place.sum) left) new.whole

-- The marks of what such a start keeps say the sums of what is told, up to the place where it goes on.
abbrev pub StartsTell : Type 0
StartsTell = (logic : Logic) (n : ℕ) (place : LogPlace) (left : List ℕ) (old new : History) (again : Again)
    → HasNoBreak place.name → AnswersAgain logic n place left old new again
    → MarksTell logic n old.whole place.name place.sum place.told
    (restarted (silo_log logic n old.whole place.name place.sum) left).file again.place.told

-- A start takes each log whose marks say the sums of what is told, wherever it was cut, unless memory is refused.
abbrev pub OwnTaken : Type 0
OwnTaken = (logic : Logic) (n : ℕ) (w : Whole) (place : LogPlace) (left : List ℕ) (why : AgainFault)
    → HasNoBreak place.name → IsOwn logic n w place.name place.sum place.told left → StopsAgain logic n place left w why
    → why ≡ fault.Memory

-- However often a process ends and starts again: all that any of its lives told is the beginning of what the log answers that is left in
-- the end, and the lines that a life began with are the first of those.
abbrev pub SilosLast : Type 0
SilosLast = (logic : Logic) (n : ℕ) (w : Whole) (name : List ℕ) (first : ℕ) (left : List ℕ) (lives : List Life)
    → HasNoBreak name → AreLives (silo_log logic n w name first) left lives
    → AllTold (silo_log logic n w name first) left lives (left_by left lives)
    × IsPrefixOf (lines_in (silo_log logic n w name first) left) (lines_in (silo_log logic n w name first) (left_by left lives))

-- Where lines lead, and then more, is where all of them lead: a start that answers a log again is where the life before it was.
abbrev pub LinesLeadOn : Type 0
LinesLeadOn = (logic : Logic) (n : ℕ) (w : Whole) (lines more : List (List ℕ))
    → led logic n w (lines ++ more) ≡ led logic n (led logic n w lines) more

-- Nothing that lines lead to, or that is told for them, depends on the replies that were made before.
abbrev pub TellsAsEver : Type 0
TellsAsEver = (logic : Logic) (n : ℕ) (w : Whole) (replies : List Reply) (lines : List (List ℕ))
    → (led logic n (told_before replies w) lines ≡ told_before replies (led logic n w lines))
    × (told_for logic n (told_before replies w) lines ≡ told_for logic n w lines)

-- What is left of a history is all of it, but for its steps and its replies.
abbrev pub LeftIsAll : Type 0
LeftIsAll = (keeps : Bool) (all new : History) → HasLeft keeps all new → untold new.whole ≡ untold all.whole

-- Two logs whose lines ask the same for a tenant show it the same, whatever the lines of others are: in the histories to which they lead,
-- and in what is left of them but for its replies.
abbrev pub LogsApart : Type 0
LogsApart = (keeps holds : Bool) (logic : Logic) (n : ℕ) (place other : LogPlace) (left right : List ℕ) (tenant : List ℕ)
    (old new before after : History) (again there : Again)
    → (here : AgainOn keeps logic n place left old new again) → (beside : AgainOn holds logic n other right before after there)
    → shown_to tenant old.whole ≡ shown_to tenant before.whole
    → asked_by tenant (asks_of (heard_of (lines_in (silo_log logic n old.whole place.name place.sum) left)))
    ≡ asked_by tenant (asks_of (heard_of (lines_in (silo_log logic n before.whole other.name other.sum) right)))
    → (shown_to tenant here.all.whole ≡ shown_to tenant beside.all.whole)
    × (shown_to tenant (untold new.whole) ≡ shown_to tenant (untold after.whole))
