-- How the steps of an input end, by what its lines answer over a storage that never fails.
use Rattle.std.proofs.KnownBytes.{Appends-kept, Appends-nil}
use Rattle.std.proofs.Common.{Err, IfErr, IfSome, List, None, Ok, Option, Result, Some, [], ap, append-nil, arith, refl, subst, sym, true}
use Rattle.std.proofs.Common.{ℕ, ⊎_elim, ◌++◌, ◌∙◌, ◌∷◌, ◌≡◌}
use Rattle.silo_core.specs.History.{History}
use Rattle.line_text.specs.Reading.{AreTakenButOne, IsFresh, Reading, left_of}
use Rattle.std.specs.Io.KnownBytes.{Keeps}
use Rattle.line_parser.specs.declared.line.Line.{Line}
use Rattle.line_text.specs.declared.fault.LineFault.{LineFault}
use Rattle.silo_model.specs.Opening.{opening}
use Rattle.line_text.specs.declared.written.WriterCalls.{WriterCalls}
use Rattle.line_text.proofs.LinesOfBytes.{left_of-fresh}
use Rattle.line_text.specs.Lines.{lines_of}
use Rattle.command_parts.specs.Setups.{Start}
use Rattle.std.specs.Prelude.{OnErr}
use Rattle.silo_event.specs.declared.step.Answer.{Answer}
use Rattle.silo_model.specs.Whole.{Whole, shown_to}
use Rattle.silo_model.specs.Machine.{Machine}
use Rattle.silo_model.proofs.Opening.{opening_shown}
use Rattle.silo_core.specs.Runs.{failed_in}
use Rattle.line_text.specs.LineTexts.{whole_stepper, machine_stepper, said_lines, steps_said, line_texts, lines_text, lines_to}
use Rattle.line_text.specs.LineTexts.{texts_to}
use Rattle.line_protocol.specs.LineRuns.{AnswersLines, AnswersNext, AnswersAll, StopsBefore, StopsAt, StopsAfter, StopsBy}
use Rattle.line_text.specs.declared.fault.LineFault.TheVariants as line
use Rattle.line_text.proofs.TakenLines.{Took-none, TakesPart-none, none_beyond}
use Rattle.line_protocol.proofs.Unfailed.{none_failed, none_failed_before, unmarked, own_unmarked}
use Rattle.line_commands.specs.Steps.{AnswersSteps, IsTextOf, StopsBetween, StopsFrom, StopsInside, StopsSteps}

-- ---- the text of lines

module _ (start : Start) (old : History) (opens : old.whole ≡ opening start.setup) where
  text_of_lines : (lines : List (List ℕ)) (given : List Answer) (new : History) (text : List ℕ) → AnswersLines start.version.logic old lines given new text → failed_in given ≡ 0 → IsTextOf start lines text
  text_of_lines lines given new text p zero =
      let saids = said_lines lines in
      let each = p.all.silo.each_answered in
      let same = unmarked saids given each zero in
      record {
        whole = p.all.text_is ∙ ap (lines_text (whole_stepper start.version.logic) old.whole) same ∙ ap (λ (w : Whole). lines_text (whole_stepper start.version.logic) w saids) opens;
        own = λ tenant.
            ap (λ (w : Whole). texts_to tenant saids (line_texts (whole_stepper start.version.logic) w saids)) (sym opens)
            ∙ ap (λ (taken : List Line). texts_to tenant saids (line_texts (whole_stepper start.version.logic) old.whole taken)) (sym same)
            ∙ (p.own tenant).texts
            ∙ ap (line_texts (machine_stepper start.version.logic) (shown_to tenant old.whole)) (own_unmarked tenant saids given each zero)
            ∙ ap (λ (m : Machine). line_texts (machine_stepper start.version.logic) m (lines_to tenant saids)) (ap (shown_to tenant) opens ∙ opening_shown start.setup tenant);
      }

  all_text : (n : ℕ) (new : History) (from left before after : Option (List ℕ)) → new.failures.now ≡ 0 → IfSome from (λ input. AnswersAll start.version.logic input n old new left before after)
      → IfSome from (λ input. AnswersSteps start input left before after)
  all_text n new None left before after zero h = tt
  all_text n new (Some input) left before after zero h = record {
    read = h.read;
    text = h.text;
    answers = text_of_lines (lines_of input) h.given new h.text h.answers (none_failed start.version.logic old new (steps_said (said_lines (lines_of input))) h.given h.answers.all.silo zero);
    written = h.written;
  }

  -- of an input of which nothing is read ahead
  pub steps_answered : (n : ℕ) (new : History) (fresh : Reading) (from left before after : Option (List ℕ)) → IsFresh fresh → new.failures.now ≡ 0 → IfSome (left_of fresh from) (λ input. AnswersAll start.version.logic input n old new left before after)
      → IfSome from (λ input. AnswersSteps start input left before after)
  steps_answered n new fresh from left before after none zero h =
      subst (λ (o : Option (List ℕ)). IfSome o (λ input. AnswersSteps start input left before after)) (left_of-fresh fresh from none) (all_text n new (left_of fresh from) left before after zero h)

  before_text : (input : List ℕ) (new : History) (before after : Option (List ℕ)) → new.failures.now ≡ 0 → StopsBefore start.version.logic (lines_of input) old new before after → StopsBetween start (lines_of input) before after
  before_text input new before after zero h = record {
    done = h.done;
    rest = h.rest;
    parts = h.parts;
    text = h.text;
    answers = text_of_lines h.done h.given new h.text h.answers (none_failed start.version.logic old new (steps_said (said_lines h.done)) h.given h.answers.all.silo zero);
    written = h.written;
  }

  next_unfailed : (done rest : List (List ℕ)) (given : List Answer) (new : History) (text : List ℕ) → new.failures.now ≡ 0 → AnswersNext start.version.logic old done rest given new text → failed_in given ≡ 0
  next_unfailed done [] given new text zero h = absurd h
  next_unfailed done (l ∷ rest) given new text zero h =
      none_failed_before given h.0 (none_failed start.version.logic old new (steps_said (said_lines (done ++ l ∷ []))) (given ++ h.0) h.2.all.silo zero)

  at_text : (input : List ℕ) (new : History) (before after : Option (List ℕ)) → new.failures.now ≡ 0 → StopsAt start.version.logic (lines_of input) old new before after → StopsBetween start (lines_of input) before after
  at_text input new before after zero h =
      let none : failed_in h.given ≡ 0 =
      ⊎_elim (λ same. none_failed start.version.logic old h.mid (steps_said (said_lines h.done)) h.given h.answers.all.silo (ap (λ (k : History). k.failures.now) (sym same) ∙ zero))
      (λ more. next_unfailed h.done h.rest h.given new h.text zero more) h.next in
      record {
        done = h.done;
        rest = h.rest;
        parts = h.parts;
        text = h.text;
        answers = text_of_lines h.done h.given h.mid h.text h.answers none;
        written = h.written;
      }

  after_text : (input : List ℕ) (new : History) (before after : Option (List ℕ)) → new.failures.now ≡ 0 → StopsAfter start.version.logic (lines_of input) old new before after → StopsInside start (lines_of input) before after
  after_text input new before after zero h =
      let none = none_failed start.version.logic old new (steps_said (said_lines (h.done ++ h.last))) (h.given ++ h.more) h.answers.all.silo zero in
      record {
        done = h.done;
        last = h.last;
        rest = h.rest;
        at_most_one = h.at_most_one;
        parts = h.parts;
        text = h.text;
        last_text = h.last_text;
        before_it = text_of_lines h.done h.given h.mid h.text h.before_it (none_failed_before h.given h.more none);
        answers = text_of_lines (h.done ++ h.last) (h.given ++ h.more) new (h.text ++ h.last_text) h.answers none;
        during = h.during;
        written = h.written;
        part = h.part;
      }

  by_fault : (why : LineFault) (reading : Reading) (left : Option (List ℕ)) (writing : WriterCalls) (input : List ℕ) (new : History) (before after : Option (List ℕ)) → new.failures.now ≡ 0
      → StopsBy start.version.logic input reading left writing old new before after why → StopsSteps start why input left reading before after writing
  unfolding before_text at_text
  by_fault line.Read reading left writing input new before after zero h = (before_text input new before after zero h.0, h.1, h.2)
  by_fault line.TooMuch reading left writing input new before after zero h = (before_text input new before after zero h.0, h.1)
  by_fault line.Memory reading left writing input new before after zero h = (at_text input new before after zero h.0, h.1)
  by_fault line.Write reading left writing input new before after zero h = (after_text input new before after zero h.0, h.1)

  fault_text : (why : LineFault) (reading : Reading) (left : Option (List ℕ)) (writing : WriterCalls) (new : History) (from before after : Option (List ℕ)) → new.failures.now ≡ 0
      → IfSome from (λ input. StopsBy start.version.logic input reading left writing old new before after why) → IfSome from (λ input. StopsSteps start why input left reading before after writing)
  fault_text why reading left writing new None before after zero h = tt
  fault_text why reading left writing new (Some input) before after zero h = by_fault why reading left writing input new before after zero h

  pub steps_stopped : (why : LineFault) (fresh reading : Reading) (left : Option (List ℕ)) (writing : WriterCalls) (new : History) (from before after : Option (List ℕ)) → IsFresh fresh → new.failures.now ≡ 0
      → IfSome (left_of fresh from) (λ input. StopsBy start.version.logic input reading left writing old new before after why) → IfSome from (λ input. StopsSteps start why input left reading before after writing)
  steps_stopped why fresh reading left writing new from before after none zero h =
      subst (λ (o : Option (List ℕ)). IfSome o (λ input. StopsSteps start why input left reading before after writing)) (left_of-fresh fresh from none)
      (fault_text why reading left writing new (left_of fresh from) before after zero h)

-- ---- all was answered, and then writing failed

all_but_out : (start : Start) (input : List ℕ) (left before during after : Option (List ℕ)) → Keeps during after → AnswersSteps start input left before during → StopsInside start (lines_of input) before after
all_but_out start input left before during after kept h = record {
  done = lines_of input;
  last = [];
  rest = [];
  at_most_one = omega arith;
  parts = sym (append-nil (lines_of input ++ []) ∙ append-nil (lines_of input));
  text = h.text;
  last_text = [];
  before_it = h.answers;
  answers = subst (λ (lines : List (List ℕ)). IsTextOf start lines (h.text ++ [])) (sym (append-nil (lines_of input)))
      (subst (λ (text : List ℕ). IsTextOf start (lines_of input) text) (sym (append-nil h.text)) h.answers);
  during = after;
  written = Appends-kept before during after _ h.written kept;
  part = record { front = []; back = []; parts = refl; written = Appends-nil after };
}

StopsSteps-answered : (start : Start) (reading : Reading) (writing : WriterCalls) (from left before during after : Option (List ℕ)) → writing.failed ≡ true → Keeps during after
    → IfSome from (λ input. AnswersSteps start input left before during) → IfSome from (λ input. StopsSteps start line.Write input left reading before after writing)
StopsSteps-answered start reading writing None left before during after failed kept h = tt
StopsSteps-answered start reading writing (Some input) left before during after failed kept h = (all_but_out start input left before during after kept h, failed)

pub steps_not_out : {T : Type 0} (start : Start) (reading : Reading) (writing : WriterCalls) (from left before during after : Option (List ℕ)) (out : Result T LineFault) → OnErr out (out ≡ Err line.Write) → OnErr out (writing.failed ≡ true) → Keeps during after
    → IfSome from (λ input. AnswersSteps start input left before during) → IfErr out (λ why. StopsFrom start why from left reading before after writing)
steps_not_out start reading writing from left before during after (Ok none) fault failed kept h = tt
steps_not_out start reading writing from left before during after (Err why) fault failed kept h =
    let is : why ≡ line.Write = cc fault in
    subst (λ (w : LineFault). StopsFrom start w from left reading before after writing) (sym is) (StopsSteps-answered start reading writing from left before during after failed kept h)

-- ---- the steps ended with a fault, and then what was written went out

module _ (start : Start) (lines : List (List ℕ)) (before during after : Option (List ℕ)) (kept : Keeps during after) where
  StopsBetween-kept : StopsBetween start lines before during → StopsBetween start lines before after
  StopsBetween-kept h = record { done = h.done; rest = h.rest; parts = h.parts; text = h.text; answers = h.answers; written = Appends-kept before during after h.text h.written kept }

  StopsInside-kept : StopsInside start lines before during → StopsInside start lines before after
  StopsInside-kept h = record {
    done = h.done;
    last = h.last;
    rest = h.rest;
    at_most_one = h.at_most_one;
    parts = h.parts;
    text = h.text;
    last_text = h.last_text;
    before_it = h.before_it;
    answers = h.answers;
    during = h.during;
    written = h.written;
    part = record { front = h.part.front; back = h.part.back; parts = h.part.parts; written = Appends-kept h.during during after h.part.front h.part.written kept };
  }

StopsSteps-kept : (start : Start) (why : LineFault) (input : List ℕ) (left : Option (List ℕ)) (reading : Reading) (writing : WriterCalls) (before during after : Option (List ℕ)) → Keeps during after
    → StopsSteps start why input left reading before during writing → StopsSteps start why input left reading before after writing
unfolding StopsBetween-kept
StopsSteps-kept start line.Read input left reading writing before during after kept h = (StopsBetween-kept start (lines_of input) before during after kept h.0, h.1, h.2)
StopsSteps-kept start line.TooMuch input left reading writing before during after kept h = (StopsBetween-kept start (lines_of input) before during after kept h.0, h.1)
StopsSteps-kept start line.Memory input left reading writing before during after kept h = (StopsBetween-kept start (lines_of input) before during after kept h.0, h.1)
StopsSteps-kept start line.Write input left reading writing before during after kept h = (StopsInside-kept start (lines_of input) before during after kept h.0, h.1)

pub StopsFrom-kept : (start : Start) (why : LineFault) (from left : Option (List ℕ)) (reading : Reading) (writing : WriterCalls) (before during after : Option (List ℕ)) → Keeps during after
    → StopsFrom start why from left reading before during writing → StopsFrom start why from left reading before after writing
StopsFrom-kept start why None left reading writing before during after kept h = tt
StopsFrom-kept start why (Some input) left reading writing before during after kept h = StopsSteps-kept start why input left reading writing before during after kept h

-- ---- memory was refused before the first line

-- nothing was taken and nothing written
none_answered : (start : Start) (input : List ℕ) (left before : Option (List ℕ)) (reading : Reading) (writing : WriterCalls) → left_of reading left ≡ Some input
    → StopsSteps start line.Memory input left reading before before writing
none_answered start input left before reading writing same = (
  record {
    done = [];
    rest = lines_of input;
    parts = refl;
    text = [];
    answers = record { whole = refl; own = λ tenant. refl };
    written = Appends-nil before;
  },
  subst (λ (o : Option (List ℕ)). AreTakenButOne input o []) (sym same) (none_beyond input (Some input) (Some input) [] (Took-none (Some input)) (TakesPart-none (Some input))),
)

pub steps_not_begun : (start : Start) (from before : Option (List ℕ)) (reading : Reading) (writing : WriterCalls) → IsFresh reading
    → StopsFrom start line.Memory from from reading before before writing
steps_not_begun start None before reading writing fresh = tt
steps_not_begun start (Some input) before reading writing fresh = none_answered start input (Some input) before reading writing (left_of-fresh reading (Some input) fresh)
