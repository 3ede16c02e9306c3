-- What stands in a journal of one form may stand in one of the newest.
use Rattle.journal_text.proofs.Common.{◌≡◌, ℕ, Bool, true, true≢false, ◌&&◌, eqb, leb, zero, suc, List, [], ◌∷◌, ◌++◌, length, All, Option, Some, None, refl, sym, subst, ap, ◌∙◌, lit<, first_so, second_so, list_any, list_all, append-nil, All-cons, All-tail, All-weaker, IsBytes, Step, Form, Line, CodeAndText, is_recorded_fault, is_text_byte}
use Rattle.journal_text.proofs.Common.{History, body, journal_lines, IsOutcome, IsStep, IsLine, KeepsRulesIn, ReadsRest}
use Rattle.std.specs.Prelude.{Result, Ok, Err, IsTrue, IfSome, if◌then◌else◌}
use Rattle.std.proofs.lemmas.Bool.{and_from, or_left}
use Rattle.std.proofs.lemmas.List.Folds.{list_any-append}
use Rattle.finite_maps.proofs.Options.{some_if_fails}
use Rattle.request_codec.specs.Limits.{message_version, old_version}
use Rattle.request_codec.specs.Call.{Call, versioned_call, state_value}
use Rattle.request_codec.specs.Reading.{◌>>=◌}
use Rattle.request_codec.specs.Tree.{Tree, holds_bytes}
use Rattle.request_codec.specs.Written.{text_spelling, spelling}
use Rattle.silo_event.specs.Fault.{fault_code, refusal_fault}
use Rattle.silo_event.specs.declared.step.Step.TheVariants as step
use Rattle.journal_text.specs.declared.form.Form.TheVariants as forms
use Rattle.journal_text.specs.declared.fault.JournalFault.{JournalFault}
use Rattle.journal_text.specs.declared.fault.JournalFault.TheVariants as faults
use Rattle.journal_text.specs.declared.line.Line.TheVariants as line
use Rattle.journal_text.specs.Form.{newest, message_bytes, message_in, state_bytes, state_in, is_code, common_codes, HasMessage, HasState}
use Rattle.journal_text.specs.JournalAnswers.{ReadsJournal}

-- ---- what is spelled without bytes

-- what is found and passes for plain is found
found_plain : {A : Type 0} (holds : A → Bool) (found : Option A) (x : A) → (found >>= λ y. if holds y then None else Some y) ≡ Some x → found ≡ Some x
found_plain holds None x is = is
found_plain holds (Some y) x is = (some_if_fails (holds y) (Some y) x is).1

-- what is spelled behind one first byte is spelled behind the other
changed : (bytes : List ℕ) → versioned_call old_version (old_version ∷ bytes) ≡ versioned_call message_version (message_version ∷ bytes)
unfolding versioned_call
changed bytes = refl

in_range_behind : (first : ℕ) (bytes : List ℕ) → IsBytes (first ∷ bytes) → IsBytes (message_version ∷ bytes)
in_range_behind first bytes are zero = lit< tt
in_range_behind first bytes are (suc i) = are (suc i)

from_old : (m : Call) → HasMessage forms.First m → HasMessage newest m
from_old m has =
    let behind : List ℕ = text_spelling m.method ++ spelling m.argument in
    (in_range_behind old_version behind has.0, sym (changed behind) ∙ found_plain (λ (call : Call). holds_bytes call.argument) (versioned_call old_version (old_version ∷ behind)) m has.1)

message_newest : (form : Form) (m : Call) → HasMessage form m → HasMessage newest m
message_newest forms.First m has = from_old m has
message_newest forms.Second m has = from_old m has
message_newest forms.Third m has = has

state_newest : (form : Form) (v : Tree) → HasState form v → HasState newest v
state_newest forms.First v has = (has.0, found_plain holds_bytes (state_value (spelling v)) v has.1)
state_newest forms.Second v has = (has.0, found_plain holds_bytes (state_value (spelling v)) v has.1)
state_newest forms.Third v has = has

-- ---- codes

common_newest : (n : ℕ) → list_any (λ code. eqb code n) (common_codes ++ []) ≡ true → is_code newest n ≡ true
common_newest n is =
    let same : ℕ → Bool = λ code. eqb code n in
    list_any-append same common_codes (14 ∷ []) ∙ or_left (list_any same common_codes) (list_any same (14 ∷ [])) (sym (ap (list_any same) (append-nil common_codes)) ∙ is)

code_newest : (form : Form) (n : ℕ) → is_code form n ≡ true → is_code newest n ≡ true
code_newest forms.First n is = common_newest n is
code_newest forms.Second n is = common_newest n is
code_newest forms.Third n is = is

fault_newest : (form : Form) (t : CodeAndText) → IsTrue (is_recorded_fault form t) → IsTrue (is_recorded_fault newest t)
unfolding is_recorded_fault
fault_newest form t is =
    let front = first_so (is_code form t.code && leb 1 (length t.text)) (list_all is_text_byte t.text) is in
    let code = code_newest form t.code (first_so (is_code form t.code) (leb 1 (length t.text)) front) in
    and_from (is_code newest t.code && leb 1 (length t.text)) (list_all is_text_byte t.text)
    (and_from (is_code newest t.code) (leb 1 (length t.text)) code (second_so (is_code form t.code) (leb 1 (length t.text)) front))
    (second_so (is_code form t.code && leb 1 (length t.text)) (list_all is_text_byte t.text) is)

-- ---- lines

outcome_newest : (form : Form) (o : Result Tree CodeAndText) → IsOutcome form o → IsOutcome newest o
outcome_newest form (Ok v) is = state_newest form v is
outcome_newest form (Err t) is = fault_newest form t is

content_newest : (form : Form) (c : Option Tree) → IfSome c (HasState form) → IfSome c (HasState newest)
content_newest form None is = tt
content_newest form (Some v) is = state_newest form v is

step_newest : (form : Form) (s : Step) → IsStep form s → IsStep newest s
step_newest form (step.Refuse caller id code) is = (is.0, is.1, code_newest form (fault_code (refusal_fault code)) is.2)
step_newest form (step.Call caller id grain message) is = (is.0, is.1, is.2, message_newest form message is.3)
step_newest form (step.Poke failed caller id grain state) is = (is.0, is.1, is.2, state_newest form state is.3)
step_newest form (step.Status caller id) is = is
step_newest form (step.Deliver grain) is = is
step_newest form (step.Activate grain) is = is
step_newest form (step.Load grain failed) is = is
step_newest form (step.Begin grain) is = is
step_newest form (step.Store grain turn failed) is = is
step_newest form (step.End grain turn) is = is
step_newest form (step.Abandon grain turn) is = is
step_newest form (step.Tick now) is = is
step_newest form step.Sweep is = is

line_newest : (form : Form) (l : Line) → IsLine form l → IsLine newest l
line_newest form line.Head is = is
line_newest form (line.Kinds kinds) is = (refl, is.1)
line_newest form (line.Age age) is = is
line_newest form (line.Kind kind age) is = (refl, is.1, is.2)
line_newest form (line.Tenant tenant limits) is = is
line_newest form (line.Step s) is = step_newest form s is
line_newest form (line.Reply reply) is = (is.0, outcome_newest form reply.outcome is.1)
line_newest form (line.Row grain row) is = (is.0, (is.1.0, is.1.1, content_newest form row.content is.1.2))
line_newest form (line.Close steps) is = is

-- ---- journals

-- A journal keeps the rules of the newest form, if its lines may stand there.
with_lines : (form : Form) (j : History) → KeepsRulesIn form j → All (IsLine newest) (journal_lines newest j) → KeepsRulesIn newest j
with_lines form j keeps lines = record {
  kinds = keeps.kinds;
  ages = keeps.ages;
  untold = λ untold. absurd (true≢false untold);
  is_table = keeps.is_table;
  ascending = keeps.ascending;
  lines = lines;
}

all_newest : (form : Form) (lines : List Line) → All (IsLine form) lines → All (IsLine newest) lines
all_newest form lines all = All-weaker (IsLine form) (IsLine newest) (line_newest form) lines all

-- a journal of a form keeps the rules of the newest
pub keeps_newest : (form : Form) (j : History) → KeepsRulesIn form j → KeepsRulesIn newest j
unfolding journal_lines
keeps_newest forms.Third j keeps = keeps
keeps_newest forms.Second j keeps = with_lines forms.Second j keeps (all_newest forms.Second (journal_lines forms.Second j) keeps.lines)
keeps_newest forms.First j keeps =
    let behind : List Line = body j ++ line.Close (length j.steps) ∷ [] in
    let all = all_newest forms.First (line.Head ∷ line.Age j.age ∷ behind) keeps.lines in
    with_lines forms.First j keeps
    (All-cons (IsLine newest) line.Head (line.Kinds j.kinds ∷ line.Age j.age ∷ behind) tt
    (All-cons (IsLine newest) (line.Kinds j.kinds) (line.Age j.age ∷ behind) (refl, keeps.kinds)
    (All-tail (IsLine newest) line.Head (line.Age j.age ∷ behind) all)))

pub reads_journal : (form : Form) (bytes : List ℕ) (result : Result History JournalFault) → ReadsRest form bytes result → ReadsJournal bytes result
reads_journal form bytes (Ok j) reads = record { form = form; keeps = reads.0; text = reads.1 }
reads_journal form bytes (Err (faults.At number)) reads = reads
reads_journal form bytes (Err faults.Memory) reads = reads

-- ---- bytes that are read

pub has_message : (form : Form) (m : Call) (bytes read : List ℕ) → read ≡ bytes → IsBytes bytes → message_in form read ≡ Some m → message_bytes form m ≡ read → HasMessage form m
has_message form m bytes read same in_range reads exact =
    (subst IsBytes (sym (exact ∙ same)) in_range, ap (message_in form) exact ∙ reads)

pub has_state : (form : Form) (v : Tree) (bytes read : List ℕ) → read ≡ bytes → IsBytes bytes → state_in form read ≡ Some v → state_bytes v ≡ read → HasState form v
has_state form v bytes read same in_range reads exact =
    (subst IsBytes (sym (exact ∙ same)) in_range, ap (state_in form) exact ∙ reads)
