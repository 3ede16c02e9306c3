-- What a line may be the text of, by its fields: a line that has a form is read as what it is the text of. (A line that
-- has none may be read as something too, so what is read is written again and compared.)
use Rattle.std.specs.Prelude.{ℕ, Bool, true, false, ◌&&◌, List, codes, decimal}
use Rattle.std.specs.Prelude.{Option, Some, None, Result, Ok, Err, nat_lt, nat_le, if◌then◌else◌}
use Rattle.std.specs.Str.Parse.{digits_value}
use Rattle.grain_id.specs.Names.{Grain, Client, same_text}
use Rattle.grain_id.specs.Reading.{cut_at, caller_read, grain_read}
use Rattle.hex.specs.Hex.{decode_of}
use Rattle.request_codec.specs.Tree.{Tree}
use Rattle.request_codec.specs.Call.{Call}
use Rattle.silo_event.specs.declared.refusal.Refusal.{Refusal}
use Rattle.silo_event.specs.declared.refusal.Refusal.TheVariants as refusal
use Rattle.grain_id.specs.Words.{is_word}
use Rattle.tenant_gate.specs.declared.limits.Limits.{Limits}
use Rattle.tenant_gate.specs.Table.{are_in_range}
use Rattle.grain_storage.specs.declared.row.Row.{Row}
use Rattle.silo_event.specs.declared.reply.Party.{Party}
use Rattle.silo_event.specs.declared.reply.Party.TheVariants as party
use Rattle.journal_text.specs.Form.{form_text, tells_kinds, message_in, state_in, is_code}
use Rattle.journal_text.specs.declared.form.Form.{Form}
use Rattle.journal_text.specs.RecordedFault.{CodeAndText, code_and_text, is_recorded_fault}
use Rattle.journal_text.specs.declared.recorded.RecordedReply.{RecordedReply}
use Rattle.journal_text.specs.declared.line.Line.{Line}
use Rattle.journal_text.specs.declared.line.Line.TheVariants as line
use Rattle.silo_event.specs.declared.step.Step.{Step}
use Rattle.silo_event.specs.declared.step.Step.TheVariants as step

infixl 10 ◌>>=◌
abbrev pub ◌>>=◌ : {A B : Type 0} → Option A → (A → Option B) → Option B
(Some x) >>= f = f x
None >>= f = None

abbrev pub if_ok : {A E : Type 0} → Result A E → Option A
if_ok (Ok x) = Some x
if_ok (Err e) = None

-- a field, a space, and the fields after it
infixr 5 ◌⊗◌
abbrev pub ◌⊗◌ : {A B : Type 0} → (List ℕ → Option A) → (List ℕ → Option B) → List ℕ → Option (A × B)
(first ⊗ others) fields = do
  cut ← cut_at 32 fields
  x ← first cut.0
  y ← others cut.1
  Some (x, y)

abbrev pub only_if : {A : Type 0} → Bool → A → Option A
only_if b x = if b then Some x else None

-- ---- fields

-- the number whose decimal text it is, below 2^64
unfoldable pub wide_of : List ℕ → Option ℕ
wide_of field =
    let n = digits_value 10 field in
    if same_text field (decimal n) && nat_lt n 18446744073709551616 then Some n else None

-- the same, below 2^63
abbrev pub number_of : List ℕ → Option ℕ
number_of field = do
  n ← wide_of field
  (if nat_lt n 9223372036854775808 then Some n else None)

abbrev pub mark_of : List ℕ → Option Bool
mark_of field = if same_text field (codes "ok") then Some false else if same_text field (codes "failed") then Some true else None

-- 14 is told in a form that has the code
abbrev pub refusal_of : Form → List ℕ → Option Refusal
refusal_of form field =
    if same_text field (codes "11") then Some refusal.TooLong
    else if same_text field (codes "12") then Some refusal.TooDeep
    else if same_text field (codes "13") then Some refusal.NotWhole
    else if same_text field (codes "14") then only_if (is_code form 14) refusal.NotHex
    else if same_text field (codes "20") then Some refusal.NotWellFormed
    else if same_text field (codes "63") then Some refusal.TooLarge
    else None

abbrev pub client_of : List ℕ → Option Client
client_of field = if_ok (caller_read field)

abbrev pub grain_of : List ℕ → Option Grain
grain_of field = if_ok (grain_read field)

-- the bytes of a hexadecimal text
abbrev pub bytes_of : List ℕ → Option (List ℕ)
bytes_of field = if_ok (decode_of field)

abbrev pub message_of : Form → List ℕ → Option Call
message_of form field = do
  bytes ← bytes_of field
  message_in form bytes

abbrev pub state_of : Form → List ℕ → Option Tree
state_of form field = do
  bytes ← bytes_of field
  state_in form bytes

abbrev pub age_of : List ℕ → Option ℕ
age_of field = do
  age ← wide_of field
  only_if (nat_le 1 age && nat_le age 86400000) age

abbrev pub version_of : List ℕ → Option ℕ
version_of field = do
  version ← wide_of field
  only_if (nat_le 1 version) version

abbrev pub word_of : List ℕ → Option (List ℕ)
word_of field = only_if (is_word field) field

-- a state, or a dash
abbrev pub content_of : Form → List ℕ → Option (Option Tree)
content_of form field =
    if same_text field (codes "-") then Some None
    else state_of form field >>= λ state. Some (Some state)

abbrev pub limits_of : ℕ → ℕ → Option Limits
limits_of activations mailbox =
    let limits : Limits = record { activations = activations; mailbox = mailbox } in
    only_if (are_in_range limits) limits

-- a client with its number, or a grain and a dash
abbrev pub recipient_of : List ℕ → List ℕ → Option Party
recipient_of who number =
    if same_text number (codes "-") then (grain_of who >>= λ grain. Some (party.Grain grain))
    else (do
      client ← client_of who
      id ← number_of number
      Some (party.Client client id))

abbrev pub recorded_fault_of : Form → List ℕ → Option CodeAndText
recorded_fault_of form fields = do
  code ← cut_at 32 fields
  number ← wide_of code.0
  only_if (is_recorded_fault form (code_and_text number code.1)) (code_and_text number code.1)

abbrev pub outcome_of : Form → List ℕ → Option (Result Tree CodeAndText)
outcome_of form fields = do
  word ← cut_at 32 fields
  (if same_text word.0 (codes "ok") then (state_of form word.1 >>= λ value. Some (Ok value))
      else if same_text word.0 (codes "no") then (recorded_fault_of form word.1 >>= λ fault. Some (Err fault))
      else None)

-- ---- steps, by the fields behind the word that a line begins with

abbrev pub refuse_of : Form → List ℕ → Option Step
refuse_of form fields = (client_of ⊗ number_of ⊗ refusal_of form) fields >>= λ f. Some (step.Refuse f.0 f.1.0 f.1.1)

abbrev pub call_of : Form → List ℕ → Option Step
call_of form fields = (client_of ⊗ number_of ⊗ grain_of ⊗ message_of form) fields >>= λ f. Some (step.Call f.0 f.1.0 f.1.1.0 f.1.1.1)

abbrev pub poke_of : Form → List ℕ → Option Step
poke_of form fields =
    (client_of ⊗ number_of ⊗ grain_of ⊗ mark_of ⊗ state_of form) fields
    >>= λ f. Some (step.Poke f.1.1.1.0 f.0 f.1.0 f.1.1.0 f.1.1.1.1)

abbrev pub status_of : List ℕ → Option Step
status_of fields = (client_of ⊗ number_of) fields >>= λ f. Some (step.Status f.0 f.1)

abbrev pub at_grain : (Grain → Step) → List ℕ → Option Step
at_grain make field = grain_of field >>= λ grain. Some (make grain)

abbrev pub load_of : List ℕ → Option Step
load_of fields = (grain_of ⊗ mark_of) fields >>= λ f. Some (step.Load f.0 f.1)

abbrev pub store_of : List ℕ → Option Step
store_of fields = (grain_of ⊗ number_of ⊗ mark_of) fields >>= λ f. Some (step.Store f.0 f.1.0 f.1.1)

abbrev pub at_turn : (Grain → ℕ → Step) → List ℕ → Option Step
at_turn make fields = (grain_of ⊗ number_of) fields >>= λ f. Some (make f.0 f.1)

abbrev pub tick_of : List ℕ → Option Step
tick_of field = number_of field >>= λ now. Some (step.Tick now)

-- a step that has fields
abbrev pub step_of : Form → List ℕ → List ℕ → Option Step
step_of form word fields =
    if same_text word (codes "refuse") then refuse_of form fields
    else if same_text word (codes "call") then call_of form fields
    else if same_text word (codes "poke") then poke_of form fields
    else if same_text word (codes "status") then status_of fields
    else if same_text word (codes "deliver") then at_grain step.Deliver fields
    else if same_text word (codes "activate") then at_grain step.Activate fields
    else if same_text word (codes "load") then load_of fields
    else if same_text word (codes "begin") then at_grain step.Begin fields
    else if same_text word (codes "store") then store_of fields
    else if same_text word (codes "end") then at_turn step.End fields
    else if same_text word (codes "abandon") then at_turn step.Abandon fields
    else if same_text word (codes "tick") then tick_of fields
    else None

-- ---- the other lines

-- the number of a logic, in a form that tells it
abbrev pub kinds_of : Form → List ℕ → Option ℕ
kinds_of form field = do
  kinds ← wide_of field
  only_if (tells_kinds form && (nat_le 1 kinds && nat_le kinds 255)) kinds

-- a kind and its age, in a form that tells them
abbrev pub kind_of : Form → List ℕ → Option (List ℕ × ℕ)
kind_of form fields = do
  f ← (word_of ⊗ age_of) fields
  only_if (tells_kinds form) f

abbrev pub tenant_of : List ℕ → Option (List ℕ × Limits)
tenant_of fields = do
  f ← (word_of ⊗ wide_of ⊗ wide_of) fields
  limits ← limits_of f.1.0 f.1.1
  Some (f.0, limits)

abbrev pub reply_of : Form → List ℕ → Option RecordedReply
reply_of form fields = do
  who ← cut_at 32 fields
  number ← cut_at 32 who.1
  recipient ← recipient_of who.0 number.0
  outcome ← outcome_of form number.1
  Some (record { recipient = recipient; outcome = outcome })

abbrev pub row_of : Form → List ℕ → Option (Grain × Row)
row_of form fields = (grain_of ⊗ version_of ⊗ content_of form) fields >>= λ f. Some (f.0, record { version = f.1.0; content = f.1.1 })

-- the first line, if the number is the form's
abbrev pub head_of : Form → List ℕ → Option Line
head_of form field = only_if (same_text field (form_text form)) line.Head

abbrev pub step_line : Option Step → Option Line
step_line found = found >>= λ s. Some (line.Step s)

-- a line that has fields
abbrev pub named_of : Form → List ℕ → List ℕ → Option Line
named_of form word fields =
    if same_text word (codes "silo-journal") then head_of form fields
    else if same_text word (codes "kinds") then (kinds_of form fields >>= λ kinds. Some (line.Kinds kinds))
    else if same_text word (codes "age") then (age_of fields >>= λ age. Some (line.Age age))
    else if same_text word (codes "kind") then (kind_of form fields >>= λ entry. Some (line.Kind entry.0 entry.1))
    else if same_text word (codes "tenant") then (tenant_of fields >>= λ entry. Some (line.Tenant entry.0 entry.1))
    else if same_text word (codes "reply") then (reply_of form fields >>= λ reply. Some (line.Reply reply))
    else if same_text word (codes "row") then (row_of form fields >>= λ entry. Some (line.Row entry.0 entry.1))
    else if same_text word (codes "close") then (wide_of fields >>= λ steps. Some (line.Close steps))
    else step_line (step_of form word fields)

unfoldable pub candidate_of : Form → List ℕ → Option Line
candidate_of form text =
    if same_text text (codes "sweep") then Some (line.Step step.Sweep)
    else (do
      word ← cut_at 32 text
      named_of form word.0 word.1)
