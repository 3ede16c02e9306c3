-- The text of a journal: a line for each thing that it records, the fields of a line parted by one space, numbers in
-- decimal, bytes in lower case hexadecimal.
use Rattle.std.specs.Prelude.{ℕ, Bool, true, false, List, [], ◌∷◌, ◌++◌, length}
use Rattle.std.specs.Prelude.{map, flat_map, codes, decimal, Option, Some, None, Result, Ok, Err, if◌then◌else◌}
use Rattle.grain_id.specs.Names.{Grain, grain_text, client_text}
use Rattle.request_codec.specs.Tree.{Tree}
use Rattle.request_codec.specs.Call.{Call}
use Rattle.tenant_gate.specs.declared.limits.Limits.{Limits}
use Rattle.tenant_gate.specs.Table.{Table}
use Rattle.grain_storage.specs.declared.row.Row.{Row}
use Rattle.idle_collector.specs.Ages.{Ages}
use Rattle.silo_event.specs.declared.reply.Party.{Party}
use Rattle.silo_event.specs.declared.reply.Party.TheVariants as party
use Rattle.silo_event.specs.declared.step.Step.{Step}
use Rattle.silo_event.specs.declared.step.Step.TheVariants.{Refuse, Call as Calling, Poke, Status, Deliver, Activate}
use Rattle.silo_event.specs.declared.step.Step.TheVariants.{Load, Begin, Store, End, Abandon, Tick, Sweep}
use Rattle.silo_event.specs.declared.refusal.Refusal.{Refusal}
use Rattle.silo_event.specs.Fault.{fault_code, refusal_fault}
use Rattle.hex.specs.Hex.{encode_lower}
use Rattle.journal_text.specs.Form.{form_text, tells_kinds, message_bytes, state_bytes, written}
use Rattle.journal_text.specs.declared.form.Form.{Form}
use Rattle.journal_text.specs.RecordedFault.{CodeAndText}
use Rattle.journal_text.specs.declared.recorded.RecordedReply.{RecordedReply}
use Rattle.journal_text.specs.declared.line.Line.{Line}
use Rattle.journal_text.specs.declared.line.Line.TheVariants as line

-- What a journal is of: which logic the kinds have, by its number; the age; the kinds that have an age of their own, each
-- with it; the tenants with their limits in order; the steps; the recorded replies; and the recorded rows.
pub record History : Type 0 where
  pub kinds : ℕ
  pub age : ℕ
  pub ages : Ages
  pub tenants : Table
  pub steps : List Step
  pub replies : List RecordedReply
  pub rows : List (Grain × Row)

-- a history by its parts
abbrev pub history_of : ℕ → ℕ → Ages → Table → List Step → List RecordedReply → List (Grain × Row) → History
history_of kinds age ages tenants steps replies rows =
    record { kinds = kinds; age = age; ages = ages; tenants = tenants; steps = steps; replies = replies; rows = rows }

-- one field, a space, and the fields after it
infixr 4 ◌␣◌
abbrev pub ◌␣◌ : List ℕ → List ℕ → List ℕ
field ␣ fields = field ++ 32 ∷ fields

-- ---- fields

abbrev pub mark_text : Bool → List ℕ
mark_text false = codes "ok"
mark_text true = codes "failed"

abbrev pub message_text : Form → Call → List ℕ
message_text form message = encode_lower (message_bytes form message)

abbrev pub state_text : Tree → List ℕ
state_text state = encode_lower (state_bytes state)

abbrev pub refusal_text : Refusal → List ℕ
refusal_text refusal = decimal (fault_code (refusal_fault refusal))

-- a client with its number, or a grain and a dash
abbrev pub recipient_text : Party → List ℕ
recipient_text (party.Client client id) = client_text client ␣ decimal id
recipient_text (party.Grain grain) = grain_text grain ␣ codes "-"

abbrev pub outcome_text : Result Tree CodeAndText → List ℕ
outcome_text (Ok value) = codes "ok" ␣ state_text value
outcome_text (Err fault) = codes "no" ␣ decimal fault.code ␣ fault.text

abbrev pub content_text : Option Tree → List ℕ
content_text (Some state) = state_text state
content_text None = codes "-"

-- ---- lines of a form, without their LF

abbrev pub step_text : Form → Step → List ℕ
step_text form (Refuse caller id code) = codes "refuse" ␣ client_text caller ␣ decimal id ␣ refusal_text code
step_text form (Calling caller id grain message) =
    codes "call" ␣ client_text caller ␣ decimal id ␣ grain_text grain ␣ message_text form message
step_text form (Poke failed caller id grain state) =
    codes "poke" ␣ client_text caller ␣ decimal id ␣ grain_text grain ␣ mark_text failed ␣ state_text state
step_text form (Status caller id) = codes "status" ␣ client_text caller ␣ decimal id
step_text form (Deliver grain) = codes "deliver" ␣ grain_text grain
step_text form (Activate grain) = codes "activate" ␣ grain_text grain
step_text form (Load grain failed) = codes "load" ␣ grain_text grain ␣ mark_text failed
step_text form (Begin grain) = codes "begin" ␣ grain_text grain
step_text form (Store grain turn failed) = codes "store" ␣ grain_text grain ␣ decimal turn ␣ mark_text failed
step_text form (End grain turn) = codes "end" ␣ grain_text grain ␣ decimal turn
step_text form (Abandon grain turn) = codes "abandon" ␣ grain_text grain ␣ decimal turn
step_text form (Tick now) = codes "tick" ␣ decimal now
step_text form Sweep = codes "sweep"

abbrev pub line_text : Form → Line → List ℕ
line_text form line.Head = codes "silo-journal" ␣ form_text form
line_text form (line.Kinds kinds) = codes "kinds" ␣ decimal kinds
line_text form (line.Age age) = codes "age" ␣ decimal age
line_text form (line.Kind kind age) = codes "kind" ␣ kind ␣ decimal age
line_text form (line.Tenant tenant limits) = codes "tenant" ␣ tenant ␣ decimal limits.activations ␣ decimal limits.mailbox
line_text form (line.Step s) = step_text form s
line_text form (line.Reply reply) = codes "reply" ␣ recipient_text reply.recipient ␣ outcome_text reply.outcome
line_text form (line.Row grain row) = codes "row" ␣ grain_text grain ␣ decimal row.version ␣ content_text row.content
line_text form (line.Close steps) = codes "close" ␣ decimal steps

-- ---- the whole

-- each line, and an LF after it
abbrev pub lines_text : Form → List Line → List ℕ
lines_text form lines = flat_map (λ l. line_text form l ++ 10 ∷ []) lines

abbrev pub kind_line : List ℕ × ℕ → Line
kind_line entry = line.Kind entry.0 entry.1

abbrev pub tenant_line : List ℕ × Limits → Line
tenant_line entry = line.Tenant entry.0 entry.1

abbrev pub row_line : Grain × Row → Line
row_line entry = line.Row entry.0 entry.1

-- which logic the kinds have, in a form that tells it
abbrev pub kinds_lines : Form → ℕ → List Line
kinds_lines form kinds = if tells_kinds form then line.Kinds kinds ∷ [] else []

-- the head, which logic the kinds have, and the age
abbrev pub start_lines : Form → ℕ → ℕ → List Line
start_lines form kinds age = line.Head ∷ kinds_lines form kinds ++ line.Age age ∷ []

-- the ages of kinds, the tenants, the steps, the replies, and the rows
abbrev pub body : History → List Line
body j =
    map kind_line j.ages
    ++ map tenant_line j.tenants
    ++ map line.Step j.steps
    ++ map line.Reply j.replies
    ++ map row_line j.rows

-- all lines; the last has the number of steps
unfoldable pub journal_lines : Form → History → List Line
journal_lines form j = start_lines form j.kinds j.age ++ body j ++ line.Close (length j.steps) ∷ []

abbrev pub text_in : Form → History → List ℕ
text_in form j = lines_text form (journal_lines form j)

-- the text that is written
abbrev pub journal_text : History → List ℕ
journal_text j = text_in written j
