-- The rules that a journal keeps.
use Rattle.std.specs.Prelude.{◌≡◌, ℕ, ◌<◌, ◌≤◌, ◌^◌, Bool, true, false, ◌&&◌, List, []}
use Rattle.std.specs.Prelude.{◌∷◌, All, Option, Some, None, Result, Ok, Err, IsTrue, IfSome}
use Rattle.std.specs.Ordering.{is_lt}
use Rattle.grain_id.specs.Names.{Grain, grain_cmp, is_grain, is_client}
use Rattle.grain_id.specs.Words.{is_word}
use Rattle.tenant_gate.specs.Age.{IsAge}
use Rattle.tenant_gate.specs.Table.{Table, table_fault, are_in_range}
use Rattle.grain_storage.specs.declared.row.Row.{Row}
use Rattle.idle_collector.specs.Ages.{IsTable as AreAges}
use Rattle.silo_event.specs.Fault.{fault_code, refusal_fault}
use Rattle.silo_event.specs.declared.refusal.Refusal.{Refusal}
use Rattle.silo_event.specs.declared.reply.Party.{Party}
use Rattle.silo_event.specs.declared.reply.Party.TheVariants as party
use Rattle.silo_event.specs.declared.step.Step.{Step}
use Rattle.silo_event.specs.declared.step.Step.TheVariants.{Refuse, Call as Calling, Poke, Status, Deliver, Activate}
use Rattle.silo_event.specs.declared.step.Step.TheVariants.{Load, Begin, Store, End, Abandon, Tick, Sweep}
use Rattle.request_codec.specs.Tree.{Tree}
use Rattle.journal_text.specs.Form.{HasMessage, HasState, is_code, tells_kinds, written}
use Rattle.journal_text.specs.declared.form.Form.{Form}
use Rattle.journal_text.specs.RecordedFault.{CodeAndText, is_recorded_fault}
use Rattle.journal_text.specs.Text.{History, journal_lines}
use Rattle.journal_text.specs.declared.line.Line.{Line}
use Rattle.journal_text.specs.declared.line.Line.TheVariants as line

-- a client's number, a turn's number, or a moment
abbrev pub IsNumber : ℕ → Type 0
IsNumber n = n < 2 ^ 63

-- the number of a version of the logic: there may be 255, and which of them there are is said above
abbrev pub IsKinds : ℕ → Type 0
IsKinds n = (1 ≤ n) × (n ≤ 255)

abbrev pub IsParty : Party → Type 0
IsParty (party.Client client id) = IsTrue (is_client client) × IsNumber id
IsParty (party.Grain grain) = IsTrue (is_grain grain)

abbrev pub IsOutcome : Form → Result Tree CodeAndText → Type 0
IsOutcome form (Ok value) = HasState form value
IsOutcome form (Err fault) = IsTrue (is_recorded_fault form fault)

abbrev pub IsRow : Form → Row → Type 0
IsRow form row = (1 ≤ row.version) × (row.version < 2 ^ 64) × IfSome row.content (HasState form)

-- its code is one of the form's
abbrev pub is_refusal : Form → Refusal → Bool
is_refusal form refusal = is_code form (fault_code (refusal_fault refusal))

-- The step's names are well formed, its numbers in their ranges, its code one of the form's, and its message or its state has
-- bytes.
abbrev pub IsStep : Form → Step → Type 0
IsStep form (Refuse caller id code) = IsTrue (is_client caller) × IsNumber id × IsTrue (is_refusal form code)
IsStep form (Calling caller id grain message) = IsTrue (is_client caller) × IsNumber id × IsTrue (is_grain grain) × HasMessage form message
IsStep form (Poke failed caller id grain state) = IsTrue (is_client caller) × IsNumber id × IsTrue (is_grain grain) × HasState form state
IsStep form (Status caller id) = IsTrue (is_client caller) × IsNumber id
IsStep form (Deliver grain) = IsTrue (is_grain grain)
IsStep form (Activate grain) = IsTrue (is_grain grain)
IsStep form (Load grain failed) = IsTrue (is_grain grain)
IsStep form (Begin grain) = IsTrue (is_grain grain)
IsStep form (Store grain turn failed) = IsTrue (is_grain grain) × IsNumber turn
IsStep form (End grain turn) = IsTrue (is_grain grain) × IsNumber turn
IsStep form (Abandon grain turn) = IsTrue (is_grain grain) × IsNumber turn
IsStep form (Tick now) = IsNumber now
IsStep form Sweep = Unit {0}

-- What the line holds may stand in a journal of that form.
abbrev pub IsLine : Form → Line → Type 0
IsLine form line.Head = Unit {0}
IsLine form (line.Kinds kinds) = IsTrue (tells_kinds form) × IsKinds kinds
IsLine form (line.Age age) = IsAge age
IsLine form (line.Kind kind age) = IsTrue (tells_kinds form) × IsTrue (is_word kind) × IsAge age
IsLine form (line.Tenant tenant limits) = IsTrue (is_word tenant) × IsTrue (are_in_range limits)
IsLine form (line.Step s) = IsStep form s
IsLine form (line.Reply reply) = IsParty reply.recipient × IsOutcome form reply.outcome
IsLine form (line.Row grain row) = IsTrue (is_grain grain) × IsRow form row
IsLine form (line.Close steps) = steps < 2 ^ 64

-- the grain comes after the last one, if there is one
abbrev pub comes_after : Option Grain → Grain → Bool
comes_after None grain = true
comes_after (Some last) grain = is_lt (grain_cmp last grain)

-- the rows' grains come one after another, the first after the last one before them
abbrev pub are_ascending : Option Grain → List (Grain × Row) → Bool
are_ascending last [] = true
are_ascending last (row ∷ rows) = comes_after last row.0 && are_ascending (Some row.0) rows

-- 1 to 1,000 tenants, none twice, with limits in their ranges
abbrev pub IsTable : Table → Type 0
IsTable tenants = table_fault tenants ≡ None

-- Its kinds have a version of the logic, and those with an age of their own are a table: at most 64, ascending. Its tenants
-- are a table, its rows ascend, and each of its lines holds what may stand in a journal of that form. In a form that
-- doesn't tell it, the kinds have the first logic, and no age of their own.
pub record KeepsRulesIn (form : Form) (j : History) : Type 0 where
  pub kinds : IsKinds j.kinds
  pub ages : AreAges j.ages
  pub untold : tells_kinds form ≡ false → (j.kinds ≡ 1) × (j.ages ≡ [])
  pub is_table : IsTable j.tenants
  pub ascending : IsTrue (are_ascending None j.rows)
  pub lines : All (IsLine form) (journal_lines form j)

-- The same, of the form in which journals are written.
abbrev pub KeepsRules : History → Type 0
KeepsRules j = KeepsRulesIn written j

-- ---- what of the rules no type keeps

-- the number under which a client asks by the step, if one does, is in its range
abbrev pub AsksInRange : Step → Type 0
AsksInRange (Refuse caller id code) = IsNumber id
AsksInRange (Calling caller id grain message) = IsNumber id
AsksInRange (Poke failed caller id grain state) = IsNumber id
AsksInRange (Status caller id) = IsNumber id
AsksInRange _ = Unit {0}

-- so is the number of the turn that the step closes, if it closes one
abbrev pub HasNumbers : Step → Type 0
HasNumbers (Store grain turn failed) = IsNumber turn
HasNumbers (End grain turn) = IsNumber turn
HasNumbers (Abandon grain turn) = IsNumber turn
HasNumbers s = AsksInRange s

-- so is the number of the client that is told, if one is
abbrev pub ToNumber : Party → Type 0
ToNumber (party.Client client id) = IsNumber id
ToNumber (party.Grain grain) = Unit {0}

-- The numbers of clients and of turns are in their range, and the versions of rows begin at 1.
pub record HasNumbersInRange (j : History) : Type 0 where
  pub steps : All HasNumbers j.steps
  pub replies : All (λ reply. ToNumber reply.recipient) j.replies
  pub versions : All (λ (row : Grain × Row). 1 ≤ row.1.version) j.rows

-- What is left of the rules where names, codes, messages, states and moments are those of the types that keep them.
pub record IsInRange (j : History) : Type 0 where
  pub kinds : IsKinds j.kinds
  pub age : IsAge j.age
  pub ages : AreAges j.ages
  pub is_table : IsTable j.tenants
  pub numbers : HasNumbersInRange j
  pub ascending : IsTrue (are_ascending None j.rows)
