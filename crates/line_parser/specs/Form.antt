-- The step that JSON asks for: an object with exactly the members of one form, each of its type (docs/formats.md).
use Rattle.std.specs.Prelude.{ℕ, suc, ℤ, pos, negsuc, List, Bool, false, ◌==◌, nat_le, if◌then◌else◌, Option, Some, None, Result, Ok}
use Rattle.std.specs.Prelude.{Err, option_map, option_and_then, codes, bytes_eq}
use Rattle.serde_json.specs.Data.{Data, Members, null}
use Rattle.serde_json.specs.Events.{members_len}
use Rattle.serde_json.specs.Find.{get, as_bool, as_str, as_number, as_i64, as_object}
use Rattle.grain_id.specs.Names.{Grain, Client}
use Rattle.grain_id.specs.Reading.{grain_read, caller_read}
use Rattle.request_codec.specs.Limits.{message_limit, state_limit}
use Rattle.request_codec.specs.Tree.{Tree}
use Rattle.request_codec.specs.Call as codec
use Rattle.request_codec.specs.Call.{asks}
use Rattle.request_codec.specs.Answers.{read_json, message_length, spelled_length}
use Rattle.request_codec.specs.declared.fault.CodecFault.{CodecFault}
use Rattle.request_codec.specs.declared.fault.CodecFault.TheVariants as faults
use Rattle.silo_event.specs.declared.refusal.Refusal.{Refusal}
use Rattle.silo_event.specs.declared.refusal.Refusal.TheVariants as refusal
use Rattle.silo_event.specs.declared.step.Step.{Step}
use Rattle.silo_event.specs.declared.step.Step.TheVariants.{Refuse, Call, Poke, Status, Deliver, Activate, Load, Begin, Store, End}
use Rattle.silo_event.specs.declared.step.Step.TheVariants.{Abandon, Tick, Sweep}

infixl 10 ◌>>=◌
abbrev pub ◌>>=◌ : {A B : Type 0} → Option A → (A → Option B) → Option B
o >>= f = option_and_then f o

abbrev pub if_ok : {A E : Type 0} → Result A E → Option A
if_ok (Ok x) = Some x
if_ok (Err e) = None

-- only under a condition
abbrev pub where_so : {A : Type 0} → Bool → Option A → Option A
where_so b o = if b then o else None

-- a number that is not below 0
abbrev pub natural : ℤ → Option ℕ
natural (pos n) = Some n
natural (negsuc n) = None

abbrev pub text_at : List ℕ → Data → Option (List ℕ)
text_at name d = get name d >>= as_str

abbrev pub natural_at : List ℕ → Data → Option ℕ
natural_at name d = get name d >>= λ v. as_number v >>= λ n. as_i64 n >>= natural

abbrev pub truth_at : List ℕ → Data → Option Bool
truth_at name d = get name d >>= as_bool

abbrev pub grain_at : Data → Option Grain
grain_at d = text_at (codes "grain") d >>= λ text. if_ok (grain_read text)

abbrev pub caller_at : Data → Option Client
caller_at d = text_at (codes "from") d >>= λ text. if_ok (caller_read text)

abbrev pub has_count : ℕ → Option Members → Bool
has_count n None = false
has_count n (Some members) = members_len members == n

-- it is an object of that many members
abbrev pub has_members : ℕ → Data → Bool
has_members n d = has_count n (as_object d)

-- the argument of a call: null where it is left out
abbrev pub argument_at : Data → Option Data
argument_at d = if has_members 5 d then Some null else where_so (has_members 6 d) (get (codes "args") d)

-- whether the storage call is to fail: not so where it is left out, which leaves so many members
abbrev pub failed_at : ℕ → Data → Option Bool
failed_at n d = if has_members n d then Some false else where_so (has_members (suc n) d) (truth_at (codes "failed") d)

-- ---- what a client asks for, or why it is refused

-- with what follows, unless it is refused before
abbrev pub unless_refused : {A B : Type 0} → Result A Refusal → (A → Result B Refusal) → Result B Refusal
unless_refused (Ok x) f = f x
unless_refused (Err why) f = Err why

-- under a limit
abbrev pub within_or : {A : Type 0} → Refusal → ℕ → ℕ → A → Result A Refusal
within_or why n limit x = if nat_le n limit then Ok x else Err why

-- a value, or why JSON has none, as a client is told it; JSON has none for these three reasons alone
abbrev pub as_told : Result Tree CodecFault → Result Tree Refusal
as_told (Ok v) = Ok v
as_told (Err faults.TooDeep) = Err refusal.TooDeep
as_told (Err faults.NotWhole) = Err refusal.NotWhole
as_told (Err _) = Err refusal.NotHex

-- the value of JSON: its depth is asked for before its numbers, and these before the bytes that stand beside `$hex` (`read_json`)
abbrev pub value_asked : Data → Result Tree Refusal
value_asked d = as_told (read_json d)

abbrev pub message_asked : List ℕ → Data → Result codec.Call Refusal
message_asked method d = unless_refused (value_asked d) (λ v. within_or refusal.TooLong (message_length method v) message_limit
    (asks method v))

abbrev pub state_asked : Data → Result Tree Refusal
state_asked d = unless_refused (value_asked d) (λ v. within_or refusal.TooLarge (spelled_length v) state_limit v)

-- the grain that was read, if it was
abbrev pub read_or_refused : {E : Type 0} → Result Grain E → Result Grain Refusal
read_or_refused (Ok grain) = Ok grain
read_or_refused (Err e) = Err refusal.NotWellFormed

abbrev pub grain_asked : List ℕ → Result Grain Refusal
grain_asked text = read_or_refused (grain_read text)

-- what was asked for is a step, and its refusal is one too
abbrev pub step_or_refusal : Client → ℕ → Result Step Refusal → Step
step_or_refusal caller id (Ok s) = s
step_or_refusal caller id (Err why) = Refuse caller id why

-- a call with a message
abbrev pub call_with : Client → ℕ → List ℕ → codec.Call → Result Step Refusal
call_with caller id text message = unless_refused (grain_asked text) (λ grain. Ok (Call caller id grain message))

-- the message is asked for before the grain
abbrev pub call_asked : Client → ℕ → List ℕ → List ℕ → Data → Step
call_asked caller id text method d = step_or_refusal caller id (unless_refused (message_asked method d) (call_with caller id text))

-- a poke with a state; no line says that the storage is to fail
abbrev pub poke_with : Client → ℕ → List ℕ → Tree → Result Step Refusal
poke_with caller id text state = unless_refused (grain_asked text) (λ grain. Ok (Poke false caller id grain state))

-- the state is asked for before the grain
abbrev pub poke_asked : Client → ℕ → List ℕ → Data → Step
poke_asked caller id text d = step_or_refusal caller id (unless_refused (state_asked d) (poke_with caller id text))

-- ---- the forms

unfoldable pub call_of : Data → Option Step
call_of d =
    argument_at d >>= λ argument. caller_at d >>= λ caller. natural_at (codes "id") d >>= λ id. text_at (codes "grain") d >>= λ grain.
    option_map (λ method. call_asked caller id grain method argument) (text_at (codes "method") d)

unfoldable pub poke_of : Data → Option Step
poke_of d =
    where_so (has_members 5 d) (caller_at d >>= λ caller. natural_at (codes "id") d >>= λ id. text_at (codes "grain") d >>= λ grain.
    option_map (poke_asked caller id grain) (get (codes "state") d))

unfoldable pub status_of : Data → Option Step
status_of d = where_so (has_members 3 d) (caller_at d >>= λ caller. option_map (Status caller) (natural_at (codes "id") d))

-- a form with a grain alone
abbrev pub grain_form : (Grain → Step) → Data → Option Step
grain_form make d = where_so (has_members 2 d) (option_map make (grain_at d))

unfoldable pub load_of : Data → Option Step
load_of d = failed_at 2 d >>= λ failed. option_map (λ grain. Load grain failed) (grain_at d)

unfoldable pub store_of : Data → Option Step
store_of d = failed_at 3 d >>= λ failed. grain_at d >>= λ grain. option_map (λ turn. Store grain turn failed) (natural_at (codes "turn") d)

-- a grain and a turn, and nothing else beside `op`
abbrev pub turn_alone : Data → Option (Grain × ℕ)
turn_alone d = where_so (has_members 3 d) (grain_at d >>= λ grain. option_map (λ turn. (grain, turn)) (natural_at (codes "turn") d))

abbrev pub turn_form : (Grain → ℕ → Step) → Data → Option Step
turn_form make d = option_map (λ found. make found.0 found.1) (turn_alone d)

unfoldable pub tick_of : Data → Option Step
tick_of d = where_so (has_members 2 d) (option_map Tick (natural_at (codes "now") d))

unfoldable pub sweep_of : Data → Option Step
sweep_of d = where_so (has_members 1 d) (Some Sweep)

-- by the text of `op`
unfoldable pub form_of : List ℕ → Data → Option Step
form_of op d =
    if bytes_eq op (codes "call") then call_of d
    else if bytes_eq op (codes "poke") then poke_of d
    else if bytes_eq op (codes "status") then status_of d
    else if bytes_eq op (codes "deliver") then grain_form Deliver d
    else if bytes_eq op (codes "activate") then grain_form Activate d
    else if bytes_eq op (codes "load") then load_of d
    else if bytes_eq op (codes "begin") then grain_form Begin d
    else if bytes_eq op (codes "store") then store_of d
    else if bytes_eq op (codes "end") then turn_form End d
    else if bytes_eq op (codes "abandon") then turn_form Abandon d
    else if bytes_eq op (codes "tick") then tick_of d
    else if bytes_eq op (codes "sweep") then sweep_of d
    else None

unfoldable pub step_of_json : Data → Option Step
step_of_json d = text_at (codes "op") d >>= λ op. form_of op d
