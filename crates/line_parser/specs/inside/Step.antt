-- The forms of a line, and what is found of the members that they have.
use Rattle.std.specs.Prelude.{◌≡◌, ℕ, ◌<◌, ◌^◌, ◌==◌, Bool, true, false, List, Option, Some, None, option_map, IfSome, codes}
use Rattle.serde_json.specs.Data.{Data}
use Rattle.serde_json.specs.Find.{get}
use Rattle.serde_json.specs.View.{view}
use Rattle.silo_event.specs.declared.refusal.Refusal.{Refusal}
use Rattle.silo_event.specs.declared.step.Step.{Step}
use Rattle.silo_event.specs.declared.step.Step.TheVariants as step
use Rattle.line_parser.specs.Form.{text_at, natural_at, truth_at, has_members, call_of, poke_of, status_of, grain_form, load_of}
use Rattle.line_parser.specs.Form.{store_of, turn_form, tick_of, sweep_of}
use Rattle.line_parser.specs.inside.LineMembers.{IsAsked}
use Rattle.line_parser.specs.declared.line_members.LineMembers.{LineMembers}
use Rattle.line_parser.specs.declared.line_members.ValueIn.{ValueIn}
use Rattle.line_parser.specs.declared.line_members.ValueIn.TheVariants.{Bytes, Json}
use Rattle.line_parser.specs.declared.step.Form.{Form}
use Rattle.line_parser.specs.declared.step.Form.TheVariants as form

abbrev pub form_text : Form → List ℕ
form_text form.Call = codes "call"
form_text form.Poke = codes "poke"
form_text form.Status = codes "status"
form_text form.Deliver = codes "deliver"
form_text form.Activate = codes "activate"
form_text form.Load = codes "load"
form_text form.Begin = codes "begin"
form_text form.Store = codes "store"
form_text form.End = codes "end"
form_text form.Abandon = codes "abandon"
form_text form.Tick = codes "tick"
form_text form.Sweep = codes "sweep"

-- what a form says of JSON
abbrev pub of_form : Form → Data → Option Step
of_form form.Call d = call_of d
of_form form.Poke d = poke_of d
of_form form.Status d = status_of d
of_form form.Deliver d = grain_form step.Deliver d
of_form form.Activate d = grain_form step.Activate d
of_form form.Load d = load_of d
of_form form.Begin d = grain_form step.Begin d
of_form form.Store d = store_of d
of_form form.End d = turn_form step.End d
of_form form.Abandon d = turn_form step.Abandon d
of_form form.Tick d = tick_of d
of_form form.Sweep d = sweep_of d

-- nothing, if there is no form
abbrev pub said_by : Option Form → Data → Option Step
said_by None d = None
said_by (Some form) d = of_form form d

-- what is known of the JSON of a value: its bytes, or why it is refused; or the JSON itself
abbrev pub IsValue : ValueIn → Option Refusal → Data → Type 0
IsValue (Bytes b) why json = IsAsked why json b.now
IsValue (Json v) why json = json ≡ view v.now

-- the same of a member, if it is there
abbrev pub IsValueOf : ValueIn → Bool → Option Refusal → Option Data → Type 0
IsValueOf a true why o = (json : Data) × (o ≡ Some json) × IsValue a why json
IsValueOf a false why o = o ≡ None

-- The members of JSON, each of the type that the forms ask for, with a value elsewhere. An argument is looked for among
-- six members, a state among five: no form has one among more or less.
pub record AreMembersOf (d : Data) (s : LineMembers) (a : ValueIn) : Type 0 where
  pub op : text_at (codes "op") d ≡ option_map (λ t. t.now) s.op
  pub from : text_at (codes "from") d ≡ option_map (λ t. t.now) s.from
  pub grain : text_at (codes "grain") d ≡ option_map (λ t. t.now) s.grain
  pub method : text_at (codes "method") d ≡ option_map (λ t. t.now) s.method
  pub id : natural_at (codes "id") d ≡ s.id
  pub turn : natural_at (codes "turn") d ≡ s.turn
  pub moment : natural_at (codes "now") d ≡ s.moment
  pub within : IfSome s.moment (λ n. n < 2 ^ 63)
  pub failed : truth_at (codes "failed") d ≡ s.failed
  pub args : has_members 6 d ≡ true → IsValueOf a s.args s.refusal (get (codes "args") d)
  pub state : has_members 5 d ≡ true → IsValueOf a s.state s.refusal (get (codes "state") d)
  pub count : (n : ℕ) → has_members n d ≡ (s.count == n)

-- this is found, or nothing is, in the JSON whose members were taken, with a value elsewhere
abbrev pub FindsIn : {A : Type 0} → LineMembers → ValueIn → (Data → Option A) → Option A → Type 0
FindsIn s a f o = (d : Data) → AreMembersOf d s a → f d ≡ o

-- the same, whatever the value is
abbrev pub Finds : {A : Type 0} → LineMembers → (Data → Option A) → Option A → Type 0
Finds s f o = (a : ValueIn) → FindsIn s a f o
