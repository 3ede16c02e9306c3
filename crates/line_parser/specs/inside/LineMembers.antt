-- What is known of the members of a line: an object as serde_json reads it, and where each of its members went.
use Rattle.std.specs.Prelude.{◌≡◌, ℕ, ◌<◌, ◌^◌, Bool, true, false, List, ◌∷◌, length, Option, Some, None, Ok, Err, option_map}
use Rattle.std.specs.Prelude.{option_and_then, if◌then◌else◌, bytes_eq, codes}
use Rattle.json.specs.Token.{Token, begin_object, number as number_token}
use Rattle.json.specs.Json.{value, if_last, read_key}
use Rattle.serde_json.specs.Data.{Data, object, string, number, boolean, unsigned, Members, put}
use Rattle.serde_json.specs.Events.{members_len}
use Rattle.serde_json.specs.Find.{get_member}
use Rattle.serde_json.specs.Read.{of_json, converted, number_of}
use Rattle.request_codec.specs.Answers.{read_json}
use Rattle.request_codec.specs.Formed.{IsFormed}
use Rattle.silo_event.specs.declared.refusal.Refusal.{Refusal}
use Rattle.silo_event.specs.declared.step.Step.{Step}
use Rattle.line_parser.specs.Form.{value_asked, step_of_json}
use Rattle.request_codec.specs.Lenient.{lenient_value}
use Rattle.request_codec.specs.Written.{spelling}
use Rattle.line_parser.specs.declared.line_members.Name.{Name}
use Rattle.line_parser.specs.declared.line_members.Name.TheVariants.{Op, From, Id, Grain, Method, Turn, Now, Failed, Args, State}
use Rattle.line_parser.specs.declared.line_members.Next.{Next}
use Rattle.line_parser.specs.declared.line_members.Next.TheVariants.{Member, Other, End, Broken}
use Rattle.line_parser.specs.declared.line_members.LineMembers.{LineMembers}

-- the name of a member
abbrev pub name_text : Name → List ℕ
name_text Op = codes "op"
name_text From = codes "from"
name_text Grain = codes "grain"
name_text Method = codes "method"
name_text Id = codes "id"
name_text Turn = codes "turn"
name_text Now = codes "now"
name_text Failed = codes "failed"
name_text Args = codes "args"
name_text State = codes "state"

-- the member that has the name
unfoldable pub named : List ℕ → Option Name
named k =
    if bytes_eq k (codes "op") then Some Op
    else if bytes_eq k (codes "from") then Some From
    else if bytes_eq k (codes "grain") then Some Grain
    else if bytes_eq k (codes "method") then Some Method
    else if bytes_eq k (codes "id") then Some Id
    else if bytes_eq k (codes "turn") then Some Turn
    else if bytes_eq k (codes "now") then Some Now
    else if bytes_eq k (codes "failed") then Some Failed
    else if bytes_eq k (codes "args") then Some Args
    else if bytes_eq k (codes "state") then Some State
    else None

-- what the tokens of an object go on with
abbrev pub IsNext : List Token → Next → List Token → Type 0
IsNext old (Member name) new = read_key old ≡ Some (Some (name_text name), new)
IsNext old Other new = (k : List ℕ) × (read_key old ≡ Some (Some k, new)) × (named k ≡ None)
IsNext old End new = read_key old ≡ Some (None, new)
IsNext old Broken new = read_key old ≡ None

-- the first token is a number that is not below 0
pub record IsNatural (old : List Token) (n : ℕ) (new : List Token) : Type 0 where
  pub text : List ℕ
  pub token : old ≡ number_token text ∷ new
  pub read : number_of text ≡ Some (unsigned n)
  pub fits : n < 2 ^ 63

-- The bytes are those of the JSON's value: nothing of it is refused.
pub record IsArgument (json : Data) (bytes : List ℕ) : Type 0 where
  pub read : read_json json ≡ Ok (lenient_value json)
  pub formed : IsFormed (lenient_value json)
  pub spelled : bytes ≡ spelling (lenient_value json)

-- what is known of the JSON of a value: its bytes, or why it is refused
abbrev pub IsAsked : Option Refusal → Data → List ℕ → Type 0
IsAsked None json bytes = IsArgument json bytes
IsAsked (Some why) json bytes = value_asked json ≡ Err why

-- what a slot holds: a text, a number that is not below 0, a truth value, or why a value is refused, if it is, and its bytes
pub data Held : Type 0 where
  a_text : List ℕ → Held
  a_number : ℕ → Held
  a_truth : Bool → Held
  a_value : Option Refusal → List ℕ → Held

-- of which JSON that is
abbrev pub IsHeld : Held → Data → Type 0
IsHeld (a_text s) json = json ≡ string s
IsHeld (a_number n) json = (json ≡ number (unsigned n)) × (n < 2 ^ 63)
IsHeld (a_truth b) json = json ≡ boolean b
IsHeld (a_value why l) json = IsAsked why json l

-- what a slot says of the member that it is for: an empty one, that there is none
abbrev pub Holds : Option Held → Option Data → Type 0
Holds None o = o ≡ None
Holds (Some held) o = (json : Data) × (o ≡ Some json) × IsHeld held json

-- bytes that were put elsewhere, if they were
abbrev pub put_bytes : Bool → Option Refusal → List ℕ → Option Held
put_bytes true why l = Some (a_value why l)
put_bytes false why l = None

-- the slot of each member; the bytes of a value were put elsewhere
abbrev pub slot_of : Name → LineMembers → List ℕ → Option Held
slot_of Op s l = option_map (λ t. a_text t.now) s.op
slot_of From s l = option_map (λ t. a_text t.now) s.from
slot_of Grain s l = option_map (λ t. a_text t.now) s.grain
slot_of Method s l = option_map (λ t. a_text t.now) s.method
slot_of Id s l = option_map a_number s.id
slot_of Turn s l = option_map a_number s.turn
slot_of Now s l = option_map a_number s.moment
slot_of Failed s l = option_map a_truth s.failed
slot_of Args s l = put_bytes s.args s.refusal l
slot_of State s l = put_bytes s.state s.refusal l

-- where each member went, and how many there are
pub record HoldsLineMembers (found : Members) (s : LineMembers) (l : List ℕ) : Type 0 where
  pub each : (name : Name) → Holds (slot_of name s l) (get_member (name_text name) found)
  pub count : members_len found ≡ s.count

-- one more member
pub record TakesMember (name : Name) (old new : List Token) (members_old : LineMembers) (bytes_old : List ℕ) (members_new : LineMembers)
    (bytes_new : List ℕ) : Type 0 where
  pub json : Data
  pub read : converted of_json (value 126 old) ≡ Some (json, new)
  pub holds : (found : Members) → HoldsLineMembers found members_old bytes_old
      → HoldsLineMembers (put (name_text name) json found) members_new bytes_new
  pub shorter : length new < length old

-- Of the tokens `old` a value was read, `new` is left, and its bytes are known, or why it is refused.
pub record TakesValue (old new : List Token) (why : Option Refusal) (bytes : List ℕ) : Type 0 where
  pub json : Data
  pub read : converted of_json (value 126 old) ≡ Some (json, new)
  pub asked : IsAsked why json bytes
  pub shorter : length new < length old

-- the first token begins an object
abbrev pub begins_object : List Token → Bool
begins_object (begin_object ∷ ts) = true
begins_object _ = false

-- the step that tokens ask for
abbrev pub asked_by : List Token → Option Step
asked_by ts = option_and_then step_of_json (option_and_then of_json (option_and_then (λ p. if_last p.0 p.1) (value 127 ts)))

-- the tokens are one object, whose members are known
pub record HasLineMembers (ts : List Token) (members : LineMembers) (bytes : List ℕ) : Type 0 where
  pub found : Members
  pub read : option_and_then of_json (option_and_then (λ p. if_last p.0 p.1) (value 127 ts)) ≡ Some (object found)
  pub holds : HoldsLineMembers found members bytes
