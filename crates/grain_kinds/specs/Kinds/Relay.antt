-- The kind `relay`: at most 4 distinct grains, its members. Its state is the list of their texts; a state of another
-- shape counts as the empty list.
--
--   method   since   argument                       state                    answer
--   join     1       {"grain": text}                the grain added last     true; otherwise, with the state kept, Misfit
--   where it is no grain's text, false where it is a member, OutOfRange where 4 others are
--   leave    1       {"grain": text}                the grain left out       whether it was a member
--   send     1       {"args": any, "method": text}  kept                     the number of members; each is sent that method and args, in order
pub mod Laws
use Rattle.std.specs.Prelude.{ℕ, Bool, true, false, not, ◌&&◌, ◌||◌, List, [], ◌∷◌, ◌++◌, length, map, nat_lt, Option, Some, None}
use Rattle.std.specs.Prelude.{option_map, option_and_then, Result, Ok, Err, pos, if◌then◌else◌, codes}
use Rattle.std.specs.Option.{unwrap_or}
use Rattle.grain_id.specs.Names.{Grain, grain_text, same_text}
use Rattle.grain_id.specs.Reading.{grain_read}
use Rattle.grain_id.specs.declared.fault.IdFault.{IdFault}
use Rattle.request_codec.specs.Call.{asks}
use Rattle.request_codec.specs.Tree.{Tree, truth, integer, text, list, Members, no_members, member, members_count, members_of}
use Rattle.grain_logic.specs.declared.fault.MethodFault.TheVariants.{OutOfRange}
use Rattle.grain_logic.specs.Laws.{send_limit}
use Rattle.grain_logic.specs.Logic.{Plan, Outgoing, asks_nothing, same}
use Rattle.grain_logic.specs.Tables.{Kind, Method, changes}
use Rattle.grain_kinds.specs.Kinds.EveryKind.{every_kind}
use Rattle.grain_logic.specs.Shared.{keeps, becomes, for_shape, text_value, text_field, only_fields}

-- how many members a relay may have: a turn may send to each
abbrev pub member_limit : ℕ
member_limit = send_limit

-- what was read, where the text is well formed
abbrev pub grain_found : Result Grain IdFault → Option Grain
grain_found (Ok g) = Some g
grain_found (Err fault) = None

-- the grain of which this is the text
abbrev pub grain_named : List ℕ → Option Grain
grain_named s = grain_found (grain_read s)

-- the grain of which the value is the text
abbrev pub grain_value : Tree → Option Grain
grain_value v = option_and_then grain_named (text_value v)

-- the grains of which the values are the texts, where each is the text of one
abbrev pub grains_in : Members → Option (List Grain)
grains_in no_members = Some []
grains_in (member v vs) = option_and_then (λ g. option_map (λ gs. g ∷ gs) (grains_in vs)) (grain_value v)

-- whether it is the text of one of these
abbrev pub names_one : List ℕ → List Grain → Bool
names_one s [] = false
names_one s (g ∷ gs) = same_text (grain_text g) s || names_one s gs

-- whether none stands twice
abbrev pub are_distinct : List Grain → Bool
are_distinct [] = true
are_distinct (g ∷ gs) = not (names_one (grain_text g) gs) && are_distinct gs

-- the grains, if none stands twice
abbrev pub if_distinct : List Grain → List Grain
if_distinct gs = if are_distinct gs then gs else []

-- the members of a relay
abbrev pub members_in : Tree → List Grain
members_in (list vs) = if nat_lt member_limit (members_count vs) then [] else if_distinct (unwrap_or (grains_in vs) [])
members_in _ = []

-- the text of a grain, as a value
abbrev pub text_of : Grain → Tree
text_of g = text (grain_text g)

-- the state of a relay with these members
abbrev pub relay_of : List Grain → Tree
relay_of gs = list (members_of (map text_of gs))

-- the members of which it isn't the text
abbrev pub without : List ℕ → List Grain → List Grain
without s [] = []
without s (g ∷ gs) = if same_text (grain_text g) s then without s gs else g ∷ without s gs

-- the grain joins these members
abbrev pub joined_plan : Tree → List Grain → Grain → Plan
joined_plan state members g =
    if names_one (grain_text g) members then keeps state (Ok (truth false))
    else if nat_lt (length members) member_limit then becomes (relay_of (members ++ g ∷ [])) (truth true)
    else keeps state (Err OutOfRange)

abbrev pub join_plan : Tree → List ℕ → Plan
join_plan state s = for_shape state (grain_named s) (joined_plan state (members_in state))

abbrev pub leave_plan : Tree → List ℕ → Plan
leave_plan state s = becomes (relay_of (without s (members_in state))) (truth (names_one s (members_in state)))

-- the same call to each of these
abbrev pub sends_to : List Grain → List ℕ → Tree → List Outgoing
sends_to members method args = map (λ g. record { target = g; call = asks method args }) members

abbrev pub send_plan : Tree → Tree × List ℕ → Plan
send_plan state send = record {
  state = state;
  outcome = Ok (integer (pos (length (members_in state))));
  storage = asks_nothing;
  sends = sends_to (members_in state) send.1 send.0;
  keep = same;
}

-- `{"args": any, "method": text}`
abbrev pub send_argument : Tree → Option (Tree × List ℕ)
send_argument argument =
    option_and_then (λ values. option_map (λ method. (values.0, method)) (text_value values.1))
    (only_fields (codes "args") (codes "method") argument)

unfoldable pub relay_methods : List Method
relay_methods =
    changes (codes "join") 1 (λ state argument. for_shape state (text_field (codes "grain") argument) (join_plan state))
    ∷ changes (codes "leave") 1 (λ state argument. for_shape state (text_field (codes "grain") argument) (leave_plan state))
    ∷ changes (codes "send") 1 (λ state argument. for_shape state (send_argument argument) (send_plan state)) ∷ every_kind

abbrev pub relay : Kind
relay = record { word = codes "relay"; since = 1; empty = list no_members; methods = relay_methods }
