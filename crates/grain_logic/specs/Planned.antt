-- The plan that a plan in an arena shows.
use Rattle.std.specs.Prelude.{map, option_map, Result, Ok, Err, IfOk, IfSome}
use Rattle.std.specs.List.{AllByRecursion}
use Rattle.std.specs.Option.{unwrap_or}
use Rattle.request_codec.specs.Call.{asks}
use Rattle.request_codec.specs.Tree.{Tree}
use Rattle.turn_arena.specs.NodeValue.{node_value}
use Rattle.turn_arena.specs.declared.node.Node.{Node}
use Rattle.grain_logic.specs.Laws.{FitsState, FitsMessage}
use Rattle.grain_logic.specs.Logic as logic
use Rattle.grain_logic.specs.Logic.{Outgoing, StorageCall, asks_nothing, reads_row, writes_row, clears_row}
use Rattle.grain_logic.specs.declared.fault.MethodFault.{MethodFault}
use Rattle.grain_logic.specs.declared.plan.Keep.{Keep}
use Rattle.grain_logic.specs.declared.plan.Keep.TheVariants as keeps
use Rattle.grain_logic.specs.declared.plan.Plan.{Plan}
use Rattle.grain_logic.specs.declared.plan.Send.{Send}
use Rattle.grain_logic.specs.declared.plan.StoreCall.{StoreCall}
use Rattle.grain_logic.specs.declared.plan.StoreCall.TheVariants as calls

abbrev pub storage_call : StoreCall → StorageCall
storage_call calls.None = asks_nothing
storage_call calls.Read = reads_row
storage_call calls.Write = writes_row
storage_call calls.Clear = clears_row

abbrev pub keep_of : Keep → logic.Keep
keep_of keeps.Same = logic.same
keep_of keeps.Rest = logic.rest
keep_of (keeps.Stay time) = logic.stay time

abbrev pub send_shown : Send → Outgoing
send_shown s = record { target = s.target; call = asks s.method.now (node_value s.args) }

abbrev pub outcome_shown : Result Node MethodFault → Result Tree MethodFault
outcome_shown (Ok n) = Ok (node_value n)
outcome_shown (Err fault) = Err fault

-- The state stays where there is no other.
abbrev pub plan_shown : Tree → Plan → logic.Plan
plan_shown state p = record {
  state = unwrap_or (option_map node_value p.state) state;
  outcome = outcome_shown p.outcome;
  storage = storage_call p.store;
  sends = map send_shown p.sends.items;
  keep = keep_of p.keep;
}

-- The values of the plan keep their limits.
pub record NodesFit (p : Plan) : Type 0 where
  pub state_fits : IfSome p.state (λ n. FitsState (node_value n))
  pub outcome_fits : IfOk p.outcome (λ n. FitsState (node_value n))
  pub sends_fit : AllByRecursion (λ s. FitsMessage (asks s.method.now (node_value s.args))) p.sends.items
