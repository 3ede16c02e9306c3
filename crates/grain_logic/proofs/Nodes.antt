-- The values of a plan keep their limits, where the plan that it shows keeps them.
use Rattle.std.proofs.Common.{◌≡◌, List, [], ◌∷◌, Option, Some, None, Result, Ok, Err, map, option_map, IfOk, IfSome, sym, subst}
use Rattle.std.specs.List.{AllByRecursion}
use Rattle.std.specs.Option.{unwrap_or}
use Rattle.request_codec.specs.Call.{asks}
use Rattle.request_codec.specs.Tree.{Tree}
use Rattle.turn_arena.specs.NodeValue.{node_value}
use Rattle.turn_arena.specs.declared.node.Node.{Node}
use Rattle.grain_logic.specs.Laws.{FitsState, FitsMessage, FitsSend, KeepsLimits}
use Rattle.grain_logic.specs.Logic as logic
use Rattle.grain_logic.specs.Planned.{outcome_shown, send_shown, plan_shown, NodesFit}
use Rattle.grain_logic.specs.declared.fault.MethodFault.{MethodFault}
use Rattle.grain_logic.specs.declared.plan.Plan.{Plan}
use Rattle.grain_logic.specs.declared.plan.Send.{Send}

next_fits : (next : Option Node) (state : Tree) → FitsState (unwrap_or (option_map node_value next) state) → IfSome next (λ n. FitsState (node_value n))
next_fits None state h = tt
next_fits (Some n) state h = h

outcome_fits : (outcome : Result Node MethodFault) → IfOk (outcome_shown outcome) FitsState → IfOk outcome (λ n. FitsState (node_value n))
outcome_fits (Ok n) h = h
outcome_fits (Err fault) h = tt

sends_fit : (sends : List Send) → AllByRecursion FitsSend (map send_shown sends) → AllByRecursion (λ s. FitsMessage (asks s.method.now (node_value s.args))) sends
sends_fit [] h = tt
sends_fit (s ∷ ss) h = (h.0.call_fits, sends_fit ss h.1)

shown_fit : (state : Tree) (p : Plan) → KeepsLimits (plan_shown state p) → NodesFit p
shown_fit state p h = record {
  state_fits = next_fits p.state state h.state_fits;
  outcome_fits = outcome_fits p.outcome h.outcome_fits;
  sends_fit = sends_fit p.sends.items h.sends_fit;
}

pub nodes_fit : (state : Tree) (p : Plan) (q : logic.Plan) → plan_shown state p ≡ q → KeepsLimits q → NodesFit p
nodes_fit state p q is keeps = shown_fit state p (subst KeepsLimits (sym is) keeps)
