-- The plan that a finished turn holds.
use Rattle.std.specs.Prelude.{ℕ, Bool, map, refl}
use Rattle.std.specs.Option.{unwrap_or}
use Rattle.std.specs.Coded.{Coded, code_by, coded×, coded_ℕ, coded_bool}
use Rattle.grain_id.specs.Names.{Grain, coded_grain}
use Rattle.request_codec.specs.Call.{Call, coded_call}
use Rattle.request_codec.specs.Code.{coded_tree}
use Rattle.request_codec.specs.Tree.{Tree}
use Rattle.grain_logic.specs.Logic.{Logic, Plan, Outgoing}
use Rattle.grain_logic.specs.Planned.{storage_call, keep_of}
use Rattle.silo_event.specs.declared.opened_turn.OpenedTurn.{OpenedTurn}
use Rattle.grain_logic.specs.declared.turn.OwnedPlan.{OwnedPlan}

abbrev pub sent : Grain × Call → Outgoing
sent s = record { target = s.0; call = s.1 }

-- The state stays where there is no other.
abbrev pub planned_shown : Tree → OwnedPlan → Plan
planned_shown state p = record {
  state = unwrap_or p.state state;
  outcome = p.outcome;
  storage = storage_call p.store;
  sends = map sent p.sends.items;
  keep = keep_of p.keep;
}

abbrev pub coded_turn : Coded OpenedTurn
coded_turn =
    code_by (Grain × (ℕ × (Bool × (Tree × Call)))) (coded× coded_grain (coded× coded_ℕ (coded× coded_bool (coded× coded_tree coded_call))))
    (λ t. (t.grain, (t.number, (t.reading, (t.state, t.message)))))
    (λ p. record { grain = p.0; number = p.1.0; reading = p.1.1.0; state = p.1.1.1.0; message = p.1.1.1.1 })
    (λ _. refl)

-- the plan of a message at a grain in this state: its method's, on the state and the argument
abbrev pub plan_at : Logic → Grain → Tree → Call → Plan
plan_at logic grain state message = logic.plan grain.kind message.method state message.argument

-- the plan of a turn
abbrev pub turn_plan : Logic → OpenedTurn → Plan
turn_plan logic t = plan_at logic t.grain t.state t.message
