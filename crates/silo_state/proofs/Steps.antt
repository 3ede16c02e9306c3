-- What the state's calls come to, as steps of the whole.
use Rattle.std.proofs.Common.{◌≡◌, ℕ, Option, Some, None, is_some, true, false, List, ◌++◌, refl, ap, sym, ◌∙◌}
use Rattle.std.specs.Prelude.{Result, Ok, Err, IfOk, option_and_then}
use Rattle.std.specs.FinMap as map
use Rattle.grain_id.specs.Names.{Grain}
use Rattle.grain_logic.specs.Logic.{Logic, same}
use Rattle.silo_event.specs.declared.opened_turn.OpenedTurn.{OpenedTurn}
use Rattle.silo_event.specs.declared.step.Answer.{Answer}
use Rattle.silo_event.specs.declared.step.Answer.TheVariants.{Done, Failed, NotNow}
use Rattle.silo_event.specs.declared.step.Step.TheVariants.{Activate, Begin, Abandon}
use Rattle.silo_model.specs.Step.{effect_of}
use Rattle.silo_model.specs.Turns.{activated, opened_if_ready}
use Rattle.silo_model.specs.Whole.{whole_step}
use Rattle.silo_model.proofs.Contexts.{step_at_own}
use Rattle.silo_event.specs.declared.fault.Fault.TheVariants.{NoMemory}
use Rattle.silo_event.specs.declared.reply.Reply.{Reply}
use Rattle.silo_model.specs.Calls.{reply_to}
use Rattle.silo_model.proofs.TurnSteps.{abandon_absent, abandon_closed, abandon_turn}
use Rattle.silo_model.proofs.EntrySteps.{activate_waiting, begin_does}
use Rattle.silo_model.specs.Machine.{Entry}
use Rattle.silo_state.specs.inside.Activations.{Activations, Times}
use Rattle.silo_state.specs.inside.Held.{Held}
use Rattle.silo_state.specs.Moves.{Moves, done_if}
use Rattle.silo_state.specs.Entries.{Activates, Begins}
use Rattle.silo_state.specs.Closings.{ClosesTold}

-- the ages of all kinds
abbrev pub times_of : Held → Times
times_of h = record { clock = h.whole.clock; age = h.whole.age; ages = h.whole.ages }

-- the state with other activations
abbrev pub with_activations : Held → Activations → Held
with_activations h c = record h { whole = record h.whole { clock = c.times.clock; age = c.times.age; ages = c.times.ages; entries = c.entries } }

module _ (logic : Logic) (h : Held) (g : Grain) where
  -- no entry is possible to change so
  activate_none : option_and_then (λ e. activated e e.phase) (map.get h.whole.entries g) ≡ None → whole_step logic h.whole (Activate g) ≡ None
  unfolding effect_of
  activate_none none = step_at_own logic h.whole (Activate g) g.tenant g None refl refl refl none

  begin_none : option_and_then (λ e. opened_if_ready logic g e e.phase) (map.get h.whole.entries g) ≡ None → whole_step logic h.whole (Begin g) ≡ None
  unfolding effect_of
  begin_none none = step_at_own logic h.whole (Begin g) g.tenant g None refl refl refl none

  module _ (new : Activations) (aged : new.times ≡ times_of h) where
    pub activate_moves : (answer : Answer) → Activates h.whole.entries g answer new.entries → Moves logic h (Activate g) (Ok answer) (with_activations h new)
    activate_moves Done d = (activate_waiting logic h.whole g d.before d.found d.waits ∙ (λ i. Some (record h.whole { clock = (sym aged i).clock; age = (sym aged i).age; ages = (sym aged i).ages; entries = sym d.put i })), refl)
    activate_moves Failed d = absurd d
    activate_moves NotNow d = (activate_none d.0, (λ i. record h { whole = record h.whole { clock = (aged i).clock; age = (aged i).age; ages = (aged i).ages; entries = d.1 i } }))

    pub begin_moves : Begins logic h.whole.entries g true new.entries → Moves logic h (Begin g) (Ok Done) (with_activations h new)
    begin_moves d = (begin_does logic h.whole g d.before d.found d.after d.does ∙ (λ i. Some (record h.whole { clock = (sym aged i).clock; age = (sym aged i).age; ages = (sym aged i).ages; entries = sym d.put i })), refl)

    pub begin_stays : Begins logic h.whole.entries g false new.entries → Moves logic h (Begin g) (Ok NotNow) (with_activations h new)
    begin_stays d = (begin_none d.0, (λ i. record h { whole = record h.whole { clock = (aged i).clock; age = (aged i).age; ages = (aged i).ages; entries = d.1 i } }))

    pub begins_move : {E : Type 0} (result : Result (Option OpenedTurn) E) → IfOk result (λ turn. Begins logic h.whole.entries g (is_some turn) new.entries) → IfOk result (λ turn. Moves logic h (Begin g) (Ok (done_if turn)) (with_activations h new))
    begins_move (Ok None) d = begin_stays d
    begins_move (Ok (Some turn)) d = begin_moves d
    begins_move (Err e) d = tt

-- ---- closing a turn

module _ (logic : Logic) (h : Held) (g : Grain) (turn : ℕ) where
  -- no such turn is open
  pub abandon_none : option_and_then (λ e. map.get e.turns turn) (map.get h.whole.entries g) ≡ None → whole_step logic h.whole (Abandon g turn) ≡ None
  abandon_none none = by (map.get h.whole.entries g) refl none
    where
      by : (found : Option Entry) → map.get h.whole.entries g ≡ found → option_and_then (λ e. map.get e.turns turn) found ≡ None → whole_step logic h.whole (Abandon g turn) ≡ None
      by None is none = abandon_absent logic h.whole g turn is
      by (Some e) is none = abandon_closed logic h.whole g turn e is none

  -- the state with other activations and other replies
  abbrev pub closed_held : Activations → List Reply → Held
  closed_held c replies = record h { whole = record h.whole { clock = c.times.clock; age = c.times.age; ages = c.times.ages; entries = c.entries; replies = replies } }

  pub abandon_moves : (new : Activations) (replies : List Reply) → new.times ≡ times_of h → ClosesTold h.whole.entries h.whole.replies g turn None same h.whole.clock (Err NoMemory) new.entries replies
      → Moves logic h (Abandon g turn) (Ok Done) (closed_held new replies)
  abandon_moves new replies aged t = (
    abandon_turn logic h.whole g turn t.closes.before t.closes.found t.closes.request t.closes.open_turn
        ∙ (λ i. Some (record h.whole {
          clock = (sym aged i).clock;
          age = (sym aged i).age;
          ages = (sym aged i).ages;
          entries = sym t.closes.left i;
          replies = sym (t.told_is ∙ ap (λ s. h.whole.replies ++ reply_to s (Err NoMemory)) t.closes.sender_is) i;
        })),
    refl,
  )
