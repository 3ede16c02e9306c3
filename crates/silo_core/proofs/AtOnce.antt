-- Three steps in one: what a silo's state makes of them is what the silo does.
use Rattle.std.proofs.Common.{◌≡◌, ℕ, ◌+◌, List, [], ◌∷◌, ◌++◌, refl, sym, ◌∙◌, subst, arith}
use Rattle.std.specs.Prelude.{Ok}
use Rattle.grain_id.specs.Names.{Grain}
use Rattle.silo_event.specs.declared.step.Step.{Step}
use Rattle.silo_event.specs.declared.step.Step.TheVariants.{Begin, End}
use Rattle.silo_event.specs.declared.step.Answer.TheVariants.{Done}
use Rattle.grain_logic.specs.Logic.{Logic}
use Rattle.silo_model.specs.Opening.{Setup}
use Rattle.silo_model.specs.Journal.{LeadsTo}
use Rattle.silo_state.specs.inside.Held.{Held}
use Rattle.silo_state.specs.Moves.{Moves}
use Rattle.silo_state.specs.AtOnce as state
use Rattle.silo_core.specs.History.{History, Advances}
use Rattle.silo_core.specs.AtOnce.{Calls, Serves}
use Rattle.silo_core.proofs.Moved.{moves_lead}

module _ (logic : Logic) (setup : Setup) (at_opening : ℕ) where
  abbrev shown : List Step → Held → History
  shown journal h = record { setup = setup; whole = h.whole; journal = journal; failures = record { at_opening = at_opening; now = h.failures } }

  -- a step that was done
  advances : (journal : List Step) (old new : Held) (s : Step) → Moves logic old s (Ok Done) new → Advances logic (shown journal old) s 0 (shown (journal ++ s ∷ []) new)
  advances journal old new s moves = record {
    setup = refl;
    whole = moves.0;
    journal = refl;
    failures = λ i. record { at_opening = at_opening; now = (moves.1 ∙ none) i };
  }
    where
      none : old.failures ≡ old.failures + 0
      none = omega arith

  module _ (journal after : List Step) (old new : Held) (s : Step) (g : Grain) (turn : ℕ) (d : state.Serves logic old s g turn new)
      (grown : after ≡ ((journal ++ s ∷ []) ++ Begin g ∷ []) ++ End g turn ∷ []) where
    pub serves : Calls s g → Serves logic (shown journal old) s (shown after new)
    serves is = subst (λ (j : List Step). Serves logic (shown journal old) s (shown j new)) (sym grown) (record {
      grain = g;
      turn = turn;
      called = shown (journal ++ s ∷ []) d.called;
      begun = shown ((journal ++ s ∷ []) ++ Begin g ∷ []) d.begun;
      is_call = is;
      calls = advances journal old d.called s d.calls;
      untold = d.untold;
      waits = d.waits;
      begins = advances (journal ++ s ∷ []) d.called d.begun (Begin g) d.begins;
      ends = advances ((journal ++ s ∷ []) ++ Begin g ∷ []) d.begun new (End g turn) d.ends;
    })

    pub serves_lead : LeadsTo logic setup journal old.whole → LeadsTo logic setup after new.whole
    serves_lead leads =
        moves_lead logic setup ((journal ++ s ∷ []) ++ Begin g ∷ []) after d.begun new (End g turn) Done
        (moves_lead logic setup (journal ++ s ∷ []) _ d.called d.begun (Begin g) Done
        (moves_lead logic setup journal _ old d.called s Done leads d.calls refl) d.begins refl) d.ends grown
