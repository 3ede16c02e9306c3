-- No step looks at the replies that were made before it.
use Rattle.silo_model.proofs.Common.{◌++◌, ◌∙◌, ◌∷◌, ◌≡◌, Effect, Grain, List, Logic, None, Option, Reply, Some, Step, Whole, [], all_done, ap}
use Rattle.silo_model.proofs.Common.{append_assoc, cond, context_at, effect_of, grain_of, nat_le, option_and_then, option_map, owner_of, refl, shown_to}
use Rattle.silo_model.proofs.Common.{spread, sym, whole_step, ℕ}
use Rattle.std.specs.FinMap as map
use Rattle.silo_event.specs.declared.step.Step.TheVariants.{Sweep, Tick}
use Rattle.silo_model.specs.Whole.{whole_owned_step, whole_shared_step, whole_step_by}
use Rattle.silo_model.specs.Segments.{told_before}
use Rattle.silo_model.proofs.Tests.{on_test}

module _ (logic : Logic) (rs : List Reply) (w : Whole) where
  framed_effect : (owner : List ℕ) (grain : Option Grain) (e : Option Effect) → option_map (spread (told_before rs w) owner grain) e ≡ option_map (told_before rs) (option_map (spread w owner grain) e)
  unfolding spread
  framed_effect owner grain None = refl
  framed_effect owner grain (Some e) = ap (λ replies. Some (record (spread w owner grain e) { replies = replies })) (append_assoc rs w.replies e.replies)

  framed_owned : (s : Step) (owner : List ℕ) (grain : Option Grain) → whole_owned_step logic (told_before rs w) s owner grain ≡ option_map (told_before rs) (whole_owned_step logic w s owner grain)
  unfolding context_at shown_to
  framed_owned s owner grain = framed_effect owner grain (effect_of logic (context_at (shown_to owner w) grain) s)

  framed_shared : (s : Step) → whole_shared_step (told_before rs w) s ≡ option_map (told_before rs) (whole_shared_step w s)
  framed_shared (Tick now) =
      on_test (λ b. cond b (Some (record (told_before rs w) { clock = now })) None ≡ option_map (told_before rs) (cond b (Some (record w { clock = now })) None))
      (nat_le w.clock now) (λ _. refl) (λ _. refl)
  framed_shared Sweep = refl
  framed_shared _ = refl

  framed_by : (s : Step) (o : Option (List ℕ)) → whole_step_by logic (told_before rs w) s o ≡ option_map (told_before rs) (whole_step_by logic w s o)
  framed_by s None = framed_shared s
  framed_by s (Some owner) = framed_owned s owner (grain_of (map.get w.accounts owner) s)

  pub framed_step : (s : Step) → whole_step logic (told_before rs w) s ≡ option_map (told_before rs) (whole_step logic w s)
  unfolding whole_step
  framed_step s = framed_by s (owner_of s)

module _ (logic : Logic) (rs : List Reply) where
  next_framed : (steps : List Step) (o : Option Whole)
      → ((w : Whole) → all_done logic (told_before rs w) steps ≡ option_map (told_before rs) (all_done logic w steps))
      → option_and_then (λ x. all_done logic x steps) (option_map (told_before rs) o) ≡ option_map (told_before rs) (option_and_then (λ x. all_done logic x steps) o)
  next_framed steps None on = refl
  next_framed steps (Some w) on = on w

  pub framed_all : (w : Whole) (steps : List Step) → all_done logic (told_before rs w) steps ≡ option_map (told_before rs) (all_done logic w steps)
  framed_all w [] = refl
  framed_all w (s ∷ steps) =
      ap (option_and_then (λ x. all_done logic x steps)) (framed_step logic rs w s)
      ∙ next_framed steps (whole_step logic w s) (λ x. framed_all x steps)
