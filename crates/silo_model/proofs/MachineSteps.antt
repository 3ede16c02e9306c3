-- What holds after a step of a machine, by whether its tenant takes it or nobody.
use Rattle.silo_model.proofs.Common.{if◌then◌else◌, ◌≡◌, Effect, Logic, Machine, None, Some, Step, Sweep, Tick, applied, context_at}
use Rattle.silo_model.proofs.Common.{effect_of, grain_of, machine_step, nat_le, none-some, option_map, owner_of, same_Some, shared_step}
use Rattle.silo_model.proofs.Common.{subst, ℕ}
use Rattle.silo_model.specs.Step.{step_by, swept}
use Rattle.silo_model.proofs.EffectKinds.{Does, effect_kind, role_of}
use Rattle.silo_model.proofs.Tests.{on_found, on_test}

module _ (logic : Logic) (m new : Machine) (P : Step → Machine → Type 0) (ticks : (now : ℕ) → P (Tick now) (record m { clock = now }))
    (sweeps : P Sweep (swept m)) where
  by_shared : (s : Step) → shared_step m s ≡ Some new → P s new
  by_shared (Tick now) h =
      on_test (λ b. (if b then Some (record m { clock = now }) else None) ≡ Some new → P (Tick now) new) (nat_le m.clock now)
      (λ _ e. subst (P (Tick now)) (same_Some _ new e) (ticks now)) (λ _ e. absurd (none-some new e)) h
  by_shared Sweep h = subst (P Sweep) (same_Some _ new h) sweeps
  by_shared _ h = absurd (none-some new h)

  pub by_machine_step : (s : Step)
      → ((e : Effect) → Does logic (context_at m (grain_of m.account s)) s (role_of s) (grain_of m.account s) e → P s (applied m (grain_of m.account s) e))
      → machine_step logic m s ≡ Some new → P s new
  unfolding machine_step context_at
  by_machine_step s does h =
      let place = grain_of m.account s in
      on_found (λ o. step_by logic m s o ≡ Some new → P s new) (owner_of s) (λ _. by_shared s)
      (λ owner _.
      on_found (λ r. option_map (applied m place) r ≡ Some new → P s new) (effect_of logic (context_at m place) s)
      (λ _ e. absurd (none-some new e))
      (λ e is k. subst (P s) (same_Some _ new k) (does e (effect_kind logic (context_at m place) s e is)))) h
