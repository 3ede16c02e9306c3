-- A step leaves whose machine it is.
use Rattle.silo_model.proofs.Common.{◌≡◌, Bool, Effect, Err, Grain, List, Logic, Machine, None, Ok, Option, Result, Some, Step, Sweep, Tick, ap, applied, context_at, effect_of, false, grain_of, if◌then◌else◌, machine_step, nat_le, option_map, owner_of, same_Some, shared_step, sym, true, ℕ}
use Rattle.silo_model.specs.Step.{step_by, swept}
use Rattle.tenant_machine.specs.Machines.{StepAnswers}

module _ (m new : Machine) where
  own_step : (g : Option Grain) (e : Option Effect) → option_map (applied m g) e ≡ Some new → new.tenant ≡ m.tenant
  unfolding applied
  own_step g None is = absurd cc
  own_step g (Some e) is = ap (λ (x : Machine). x.tenant) (sym (same_Some (applied m g e) new is))

  tick_step : (now : ℕ) (on : Bool) → (if on then Some (record m { clock = now }) else None) ≡ Some new → new.tenant ≡ m.tenant
  tick_step now true is = ap (λ (x : Machine). x.tenant) (sym (same_Some (record m { clock = now }) new is))
  tick_step now false is = absurd cc

  step_of_nobody : (s : Step) → shared_step m s ≡ Some new → new.tenant ≡ m.tenant
  step_of_nobody (Tick now) is = tick_step now (nat_le m.clock now) is
  step_of_nobody Sweep is = ap (λ (x : Machine). x.tenant) (sym (same_Some (swept m) new is))
  step_of_nobody _ is = absurd cc

  step_tenant : (logic : Logic) (s : Step) → machine_step logic m s ≡ Some new → new.tenant ≡ m.tenant
  unfolding machine_step
  step_tenant logic s is = by (owner_of s) is
    where
      by : (owner : Option (List ℕ)) → step_by logic m s owner ≡ Some new → new.tenant ≡ m.tenant
      by None e = step_of_nobody s e
      by (Some owner) e = own_step (grain_of m.account s) (effect_of logic (context_at m (grain_of m.account s)) s) e

  pub same_tenant : {E : Type 0} (logic : Logic) (s : Step) (r : Result Bool E) → StepAnswers logic m s r new → new.tenant ≡ m.tenant
  same_tenant logic s (Ok true) is = step_tenant logic s is
  same_tenant logic s (Ok false) is = ap (λ (x : Machine). x.tenant) is.1
  same_tenant logic s (Err e) is = ap (λ (x : Machine). x.tenant) is
