-- What a tick and a sweep come to.
use Rattle.silo_model.proofs.Common.{if◌then◌else◌, ◌≡◌, Logic, None, Some, Sweep, Tick, Whole, ap, false, kept_entries, kind_age, nat_le}
use Rattle.silo_model.proofs.Common.{refl, true, whole_step, ℕ}

module _ (logic : Logic) (w : Whole) where
  -- the clock goes on
  pub tick_on : (now : ℕ) → nat_le w.clock now ≡ true → whole_step logic w (Tick now) ≡ Some (record w { clock = now })
  unfolding whole_step
  tick_on now on = ap (λ b. if b then Some (record w { clock = now }) else None) on

  -- and never back
  pub tick_back : (now : ℕ) → nat_le w.clock now ≡ false → whole_step logic w (Tick now) ≡ None
  unfolding whole_step
  tick_back now back = ap (λ b. if b then Some (record w { clock = now }) else None) back

  -- the entries that are due go
  pub sweep_is : whole_step logic w Sweep ≡ Some (record w { entries = kept_entries w.clock (kind_age w.ages w.age) w.entries })
  unfolding whole_step
  sweep_is = refl
