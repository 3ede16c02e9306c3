-- A storage of which one call fails.
use Rattle.std.specs.Prelude.{◌≡◌, ℕ, ◌+◌, ◌↔◌, ◌&&◌, nat_lt, nat_le, min, if◌then◌else◌, refl, Result, Ok, Err}
use Rattle.std.specs.Coded.{Coded, code_by, coded×, coded_ℕ}
use Rattle.grain_storage.specs.declared.fault.StoreFault.{StoreFault}
use Rattle.grain_storage.specs.declared.fault.StoreFault.TheVariants.{Failed, Stale, Spent, Memory}
use Rattle.grain_storage.specs.Rows.{Rows, coded_rows}
use Rattle.grain_storage.specs.Answers.{last_count}

-- the rows, which call fails (counted from 1), and how many calls were made
pub record Fused : Type 0 where
  pub rows : Rows
  pub fails_at : ℕ
  pub made : ℕ

abbrev pub coded_fused : Coded Fused
coded_fused =
    code_by (Rows × (ℕ × ℕ)) (coded× coded_rows (coded× coded_ℕ coded_ℕ)) (λ f. (f.rows, (f.fails_at, f.made)))
    (λ p. record { rows = p.0; fails_at = p.1.0; made = p.1.1 }) (λ _. refl)

-- Every call is counted but those that answer Memory. The count is a u64, and stays at its last value.
abbrev pub made_after : {A : Type 0} → Result A StoreFault → ℕ → ℕ
made_after (Ok answer) made = min (made + 1) last_count
made_after (Err Failed) made = min (made + 1) last_count
made_after (Err (Stale found)) made = min (made + 1) last_count
made_after (Err Spent) made = min (made + 1) last_count
made_after (Err Memory) made = made

-- One failure, from the failing call on.
abbrev pub failures_of : Fused → ℕ
failures_of storage = if nat_lt 0 storage.fails_at && nat_le storage.fails_at storage.made then 1 else 0

-- The call fails where it is the failing one, and nowhere else.
pub record IsFusedCall {A : Type 0} (before : Fused) (result : Result A StoreFault) (after : Fused) : Type 0 where
  pub same : after.fails_at ≡ before.fails_at
  pub counted : after.made ≡ made_after result before.made
  pub fails : (result ≡ Err Failed) ↔ (before.made + 1 ≡ before.fails_at)
