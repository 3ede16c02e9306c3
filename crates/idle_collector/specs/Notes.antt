-- The moments from which grains are due to go, and which of them are due.
use Rattle.std.specs.Prelude.{◌≡◌, ℕ, Bool, false, nat_le, List, Option, Some, None, refl}
use Rattle.std.specs.Coded.{Coded, code_by, coded×, coded_ℕ, coded_option}
use Rattle.std.specs.FinMap as map
use Rattle.std.specs.FinMap.{FinMap}
use Rattle.std.specs.List.{list_any, IsDistinct}
use Rattle.grain_id.specs.Names.{Grain, grain_cmp, grain_eq, coded_grain}

-- What a collector holds: the moment from which each grain that is noted is due.
abbrev pub Notes : Type 0
Notes = FinMap grain_cmp ℕ

-- notes are stored as their entries
abbrev pub coded_notes : Coded Notes
coded_notes = map.code coded_grain coded_ℕ

-- What a collector is: its notes, and the grain that is expected, for whose note there is room.
pub record Collection : Type 0 where
  pub notes : Notes
  pub expected : Option Grain

abbrev pub coded_collection : Coded Collection
coded_collection = code_by (Notes × Option Grain) (coded× coded_notes (coded_option coded_grain)) (λ c. (c.notes, c.expected))
    (λ p. record { notes = p.0; expected = p.1 }) (λ _. refl)

-- the grain is due from then on
abbrev pub noted : Notes → Grain → ℕ → Notes
noted notes grain moment = map.insert notes grain moment

-- the same, if there is a grain
abbrev pub noted_if : Notes → Option Grain → ℕ → Notes
noted_if notes None moment = notes
noted_if notes (Some grain) moment = noted notes grain moment

-- nothing is noted of the grain
abbrev pub forgotten : Notes → Grain → Notes
forgotten notes grain = map.remove notes grain

-- noted, and the moment has come
abbrev pub is_due : ℕ → Option ℕ → Bool
is_due now None = false
is_due now (Some moment) = nat_le moment now

-- the grains that are due, ascending
abbrev pub due : Notes → ℕ → List Grain
due notes now = map.keys (map.retain_keys notes (λ grain. is_due now (map.get notes grain)))

-- Each grain that is due stands in the list once, and no other grain does.
pub record HoldsDue (notes : Notes) (now : ℕ) (grains : List Grain) : Type 0 where
  pub once : IsDistinct grain_eq grains
  pub each : (grain : Grain) → list_any (grain_eq grain) grains ≡ is_due now (map.get notes grain)
