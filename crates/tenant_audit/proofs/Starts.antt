-- A tenant's machine at its start.
use Rattle.silo_model.proofs.Common.{[], ◌∙◌, ◌≡◌, Bool, Limits, List, None, Option, Row, Setup, ap, cond, false, fresh_account, get-part, grain_cmp, grain_cmp_exact, grain_cmp_total, is_of, limits_of, option_map, refl, start_of, sym, true, ℕ}
use Rattle.std.specs.FinMap as map
use Rattle.finite_maps.proofs.Maps.{part-empty}
use Rattle.grain_id.proofs.ByGrain.{alike}
use Rattle.tenant_gate.specs.Table.{Table}
use Rattle.idle_collector.specs.Ages.{Ages}
use Rattle.silo_model.specs.Opening.{new_setup}
use Rattle.silo_model.proofs.Opening.{new_account_of, none_awake}
use Rattle.tenant_machine.specs.Machines.{start_with}

either_none : (b : Bool) (o : Option Row) → o ≡ None → cond b o None ≡ o
either_none true o e = refl
either_none false o e = sym e

no_row_of : (t : List ℕ) → map.retain_keys (map.empty {X = Row} {R = grain_cmp}) (is_of t) ≡ map.empty
no_row_of t = alike _ _ (λ q. get-part (map.empty {X = Row} {R = grain_cmp}) (is_of t) q ∙ either_none (is_of t q) _ (map.get-empty grain_cmp q))

abbrev pub bare : Table → ℕ → Ages → Setup
bare table age ages = new_setup table age ages map.empty

-- a silo of no rows starts the tenant's machine with the limits that its table has
pub start_alone : (table : Table) (tenant : List ℕ) (limits : Option Limits) (age : ℕ) (ages : Ages) → limits_of table tenant ≡ limits → start_of (bare table age ages) tenant ≡ start_with tenant limits age ages
unfolding start_of
start_alone table tenant limits age ages e = λ i. record {
  tenant = tenant;
  account = (new_account_of tenant (limits_of table tenant) ∙ ap (option_map fresh_account) e) i;
  age = age;
  ages = ages;
  clock = 0;
  entries = (ap (λ m. map.retain_keys m (is_of tenant)) none_awake ∙ part-empty grain_cmp_total grain_cmp_exact (is_of tenant)) i;
  rows = no_row_of tenant i;
  replies = [];
}
