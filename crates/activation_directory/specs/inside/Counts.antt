-- How many grains of each tenant there are.
use Rattle.std.specs.Prelude.{◌≡◌, ℕ, List, Bool, cond, bytes_eq}
use Rattle.std.specs.Option.{unwrap_or}
use Rattle.std.specs.FinMap as map
use Rattle.std.specs.FinMap.{FinMap}
use Rattle.indexmap.specs.IndexMap.{IndexMap, get_by_text}
use Rattle.std.specs.declared.string.String.{String}
use Rattle.std.specs.declared.alloc.Global.{Global}
use Rattle.grain_id.specs.declared.hash_seed.HashSeed.{HashSeed}
use Rattle.grain_id.specs.Names.{Grain, grain_cmp, same_text}

-- the grain is the tenant's
abbrev pub is_of : List ℕ → Grain → Bool
is_of tenant grain = same_text grain.tenant tenant

-- how many grains of the tenant the map has
abbrev pub count_in : {X : Type 0} → FinMap grain_cmp X → List ℕ → ℕ
count_in activations tenant = map.len (map.retain_keys activations (is_of tenant))

-- ---- the numbers that are kept, by the tenants' names

abbrev pub Numbers : Type 0
Numbers = IndexMap (String Global) ℕ HashSeed

-- the number kept for a tenant, or 0
abbrev pub kept : Numbers → List ℕ → ℕ
kept numbers tenant = unwrap_or (get_by_text numbers tenant) 0

-- every tenant has the number that it had
abbrev pub SameNumbers : Numbers → Numbers → Type 0
SameNumbers before after = (tenant : List ℕ) → kept after tenant ≡ kept before tenant

-- this tenant has n, and every other what it had
abbrev pub NumbersTo : Numbers → Numbers → List ℕ → ℕ → Type 0
NumbersTo before after tenant n = (other : List ℕ) → kept after other ≡ cond (bytes_eq tenant other) n (kept before other)
