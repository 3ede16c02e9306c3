-- How what a tenant's grains sent is kept: by the numbers in which it came, and for each grain the numbers of its own.
use Rattle.std.specs.Prelude.{◌≡◌, ℕ, ◌+◌, ◌≤◌, Bool, List, [], ◌∷◌, ◌++◌, Option, Some, None, if◌then◌else◌}
use Rattle.std.specs.Ordering.{eq_by_cmp}
use Rattle.std.specs.Option.{option_to_list}
use Rattle.std.specs.BTreeMap.{BTreeMap, get}
use Rattle.std.specs.declared.collections.VecDeque.{VecDeque}
use Rattle.std.specs.declared.alloc.Global.{Global}
use Rattle.grain_id.specs.Names.{Grain, grain_cmp}
use Rattle.tenant_accounts.specs.declared.account.Sent.{Sent}

-- for each grain the numbers of what it sent
abbrev pub Index : Type 0
Index = BTreeMap Grain (VecDeque ℕ Global)

abbrev pub is_grain : Grain → Grain → Bool
is_grain g h = eq_by_cmp grain_cmp g h

abbrev pub in_queue : Option (VecDeque ℕ Global) → List ℕ
in_queue None = []
in_queue (Some queue) = queue.items

-- the numbers that the index has of the grain
abbrev pub numbers_at : Index → Grain → List ℕ
numbers_at index g = in_queue (get grain_cmp index g)

-- the numbers of what the grain sent, in order
abbrev pub numbers_of : Grain → List (ℕ × Sent) → List ℕ
numbers_of g [] = []
numbers_of g (e ∷ es) = if is_grain e.1.source g then e.0 ∷ numbers_of g es else numbers_of g es

-- The numbers rise, from the first bound on, and stay below the second.
abbrev pub Rises : ℕ → ℕ → List (ℕ × Sent) → Type 0
Rises low next [] = low ≤ next
Rises low next (e ∷ es) = (low ≤ e.0) × Rises (e.0 + 1) next es

-- Of each grain the index has the numbers of what the grain sent, in order; and what comes next has a number above all.
pub record IsIndexed (sends : List (ℕ × Sent)) (index : Index) (next : ℕ) : Type 0 where
  pub numbers : (g : Grain) → numbers_at index g ≡ numbers_of g sends
  pub rise : Rises 0 next sends

-- both indices have the same numbers of each grain
abbrev pub IsSameIndex : Index → Index → Type 0
IsSameIndex old new = (g : Grain) → numbers_at new g ≡ numbers_at old g

-- the numbers, if it's that grain that is asked for
abbrev pub only_at : Grain → List ℕ → Grain → List ℕ
only_at grain numbers g = if is_grain grain g then numbers else []

-- the number came behind those of the grain
abbrev pub AddsLast : Index → Grain → ℕ → Index → Type 0
AddsLast old grain number new = (g : Grain) → numbers_at new g ≡ numbers_at old g ++ only_at grain (number ∷ []) g

-- the first number of the grain, if it has one, was taken out
abbrev pub TakesFirst : Index → Grain → Option ℕ → Index → Type 0
TakesFirst old grain found new = (g : Grain) → numbers_at old g ≡ only_at grain (option_to_list found) g ++ numbers_at new g

-- the last number of the grain, if it has one, was taken out
abbrev pub TakesLast : Index → Grain → Option ℕ → Index → Type 0
TakesLast old grain found new = (g : Grain) → numbers_at old g ≡ numbers_at new g ++ only_at grain (option_to_list found) g
