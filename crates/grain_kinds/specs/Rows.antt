-- What is proved of each row of the table.
use Rattle.std.specs.Prelude.{◌≡◌, ℕ, Bool, true, false, ◌&&◌, List, [], ◌∷◌, nat_le, if◌then◌else◌}
use Rattle.std.specs.List.{AllByRecursion, list_all}
use Rattle.request_codec.specs.Tree.{Tree}
use Rattle.grain_logic.proofs.KeepSame.{IsSilent, IsSilentAt}
use Rattle.grain_logic.specs.LawsOfTables.{IsLawfulKind}
use Rattle.grain_logic.specs.Tables.{Kind, Method}
use Rattle.grain_kinds.specs.Versions.{newest}

-- whether the version has all of these
abbrev pub stand : ℕ → List Method → Bool
stand version ms = list_all (λ (m : Method). nat_le m.since version) ms

-- A row of the table.
pub record IsRow (k : Kind) : Type 0 where
  -- it keeps the laws
  pub lawful : IsLawfulKind k
  -- the newest version has the kind, with all its methods
  pub stands : (nat_le k.since newest && stand newest k.methods) ≡ true
  -- what the first version has of it says nothing of activations
  pub silent : AllByRecursion (IsSilentAt 1) k.methods

-- ---- the methods that a version has

-- those of the list that stand since the version or an earlier one
abbrev pub had : ℕ → List Method → List Method
had version [] = []
had version (m ∷ ms) = if nat_le m.since version then m ∷ had version ms else had version ms

-- the plans of the method say nothing of the activation
abbrev pub IsSilentMethod : Method → Type 0
IsSilentMethod m = (state argument : Tree) → IsSilent (m.plan state argument)

no_true : false ≡ true → ⊥
no_true e = cc

first_of : (b : Bool) (m : Method) (ms : List Method) → AllByRecursion IsSilentMethod (if b then m ∷ ms else ms)
    → (b ≡ true → IsSilentMethod m) × AllByRecursion IsSilentMethod ms
first_of true m ms all = (λ e. all.0, all.1)
first_of false m ms all = (λ e. absurd (no_true e), all)

-- of the methods that it hasn't there is nothing to prove
pub had_silent : (version : ℕ) (ms : List Method) → AllByRecursion IsSilentMethod (had version ms) → AllByRecursion (IsSilentAt version) ms
had_silent version [] all = tt
had_silent version (m ∷ ms) all =
    let parts = first_of (nat_le m.since version) m (had version ms) all in
    (parts.0, had_silent version ms parts.1)
