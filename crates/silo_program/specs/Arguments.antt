-- What the program says of its arguments, and of its version.
use Rattle.std.specs.Prelude.{◌≡◌, ◌++◌, ◌∷◌, ℕ, List, [], codes, decimal, string_bytes}
use Rattle.command_parts.specs.declared.failure.Cause.TheVariants as cause
use Rattle.command_parts.specs.declared.failure.ProgramFault.{ProgramFault}
use Rattle.command_parts.specs.declared.failure.ProgramFault.TheVariants as fault
use Rattle.silo_words.specs.declared.ages.AgesFault.{AgesFault}
use Rattle.silo_words.specs.declared.ages.AgesFault.TheVariants as ages
use Rattle.silo_words.specs.declared.tenants.TenantsFault.{TenantsFault}
use Rattle.silo_words.specs.declared.tenants.TenantsFault.TheVariants as tenants

-- ---- what is said

-- the line that tells which tenant argument is refused
abbrev pub refused_text : ℕ → List ℕ
refused_text number = codes "silo: tenant argument " ++ decimal number ++ (codes " is refused" ++ 10 ∷ [])

-- the line that tells that the ages of kinds are refused
abbrev pub no_ages_text : List ℕ
no_ages_text = codes "silo: ages are refused" ++ 10 ∷ []

-- the line that tells the version
abbrev pub version_text : List ℕ
version_text = codes "silo 0.2.0" ++ 10 ∷ []

-- ---- what faults become

-- what a fault of the tenant arguments becomes, unless memory is refused
abbrev pub IsTenantsFault : TenantsFault → ProgramFault → Type 0
IsTenantsFault tenants.Memory why = why ≡ fault.Failed cause.Memory
IsTenantsFault (tenants.Refused number) (fault.Failed why) = why ≡ cause.Memory
IsTenantsFault (tenants.Refused number) (fault.Refused text) = string_bytes text ≡ refused_text number
IsTenantsFault (tenants.Refused number) (fault.NoJournal text) = ⊥

-- what a fault of the ages becomes, unless memory is refused
abbrev pub IsAgesFault : AgesFault → ProgramFault → Type 0
IsAgesFault ages.Memory why = why ≡ fault.Failed cause.Memory
IsAgesFault ages.Refused (fault.Failed why) = why ≡ cause.Memory
IsAgesFault ages.Refused (fault.Refused text) = string_bytes text ≡ no_ages_text
IsAgesFault ages.Refused (fault.NoJournal text) = ⊥
