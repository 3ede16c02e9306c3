-- The tenant arguments of the program.
use Rattle.std.specs.Prelude.{◌≡◌, ◌≤◌, ◌<◌, ◌⊎◌, ℕ, suc, Bool, true, false, List, [], ◌∷◌, ◌++◌, length, None, IsTrue, decimal}
use Rattle.std.specs.List.{list_any}
use Rattle.grain_id.specs.Names.{same_text}
use Rattle.grain_id.specs.Words.{is_word}
use Rattle.tenant_gate.specs.Table.{Table, names_of, most_tenants, first_repeat, table_fault}
use Rattle.tenant_gate.specs.declared.limits.Limits.{Limits}
use Rattle.silo_words.specs.Parts.{IsWithin}
use Rattle.silo_words.specs.declared.tenants.TenantsFault.{TenantsFault}
use Rattle.silo_words.specs.declared.tenants.TenantsFault.TheVariants.{Memory, Refused}

-- 1 to 10,000 activations, and 1 to 1,000 places of a mailbox
abbrev pub AreLimits : Limits → Type 0
AreLimits limits = IsWithin 10000 limits.activations × IsWithin 1000 limits.mailbox

-- `ACT:MAIL`, both in decimal digits, with no sign and no leading zero
abbrev pub limits_text : Limits → List ℕ
limits_text limits = decimal limits.activations ++ 58 ∷ decimal limits.mailbox

-- `TENANT:ACT:MAIL`
abbrev pub tenant_text : List ℕ → Limits → List ℕ
tenant_text tenant limits = tenant ++ 58 ∷ limits_text limits

-- The text writes limits within their ranges.
abbrev pub IsLimitsText : List ℕ → Limits → Type 0
IsLimitsText text limits = AreLimits limits × (text ≡ limits_text limits)

-- The text writes a well formed tenant and its limits within their ranges.
abbrev pub IsTenantText : List ℕ → List ℕ → Limits → Type 0
IsTenantText text tenant limits = IsTrue (is_word tenant) × AreLimits limits × (text ≡ tenant_text tenant limits)

-- the text writes no tenant with limits
abbrev pub IsNoTenantText : List ℕ → Type 0
IsNoTenantText text = (tenant : List ℕ) (limits : Limits) → ¬ IsTenantText text tenant limits

-- The texts write the tenants with their limits, in order.
abbrev pub WriteTenants : List (List ℕ) → Table → Type 0
WriteTenants [] [] = Unit {0}
WriteTenants [] (entry ∷ table) = ⊥
WriteTenants (text ∷ texts) [] = ⊥
WriteTenants (text ∷ texts) (entry ∷ table) = IsTenantText text entry.0 entry.1 × WriteTenants texts table

-- The arguments write the table: 1 to 1,000 tenants, none twice, each with limits within their ranges.
pub record NameTenants (texts : List (List ℕ)) (table : Table) : Type 0 where
  pub written : WriteTenants texts table
  pub is_table : table_fault table ≡ None

-- the tenant is one of the table's
abbrev pub is_named : Table → List ℕ → Bool
is_named table tenant = list_any (λ entry. same_text tenant entry.0) table

-- The text writes a tenant that is named before.
pub record IsRepeated (before : Table) (text : List ℕ) : Type 0 where
  pub tenant : List ℕ
  pub limits : Limits
  pub written : IsTenantText text tenant limits
  pub named : is_named before tenant ≡ true

-- Behind these tenants the text is refused: it writes no tenant, or one that is named before, or it is one too many.
abbrev pub IsRefusedBehind : Table → List ℕ → Type 0
IsRefusedBehind before text = IsNoTenantText text ⊎ (IsRepeated before text ⊎ (most_tenants ≤ length before))

-- The tenant isn't named before, and there is a place for it.
abbrev pub MayFollow : Table → List ℕ → Type 0
MayFollow before tenant = (is_named before tenant ≡ false) × (length before < most_tenants)

-- The texts write up to 1,000 tenants, none twice.
pub record WriteDistinct (texts : List (List ℕ)) (table : Table) : Type 0 where
  pub written : WriteTenants texts table
  pub distinct : first_repeat [] (names_of table) ≡ None
  pub at_most : length table ≤ most_tenants

-- The arguments before this one write up to 1,000 tenants, none twice, and behind these it is refused.
pub record IsRefusedAt (front : List (List ℕ)) (text : List ℕ) : Type 0 where
  pub before : Table
  pub named : WriteDistinct front before
  pub why : IsRefusedBehind before text

-- The number of the first argument that is refused, from 1; and 1 if there is none.
abbrev pub IsFirstRefused : List (List ℕ) → ℕ → Type 0
IsFirstRefused [] number = number ≡ 1
IsFirstRefused (first ∷ others) number =
    (front : List (List ℕ)) × (text : List ℕ) × (rest : List (List ℕ)) × (first ∷ others ≡ front ++ text ∷ rest)
    × (number ≡ suc (length front)) × IsRefusedAt front text

-- The fault is why the arguments name no tenants, unless memory was refused.
abbrev pub IsReason : List (List ℕ) → TenantsFault → Type 0
IsReason texts Memory = Unit {0}
IsReason texts (Refused number) = IsFirstRefused texts number
