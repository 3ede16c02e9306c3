-- Reading a name: its parts, or the first part from the left that isn't well formed.
use Rattle.std.specs.Prelude.{◌≡◌, ℕ, List, Bool, ◌==◌, length, nat_lt, Option, Some, None, Result, Ok, Err, if◌then◌else◌}
use Rattle.std.specs.List.{position_or_len, before_first, after_first}
use Rattle.grain_id.specs.declared.fault.IdFault.{IdFault}
use Rattle.grain_id.specs.declared.fault.IdFault.TheVariants as faults
use Rattle.grain_id.specs.Words.{is_word, is_name}
use Rattle.grain_id.specs.Names.{Grain, Client}

infixl 10 ◌>>=◌
abbrev pub ◌>>=◌ : {A B : Type 0} → Result A IdFault → (A → Result B IdFault) → Result B IdFault
(Ok x) >>= f = f x
(Err e) >>= f = Err e

-- A function answers what reading gives, unless memory was refused.
abbrev pub Fails : {Y : Type 0} → IdFault → Result Y IdFault → Type 0
Fails faults.Memory read = Unit {0}
Fails faults.Kind read = read ≡ Err faults.Kind
Fails faults.Tenant read = read ≡ Err faults.Tenant
Fails faults.Name read = read ≡ Err faults.Name
Fails faults.Client read = read ≡ Err faults.Client

abbrev pub Gives : {Y : Type 0} → Result Y IdFault → Result Y IdFault → Type 0
Gives (Ok x) read = read ≡ Ok x
Gives (Err e) read = Fails e read

-- What is true if a fault of the text is answered: that memory was refused says nothing of the text.
abbrev pub IfFaulty : {Y : Type 0} → Result Y IdFault → Type 0 → Type 0
IfFaulty (Ok x) said = Unit {0}
IfFaulty (Err faults.Memory) said = Unit {0}
IfFaulty (Err faults.Kind) said = said
IfFaulty (Err faults.Tenant) said = said
IfFaulty (Err faults.Name) said = said
IfFaulty (Err faults.Client) said = said

-- what stands before the first such byte, and what stands after it
unfoldable pub cut_at : ℕ → List ℕ → Option (List ℕ × List ℕ)
cut_at byte bytes =
    if nat_lt (position_or_len (λ b. b == byte) bytes) (length bytes) then Some
    (before_first (λ b. b == byte) bytes, after_first (λ b. b == byte) bytes) else None

-- a part that passes its test
abbrev pub part : (List ℕ → Bool) → IdFault → List ℕ → Result (List ℕ) IdFault
part test fault bytes = if test bytes then Ok bytes else Err fault

-- a separator that is missing is a fault of the part before it
abbrev pub or_fault : {A : Type 0} → IdFault → Option A → Result A IdFault
or_fault fault None = Err fault
or_fault fault (Some x) = Ok x

abbrev pub tenant_read : List ℕ → Result (List ℕ) IdFault
tenant_read = part is_word faults.Tenant

abbrev pub kind_read : List ℕ → Result (List ℕ) IdFault
kind_read = part is_word faults.Kind

-- The first `/` ends the kind, the first `:` after it ends the tenant, and the name may hold both.
unfoldable pub grain_read : List ℕ → Result Grain IdFault
grain_read text = do
  kind_and_rest ← or_fault faults.Kind (cut_at 47 text)
  kind ← part is_word faults.Kind kind_and_rest.0
  tenant_and_name ← or_fault faults.Tenant (cut_at 58 kind_and_rest.1)
  tenant ← part is_word faults.Tenant tenant_and_name.0
  name ← part is_name faults.Name tenant_and_name.1
  Ok (record { kind = kind; tenant = tenant; name = name })

-- The first `/` ends the tenant.
unfoldable pub caller_read : List ℕ → Result Client IdFault
caller_read text = do
  tenant_and_client ← or_fault faults.Tenant (cut_at 47 text)
  tenant ← part is_word faults.Tenant tenant_and_client.0
  client ← part is_word faults.Client tenant_and_client.1
  Ok (record { tenant = tenant; client = client })
