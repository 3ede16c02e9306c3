-- The text of a fault is one line of visible ASCII and spaces.
use Rattle.std.specs.Prelude.{ℕ, Bool, ◌&&◌, nat_le, IsTrue}
use Rattle.std.specs.List.{list_all}
use Rattle.grain_id.specs.Words.{is_word}
use Rattle.grain_id.specs.Names.{is_grain}
use Rattle.silo_event.specs.Fault.{fault_text}
use Rattle.silo_event.specs.declared.fault.Fault.{Fault}
use Rattle.silo_event.specs.declared.fault.Fault.TheVariants.{UnknownTenant, UnknownKind, AcrossTenants, NoActivation, MailboxFull}
use Rattle.silo_event.specs.declared.fault.Fault.TheVariants.{NoNumber, StateChanged, VersionsSpent}

-- visible ASCII or a space
abbrev pub is_visible : ℕ → Bool
is_visible byte = nat_le 32 byte && nat_le byte 126

-- the names that the fault holds are well formed
abbrev pub HasNames : Fault → Type 0
HasNames (UnknownTenant tenant) = IsTrue (is_word tenant)
HasNames (UnknownKind kind) = IsTrue (is_word kind)
HasNames (AcrossTenants from to) = IsTrue (is_word from) × IsTrue (is_word to)
HasNames (NoActivation tenant) = IsTrue (is_word tenant)
HasNames (MailboxFull grain) = IsTrue (is_grain grain)
HasNames (NoNumber tenant) = IsTrue (is_word tenant)
HasNames (StateChanged grain) = IsTrue (is_grain grain)
HasNames (VersionsSpent grain) = IsTrue (is_grain grain)
HasNames _ = Unit {0}

abbrev pub TextsAreVisible : Type 0
TextsAreVisible = (fault : Fault) → HasNames fault → IsTrue (list_all is_visible (fault_text fault))
