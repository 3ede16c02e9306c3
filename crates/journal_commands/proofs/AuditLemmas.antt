-- Why the journal of a file isn't read.
use Rattle.command_parts.specs.declared.failure.Cause.{Cause}
use Rattle.std.proofs.Common.{IfErr, List, Option, Result, subst, sym, ℕ, ⊎_elim, ◌≢◌}
use Rattle.std.proofs.lemmas.Result.{IfErr-weaker}
use Rattle.journal_commands.specs.Auditing.{IsReadingFault, IsRefusalOf, RefusesFile, file_cause}
use Rattle.std.proofs.KnownBytes.{Keeps-refl}
use Rattle.command_parts.specs.declared.failure.ProgramFault.{ProgramFault}
use Rattle.std.specs.Prelude.{String, string_bytes}
use Rattle.std.specs.declared.alloc.Global.{Global}
use Rattle.tenant_audit.specs.Reading.{IsRefused}
use Rattle.command_parts.specs.declared.failure.Cause.TheVariants as cause
use Rattle.command_parts.specs.declared.files.FileFault.{FileFault}
use Rattle.command_parts.specs.declared.files.FileFault.TheVariants as file
use Rattle.command_parts.specs.declared.failure.ProgramFault.TheVariants as fault

-- the bytes are no journal's, or memory was refused
module _ (may_hold : List ℕ → Type 0) (bytes : List ℕ) (held : may_hold bytes) (before : Option (List ℕ)) (Fails : ProgramFault → Type 0) (memory : Fails (fault.Failed cause.Memory))
    (refused : (text : String Global) → RefusesFile may_hold (string_bytes text) before before → Fails (fault.NoJournal text)) where
  line_refused : (number : ℕ) (why : ProgramFault) → IsRefused bytes number → IsRefusalOf number why → Fails why
  line_refused number (fault.Failed why) first is = subst (λ (c : Cause). Fails (fault.Failed c)) (sym is) memory
  line_refused number (fault.Refused text) first none = absurd none
  line_refused number (fault.NoJournal text) first said = refused text (record { number = number; held = record { bytes = bytes; held = held; first = first }; said = said; kept = Keeps-refl before })

  unread : (why : ProgramFault) → IsReadingFault bytes why → Fails why
  unread why is = ⊎_elim (λ line. line_refused line.0 why line.1 line.2) (λ lacks. subst (λ (w : ProgramFault). Fails w) (sym lacks) memory) is

  pub none_read : {J : Type 0} (read : Result J ProgramFault) → IfErr read (λ why. IsReadingFault bytes why) → IfErr read (λ why. Fails why)
  none_read read is = IfErr-weaker read (λ why. IsReadingFault bytes why) (λ why. Fails why) unread is

-- the file isn't read
pub not_read : (Fails : Cause → Type 0) (may_fail : Type 0) (why : FileFault) → (why ≢ file.Memory → may_fail) → Fails cause.Memory → (may_fail → Fails cause.Read) → (may_fail → Fails cause.TooMuch) → Fails (file_cause why)
not_read Fails may_fail file.Memory fails memory read too_much = memory
not_read Fails may_fail file.Failed fails memory read too_much = read (fails (λ e. absurd (cc (e))))
not_read Fails may_fail file.TooMuch fails memory read too_much = too_much (fails (λ e. absurd (cc (e))))
