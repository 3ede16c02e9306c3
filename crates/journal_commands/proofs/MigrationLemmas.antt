-- The journal of a file, migrated and written.
use Rattle.std.specs.Io.KnownBytes.{Appends}
use Rattle.command_parts.specs.Streams.{BreaksOff}
use Rattle.command_parts.specs.declared.failure.End.{End}
use Rattle.std.proofs.Common.{Err, IfErr, IfOk, List, Ok, Option, Result, subst, sym, ℕ, ◌≡◌}
use Rattle.std.specs.Prelude.{Vec}
use Rattle.std.specs.declared.alloc.Global.{Global}
use Rattle.journal_text.specs.JournalAnswers.{IsMigrated}
use Rattle.tenant_audit.specs.Reading.{NamesNewer}
use Rattle.journal_commands.specs.Migrating.{IsMigrationFault, MayMigrateTo, MigratesFile}
use Rattle.command_parts.specs.declared.failure.ProgramFault.{ProgramFault}
use Rattle.line_text.specs.declared.written.WriterCalls.{WriterCalls}
use Rattle.command_parts.specs.declared.failure.Cause.TheVariants as cause
use Rattle.command_parts.specs.declared.failure.End.TheVariants as end
use Rattle.command_parts.specs.declared.failure.ProgramFault.TheVariants as fault

module _ (may_hold : List ℕ → Type 0) (text : List ℕ) (migrated : MayMigrateTo may_hold text) (before after : Option (List ℕ)) (lent : List ℕ) (same : lent ≡ text) where
  -- whole
  pub migrates : (result : Result End ProgramFault) → IfOk result (λ how. (how ≡ end.Well) × Appends before after lent) → IfOk result (λ how. (how ≡ end.Well) × MigratesFile may_hold before after)
  migrates (Ok how) is = (is.0, record { text = text; migrated = migrated; written = subst (λ (t : List ℕ). Appends before after t) same is.1 })
  migrates (Err why) is = tt

  -- or up to a call that failed
  pub breaks_off : (may_fail : Type 0) (writing : WriterCalls) (result : Result End ProgramFault) → IfErr result (λ why. (why ≡ fault.Failed cause.Write) × BreaksOff before after writing lent)
      → IfErr result (λ why. IsMigrationFault may_hold may_fail why before after writing)
  breaks_off may_fail writing (Ok how) is = tt
  breaks_off may_fail writing (Err why) is =
      subst (λ (w : ProgramFault). IsMigrationFault may_hold may_fail w before after writing) (sym is.0)
      (record { text = text; migrated = migrated; part = subst (λ (t : List ℕ). BreaksOff before after writing t) same is.1 })

-- what the bytes of a file are migrated to
pub migrated_to : (may_hold : List ℕ → Type 0) (bytes : List ℕ) (result : Result (Vec ℕ Global) ProgramFault) → may_hold bytes → IfOk result (λ text. IsMigrated bytes text.items) → IfOk result (λ _. NamesNewer bytes → ⊥)
    → IfOk result (λ text. MayMigrateTo may_hold text.items)
migrated_to may_hold bytes (Ok text) held is known = record { bytes = bytes; held = held; known = known; migrated = is }
migrated_to may_hold bytes (Err why) held is known = tt
