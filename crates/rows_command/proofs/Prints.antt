-- Why rows aren't printed, and that they are.
use Rattle.command_parts.specs.declared.failure.Cause.{Cause}
use Rattle.command_parts.specs.declared.failure.End.{End}
use Rattle.std.proofs.Common.{Err, IfErr, IfOk, List, Ok, Option, Result, subst, sym, ℕ, ⊎_elim, ◌≡◌, ◌≢◌}
use Rattle.std.specs.Io.KnownBytes.{Appends}
use Rattle.std.specs.Prelude.{String, string_bytes}
use Rattle.std.specs.declared.alloc.Global.{Global}
use Rattle.std.proofs.lemmas.Result.{IfErr-weaker}
use Rattle.std.proofs.KnownBytes.{Keeps-refl}
use Rattle.line_text.specs.declared.written.WriterCalls.{WriterCalls}
use Rattle.rows_command.specs.Rows.{IsNoPoint, IsRowsFault, Lists, MayList, PrintsRows}
use Rattle.rows_command.specs.inside.Reading.{IsReadingFault, IsRefusal, file_cause}
use Rattle.command_parts.specs.Streams.{BreaksOff}
use Rattle.command_parts.specs.declared.failure.Cause.TheVariants as cause
use Rattle.command_parts.specs.declared.failure.End.TheVariants as end
use Rattle.command_parts.specs.declared.failure.ProgramFault.{ProgramFault}
use Rattle.command_parts.specs.declared.failure.ProgramFault.TheVariants as fault
use Rattle.command_parts.specs.declared.files.FileFault.{FileFault}
use Rattle.command_parts.specs.declared.files.FileFault.TheVariants as file

-- the file isn't read
pub not_read : (Fails : Cause → Type 0) (may_fail : Type 0) (why : FileFault) → (why ≢ file.Memory → may_fail) → Fails cause.Memory → (may_fail → Fails cause.Read) → (may_fail → Fails cause.TooMuch) → Fails (file_cause why)
not_read Fails may_fail file.Memory fails memory read too_much = memory
not_read Fails may_fail file.Failed fails memory read too_much = read (fails (λ e. absurd (cc (e))))
not_read Fails may_fail file.TooMuch fails memory read too_much = too_much (fails (λ e. absurd (cc (e))))

-- its bytes are refused, or memory is
module _ (may_hold : List ℕ → Type 0) (may_fail : Type 0) (tenant : Option (List ℕ)) (bytes : List ℕ) (held : may_hold bytes) (before : Option (List ℕ)) (writing : WriterCalls) where
  abbrev Fails : ProgramFault → Type 0
  Fails why = IsRowsFault may_hold may_fail tenant why before before writing

  memory : Fails (fault.Failed cause.Memory)
  memory = Keeps-refl before

  refused : (why : ProgramFault) → IsNoPoint bytes → IsRefusal why → Fails why
  refused (fault.Failed why) none is = subst (λ (c : Cause). Fails (fault.Failed c)) (sym is) memory
  refused (fault.Refused text) none is = absurd is
  refused (fault.NoJournal text) none is = record { bytes = bytes; held = held; none = none; said = is; kept = Keeps-refl before }

  unread : (why : ProgramFault) → IsReadingFault bytes why → Fails why
  unread why is = ⊎_elim (λ none. refused why none.0 none.1) (λ lacks. subst (λ (w : ProgramFault). Fails w) (sym lacks) memory) is

  pub none_read : (read : Result (String Global) ProgramFault) → IfErr read (λ why. IsReadingFault bytes why) → IfErr read (λ why. Fails why)
  none_read read is = IfErr-weaker read (λ why. IsReadingFault bytes why) (λ why. Fails why) unread is

-- what is listed of the bytes
pub listed : (may_hold : List ℕ → Type 0) (tenant : Option (List ℕ)) (bytes : List ℕ) (result : Result (String Global) ProgramFault) → may_hold bytes
    → IfOk result (λ text. Lists bytes tenant (string_bytes text)) → IfOk result (λ text. MayList may_hold tenant (string_bytes text))
listed may_hold tenant bytes (Ok text) held is = record { bytes = bytes; held = held; lists = is }
listed may_hold tenant bytes (Err why) held is = tt

module _ (may_hold : List ℕ → Type 0) (tenant : Option (List ℕ)) (text : List ℕ) (lists : MayList may_hold tenant text) (before after : Option (List ℕ)) (lent : List ℕ) (same : lent ≡ text) where
  -- it is printed whole
  pub prints : (result : Result End ProgramFault) → IfOk result (λ how. (how ≡ end.Well) × Appends before after lent) → IfOk result (λ how. (how ≡ end.Well) × PrintsRows may_hold tenant before after)
  prints (Ok how) is = (is.0, record { text = text; lists = lists; written = subst (λ (t : List ℕ). Appends before after t) same is.1 })
  prints (Err why) is = tt

  -- or up to a call that failed
  pub breaks_off : (may_fail : Type 0) (writing : WriterCalls) (result : Result End ProgramFault) → IfErr result (λ why. (why ≡ fault.Failed cause.Write) × BreaksOff before after writing lent)
      → IfErr result (λ why. IsRowsFault may_hold may_fail tenant why before after writing)
  breaks_off may_fail writing (Ok how) is = tt
  breaks_off may_fail writing (Err why) is =
      subst (λ (w : ProgramFault). IsRowsFault may_hold may_fail tenant w before after writing) (sym is.0)
      (record { text = text; lists = lists; part = subst (λ (t : List ℕ). BreaksOff before after writing t) same is.1 })
