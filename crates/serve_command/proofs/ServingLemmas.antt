-- How serving fails, by what failed.
use Rattle.command_parts.specs.declared.failure.Cause.{Cause}
use Rattle.command_parts.specs.Files.{FileClaims, claims}
use Rattle.silo_core.specs.History.{History}
use Rattle.std.proofs.Common.{Bool, List, None, Option, Some, [], ap, false, if◌then◌else◌, inl, inr, length, refl, subst, sym, true}
use Rattle.std.proofs.Common.{true≢false, ℕ, ⊎_elim, ◌++◌, ◌||◌, ◌∙◌, ◌≡◌}
use Rattle.command_parts.specs.Kept.{IsKeepingCause, KeepsSecond, MayFailAgain, MayFailAt, WritesAtMost, WritesFirst, WritesFirstAtMost}
use Rattle.command_parts.specs.Kept.{empty_journal}
use Rattle.std.proofs.KnownBytes.{Keeps-refl}
use Rattle.line_parser.specs.declared.line.Line.{Line}
use Rattle.line_text.specs.declared.fault.LineFault.{LineFault}
use Rattle.serve_command.specs.Serving.{LeavesOutcome, Outcome, ServingFailsBy, WritesJournalAtMost, outcome_lines, service_cause}
use Rattle.silo_model.specs.Opening.{Setup}
use Rattle.line_text.specs.declared.written.WriterCalls.{WriterCalls}
use Rattle.line_service.specs.Counts.{codes_of, counts_text}
use Rattle.line_service.specs.Reasons.{reasons_behind}
use Rattle.grain_logic.specs.Logic.{Logic}
use Rattle.command_parts.specs.Setups.{Start}
use Rattle.std.specs.Prelude.{IfSome}
use Rattle.std.proofs.lemmas.Option.{IfSome_then}
use Rattle.line_text.specs.declared.fault.LineFault.TheVariants as line
use Rattle.line_text.specs.declared.calls.ReaderCalls.{ReaderCalls}
use Rattle.line_service.specs.ServedText.{StopsWriting}
use Rattle.serve_command.specs.declared.fault.ServiceFault.{ServiceFault}
use Rattle.serve_command.specs.declared.fault.ServiceFault.TheVariants as service
use Rattle.silo_words.specs.Words.{nothing_told}
use Rattle.silo_words.specs.declared.task.Telling.{Telling}
use Rattle.serve_command.specs.Telling.{IsTold, asks_to_tell, telling_text}
use Rattle.command_parts.specs.Status.{cause_of}
use Rattle.silo_event.specs.declared.reply.Reply.{Reply}
use Rattle.line_parser.specs.declared.line.LineRefusal.{LineRefusal}
use Rattle.line_text.specs.Gathered.{ReadsAll, StopsGathering}
use Rattle.line_service.specs.Asked.{lanes_of, refusals_of}
use Rattle.serve_command.specs.Lanes.{IsServed, LeavesServed, StopsServing, serving_fault}
use Rattle.worker_host.specs.declared.report.ServeFault.{ServeFault}
use Rattle.worker_host.specs.declared.report.ServeFault.TheVariants as serve
use Rattle.command_parts.specs.declared.failure.Cause.TheVariants as cause

-- ---- an input isn't served

-- since the first journal isn't written
pub not_begun : (start : Start) (files : FileClaims) (journal from : Option (List ℕ)) (reading : ReaderCalls) (before : Option (List ℕ)) (writing : WriterCalls) (why : Cause) → IsKeepingCause files.may_fail journal why
    → ServingFailsBy start files journal why from from reading before before writing
not_begun start files journal from reading before writing cause.Read is = absurd is
not_begun start files journal from reading before writing cause.Write is = inl (is, (Keeps-refl from, Keeps-refl before))
not_begun start files journal from reading before writing cause.Memory is = inl (Keeps-refl before)
not_begun start files journal from reading before writing cause.TooMuch is = absurd is
not_begun start files journal from reading before writing cause.NoWorker is = absurd is
not_begun start files journal from reading before writing cause.Strayed is = absurd is
not_begun start files journal from reading before writing cause.InUse is = absurd is

-- behind the first journal
module _ (start : Start) (files : FileClaims) (journal : Option (List ℕ)) (from left : Option (List ℕ)) (reading : ReaderCalls) (before : Option (List ℕ)) (writing : WriterCalls) (first : WritesFirst start files journal) where
  by_service : (why : ServiceFault) → StopsServing why from reading → ServingFailsBy start files journal (service_cause why) from left reading before before writing
  by_service (service.Failed line.Read) stops = (stops, Keeps-refl before, first)
  by_service (service.Failed line.TooMuch) stops = (stops, Keeps-refl before, first)
  by_service (service.Failed line.Memory) stops = inl (Keeps-refl before)
  by_service (service.Failed line.Write) stops = absurd stops
  by_service service.NoWorker stops = (Keeps-refl before, first)
  by_service service.Strayed stops = (Keeps-refl before, first)

  pub not_served : (why : ServiceFault) (by : Cause) → by ≡ service_cause why → StopsServing why from reading → ServingFailsBy start files journal by from left reading before before writing
  not_served why by is stops = subst (λ (c : Cause). ServingFailsBy start files journal c from left reading before before writing) (sym is) (by_service why stops)

-- ---- lines were read, and served

-- of an input of which nothing is read ahead
pub stops_read : (why : LineFault) (from left : Option (List ℕ)) (calls : ReaderCalls) → left ≡ from → StopsGathering why left calls → StopsServing (service.Failed why) from calls
stops_read why from left calls same stops = subst (λ (o : Option (List ℕ)). StopsGathering why o calls) same stops

pub stops_served : (from : Option (List ℕ)) (calls : ReaderCalls) (why : ServiceFault) → (fault : ServeFault) × (why ≡ serving_fault fault) → StopsServing why from calls
stops_served from calls why is = subst (λ (w : ServiceFault). StopsServing w from calls) (sym is.1) (by is.0)
  where
    by : (fault : ServeFault) → StopsServing (serving_fault fault) from calls
    by serve.Memory = tt
    by serve.NoWorker = tt
    by serve.Strayed = tt

module _ (setup : Setup) (from ahead left : Option (List ℕ)) (same : ahead ≡ from) (lines : List Line) (read : IfSome ahead (λ input. ReadsAll input lines left)) (refusals : List LineRefusal) (refused : refusals ≡ refusals_of lines) (silo : History) where
  reads : IfSome from (λ input. ReadsAll input lines left)
  reads = subst (λ (o : Option (List ℕ)). IfSome o (λ input. ReadsAll input lines left)) same read

  pub served_lines : (logic : Logic) (answers : List (List Reply)) → LeavesServed logic setup (lanes_of lines) silo answers → IfSome from (λ input. IsServed logic setup input left refusals silo answers)
  served_lines logic answers served = IfSome_then from reads (λ input is. record { lines = lines; read = is; refused = refused; lanes = served })

  pub told_lines : (telling : Telling) (reasons text : List ℕ) → reasons ≡ (if telling.explain_lines then reasons_behind 0 lines else [])
      → text ≡ reasons ++ (if telling.summary then counts_text (length lines) (codes_of refusals silo.whole.replies) (length silo.journal) else [])
      → IsTold telling from silo text
  told_lines telling reasons text first second = IfSome_then from reads
      (λ input (is : ReadsAll input lines left). second
      ∙ ap (λ t. t ++ (if telling.summary then counts_text (length lines) (codes_of refusals silo.whole.replies) (length silo.journal) else [])) first
      ∙ ap (λ r. (if telling.explain_lines then reasons_behind 0 lines else []) ++ (if telling.summary then counts_text (length lines) (codes_of r silo.whole.replies) (length silo.journal) else [])) refused
      ∙ ap (λ said. telling_text telling said silo) is.said)

-- nothing is to be told
pub untold_lines : (telling : Telling) (lines : List Line) (refusals : List LineRefusal) (silo : History) (reasons text : List ℕ) → reasons ≡ (if telling.explain_lines then reasons_behind 0 lines else [])
    → text ≡ reasons ++ (if telling.summary then counts_text (length lines) (codes_of refusals silo.whole.replies) (length silo.journal) else []) → telling ≡ nothing_told → text ≡ []
untold_lines telling lines refusals silo reasons text first second none =
    second ∙ ap (λ t. t ++ (if telling.summary then counts_text (length lines) (codes_of refusals silo.whole.replies) (length silo.journal) else [])) first
    ∙ ap (λ (asked : Telling). (if asked.explain_lines then reasons_behind 0 lines else []) ++ (if asked.summary then counts_text (length lines) (codes_of refusals silo.whole.replies) (length silo.journal) else [])) none

-- what is asked for is told, or nothing is
pub not_asked : (telling : Telling) → asks_to_tell telling ≡ false → telling ≡ nothing_told
not_asked telling none = go telling.explain_lines telling.summary refl refl none
  where
    go : (explain summary : Bool) → telling.explain_lines ≡ explain → telling.summary ≡ summary → (explain || summary) ≡ false → telling ≡ nothing_told
    go false false e s n = λ i. record { explain_lines = e i; summary = s i }
    go false true e s n = absurd (true≢false n)
    go true summary e s n = absurd (true≢false n)

-- ---- lines were served

module _ (start : Start) (files : FileClaims) (journal : Option (List ℕ)) (from left : Option (List ℕ)) (reading : ReaderCalls) (before after : Option (List ℕ)) (writing : WriterCalls) (outcome : Outcome) (served : LeavesOutcome start from left outcome) where
  -- but the journal wasn't written
  pub not_kept : (fails : List ℕ → Type 0) (why : Cause) → IsKeepingCause fails journal why → (MayFailAt fails journal → MayFailAgain start files journal) → ServingFailsBy start files journal why from left reading before before writing
  not_kept fails cause.Read is again = absurd is
  not_kept fails cause.Write is again = inr (inl (record { fails = again is; outcome = outcome; served = served; kept = Keeps-refl before }))
  not_kept fails cause.Memory is again = inl (Keeps-refl before)
  not_kept fails cause.TooMuch is again = absurd is
  not_kept fails cause.NoWorker is again = absurd is
  not_kept fails cause.Strayed is again = absurd is
  not_kept fails cause.InUse is again = absurd is

  -- but their text wasn't written whole
  by_fault : (why : LineFault) → KeepsSecond start files journal outcome.silo → StopsWriting why (outcome_lines outcome) before after → (why ≡ line.Write → writing.failed ≡ true)
      → ServingFailsBy start files journal (cause_of why) from left reading before after writing
  by_fault line.Read kept stops failed = absurd stops
  by_fault line.Write kept stops failed = inr (inr (record { outcome = outcome; served = served; kept = kept; part = record { part = stops; failed = failed refl } }))
  by_fault line.Memory kept stops failed = inr (record { outcome = outcome; served = served; kept = kept; part = stops })
  by_fault line.TooMuch kept stops failed = absurd stops

  pub not_written : (why : LineFault) (by : Cause) → by ≡ cause_of why → KeepsSecond start files journal outcome.silo → StopsWriting why (outcome_lines outcome) before after → (why ≡ line.Write → writing.failed ≡ true)
      → ServingFailsBy start files journal by from left reading before after writing
  not_written why by is kept stops failed = subst (λ (c : Cause). ServingFailsBy start files journal c from left reading before after writing) (sym is) (by_fault why kept stops failed)

-- ---- what was written to files

module _ (start : Start) (files : FileClaims) (from left : Option (List ℕ)) where
  -- the first journal, or nothing
  pub first_at_most : (journal : Option (List ℕ)) → WritesFirstAtMost start files journal → WritesJournalAtMost start files journal from left
  first_at_most None same = same
  first_at_most (Some path) is = ⊎_elim (λ same. inl same) (λ written. inr (inl written)) is

  -- the first journal
  pub first_written : (journal : Option (List ℕ)) → WritesFirst start files journal → WritesJournalAtMost start files journal from left
  first_written None same = same
  first_written (Some path) written = inr (inl written)

-- the first, and then perhaps the second
module _ {F : Type 0} (may_hold : F → List ℕ → List ℕ → Type 0) (may_fail : F → List ℕ → Type 0) (may_leave : F → List ℕ → List ℕ → F → Type 0) (start : Start) (old mid new : F) where
  pub second_at_most : (journal from left : Option (List ℕ)) (outcome : Outcome) → LeavesOutcome start from left outcome → WritesFirst start (claims may_hold may_fail may_leave old mid) journal
      → WritesAtMost start.version (claims may_hold may_fail may_leave mid new) journal outcome.silo → WritesJournalAtMost start (claims may_hold may_fail may_leave old new) journal from left
  second_at_most None from left outcome served a b = b ∙ a
  second_at_most (Some path) from left outcome served a b =
      ⊎_elim (λ same. inr (inl (subst (λ (f : F). may_leave old path (empty_journal start) f) (sym same) a)))
      (λ written. inr (inr (record { outcome = outcome; served = served; written = (mid, a, written) }))) b
