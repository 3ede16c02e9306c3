-- The source of random bytes fails.
use Rattle.command_parts.specs.declared.failure.Cause.{Cause}
use Rattle.std.proofs.Common.{Bool, Err, IfErr, List, None, Ok, Option, Result, Some, inl, inr, subst, sym, ℕ, ◌≡◌}
use Rattle.command_parts.specs.Files.{FileClaims}
use Rattle.silo_program.specs.Ends.{AskForWork, IsFaultOf, IsFolderFault}
use Rattle.data_command.specs.Data.{LogClaims}
use Rattle.silo_words.specs.Words.{AskFor, AskForData}
use Rattle.std.proofs.KnownBytes.{Keeps-refl}
use Rattle.line_text.specs.Reading.{Reading}
use Rattle.clap.specs.Words.{Text}
use Rattle.line_text.specs.declared.written.WriterCalls.{WriterCalls}
use Rattle.silo_words.specs.declared.task.Task.{Task}
use Rattle.silo_words.specs.declared.task.Task.TheVariants as task
use Rattle.command_parts.specs.declared.failure.Cause.TheVariants as cause
use Rattle.command_parts.specs.declared.failure.ProgramFault.TheVariants as fault

-- the task takes maps
abbrev pub TakesMaps : Task → Type 0
TakesMaps (task.Migrate path) = ⊥
TakesMaps (task.Rows folder tenant) = ⊥
TakesMaps other = Unit {0}

pub ask_for_work : (words : List Text) (t : Task) → TakesMaps t → AskFor words t → AskForWork words
ask_for_work words (task.Steps age ages tenants) takes asked = inl (_, _, inl (age, asked))
ask_for_work words (task.Answer age ages sends journal None tenants) takes asked = inl (_, _, inr (inr (inl (age, sends, _, asked))))
ask_for_work words (task.Answer age ages sends journal (Some folder) tenants) takes asked = inl (_, _, inr (inr (inr (age, sends, _, _, asked))))
ask_for_work words (task.Serve workers age ages journal telling tenants) takes asked = inl (_, _, inr (inl (workers, age, _, telling, asked)))
ask_for_work words (task.Audit path) takes asked = inr (path.now, asked)
ask_for_work words (task.Migrate path) takes asked = absurd takes
ask_for_work words (task.Rows folder tenant) takes asked = absurd takes

pub with_work : {T : Type 0} (result : Result T Cause) (P : Type 0) → P → IfErr result (λ why. why ≡ cause.Read) → IfErr result (λ why. (why ≡ cause.Read) × P)
with_work (Ok seed) P p is = tt
with_work (Err why) P p is = (is, p)

pub not_seeded : (words : List Text) (files : FileClaims) (log : LogClaims) (from : Option (List ℕ)) (reading : Reading) (before : Option (List ℕ)) (writing : WriterCalls) (why : Cause) → (why ≡ cause.Read) × AskForWork words
    → IsFaultOf words files log (fault.Failed why) from from reading before before writing
not_seeded words files log from reading before writing why is =
    subst (λ (c : Cause). IsFaultOf words files log (fault.Failed c) from from reading before before writing) (sym is.0)
    (inl (inl (is.1, Keeps-refl from, Keeps-refl before)))

-- for the number of a log
pub not_numbered : (words : List Text) (files : FileClaims) (log : LogClaims) (from : Option (List ℕ)) (reading : Reading) (before : Option (List ℕ)) (writing : WriterCalls) (age : ℕ) (given : Option Text) (sends : ℕ) (folder : Text)
    (sync : Bool) (arguments : List Text) (why : Cause) → AskForData words age given sends folder sync arguments → why ≡ cause.Read → IsFolderFault words files log (fault.Failed why) from from reading before before writing
not_numbered words files log from reading before writing age given sends folder sync arguments why asked is =
    subst (λ (c : Cause). IsFolderFault words files log (fault.Failed c) from from reading before before writing) (sym is)
    (inl (inl (given, arguments, inr (inr (inr (age, sends, folder, sync, asked)))), Keeps-refl from, Keeps-refl before))
