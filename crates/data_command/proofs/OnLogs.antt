-- A run over logs since its start, of whose reader nothing was read ahead.
use Rattle.std.proofs.Common.{◌≡◌, ◌∙◌, ℕ, ◌+◌, ◌++◌, [], Bool, false, true, true≢false, List, Option, None, Some, IfSome, ap, inl, inr, refl, subst, sym, ⊎_elim}
use Rattle.std.specs.Prelude.{◌⊎◌, not}
use Rattle.std.specs.Io.KnownBytes.{IsAtEnd}
use Rattle.grain_logic.specs.Logic.{Logic}
use Rattle.silo_model.specs.Opening.{Setup}
use Rattle.silo_model.specs.Whole.{Whole}
use Rattle.silo_core.specs.History.{History}
use Rattle.answer_model.specs.Idle.{AllIdle}
use Rattle.line_text.specs.Reading.{IsFresh, Reading, left_of}
use Rattle.line_text.proofs.LinesOfBytes.{left_of-fresh}
use Rattle.line_answer.specs.Dropped.{MayDrop}
use Rattle.log_host.specs.Acts.{Act, Held}
use Rattle.log_host.specs.Lasting.{LastsFrom}
use Rattle.log_host.specs.declared.place.LogPlace.{LogPlace}
use Rattle.log_answer.specs.Answers.{SameTables, silo_log}
use Rattle.log_answer.specs.Runs.{AnswersPart, GoesOn, RunsOn, StopsLogged}
use Rattle.log_answer.specs.declared.running.LogFault.{LogFault}
use Rattle.log_answer.proofs.Left.{left_is_all}
use Rattle.command_parts.specs.Setups.{Start, Version, started, version_of}
use Rattle.command_parts.specs.declared.failure.Cause.{Cause}
use Rattle.command_parts.specs.declared.failure.Cause.TheVariants as cause
use Rattle.data_command.specs.Data.{AnswersData, DataFailsBy, DataLasts, LogClaims, LogView, Stands, since}
use Rattle.data_command.specs.Passing.{RunCuts, RunHas, RunLasts, lines_passed}
use Rattle.data_command.specs.Words.{head_words}
use Rattle.data_command.specs.inside.Replacing.{GoesOnNext, MayBeReplaced, StaysOn}
use Rattle.data_command.specs.inside.Starts.{IsStarted, WasStarted, running_cause}
use Rattle.data_command.specs.declared.fault.DataFault.TheVariants as data_fault
use Rattle.data_command.specs.declared.starting.LogTask.{LogTask}
use Rattle.data_command.specs.declared.starting.StartedLog.{StartedLog}
use Rattle.data_command.proofs.Runs.{begin_there, run_answers, run_fails, run_unreplaced, same_words, words_then}
use Rattle.data_command.proofs.Segments.{Segments, answers_more, as_it_is, as_lasts, as_told, begins_so, goes_next, has_input, known, knows_sync, lets_go, stops, whole}

-- The same of a run since its start, whose reader nothing was read ahead of.
pub record OnLogs (keeps : Bool) (version : Version) (setup : Setup) (sends : ℕ) (synced : Bool) (old : LogView) (reader before : Option (List ℕ)) (left : Option (List ℕ)) (now : History)
    (after : Option (List ℕ)) (count : ℕ) (number : List ℕ) (place : LogPlace) (log : LogView) : Type 0 where
  pub fresh : Reading
  pub none : IsFresh fresh
  pub first : History
  pub mid : LogView
  pub was : WasStarted keeps (started version setup) sends (since old mid) first
  pub segments : Segments keeps version setup sends synced old first (left_of fresh reader) before left now after count number place log
  pub words : head_words (started version now.setup) sends ≡ head_words (started version setup) sends

-- ---- at the start

was_idle : (keeps : Bool) (start : Start) (sends : ℕ) (log : LogClaims) (silo : History) (st : WasStarted keeps start sends log silo) → AllIdle silo.whole.entries
was_idle keeps start sends log silo st = subst AllIdle (sym (ap (λ (w : Whole). w.entries) (left_is_all keeps st.all silo st.has))) st.starts.leads.idle

pub starts_so : (keeps : Bool) (version : Version) (setup : Setup) (sends : ℕ) (synced : Bool) (old mid log : LogView) (reader before : Option (List ℕ)) (fresh : Reading) → IsFresh fresh → (first : History)
    (begun : StartedLog) → IsStarted keeps (started version setup) sends (since old mid) begun first → (synced ≡ true → (log.acts ≡ mid.acts) × (log.begun ≡ mid.begun)) → log.past ≡ mid.past
    → OnLogs keeps version setup sends synced old reader before (left_of fresh reader) first before 0 begun.number begun.place log
starts_so keeps version setup sends synced old mid log reader before fresh none first begun st same past = record {
  fresh = fresh;
  none = none;
  first = first;
  mid = mid;
  was = st.was;
  segments = begins_so keeps version setup sends synced old first (left_of fresh reader) before mid log begun st (was_idle keeps (started version setup) sends (since old mid) first st.was)
      (λ k. (same (knows_sync synced old.acts k)).0) (λ k. (same (knows_sync synced old.acts k)).1) (λ k. past);
  words = sym (words_then keeps (started version setup) sends (since old mid) first st.was first.setup (record { tenants = refl; age = refl; ages = refl }));
}

-- a start that failed
pub lasts_single : (start : Start) (sends : ℕ) (log : LogClaims) → DataLasts start sends log → RunLasts start sends log
lasts_single start sends log d e = ⊎_elim (λ same. inl same) (λ on. inr (record { passed = []; own = start; view = log.old; passes = (refl, refl); holds = on })) (d e)

module _ {keeps : Bool} {version : Version} {setup : Setup} {sends : ℕ} {synced : Bool} {old : LogView} {reader before left : Option (List ℕ)} {now : History} {after : Option (List ℕ)} {count : ℕ}
    {number : List ℕ} {place : LogPlace} {log : LogView} (o : OnLogs keeps version setup sends synced old reader before left now after count number place log) where
  abbrev start : Start
  start = started version setup

  -- ---- one step more

  -- the log was replaced, or goes on
  pub handed : keeps ≡ false → (words : List ℕ) → words ≡ head_words start sends → (later : LogView) (new : History) (begun : StartedLog) → MayDrop false now new → SameTables now.setup new.setup
      → ((later ≡ log) × (begun.place ≡ place) × (begun.number ≡ number)) ⊎ GoesOnNext version sends words log later number now new begun
      → OnLogs keeps version setup sends synced old reader before left new after count begun.number begun.place later
  handed drops words worded later new begun gone tables next = record {
    fresh = o.fresh;
    none = o.none;
    first = o.first;
    mid = o.mid;
    was = o.was;
    segments = by next;
    words = worded_new;
  }
    where
      gone_so : MayDrop keeps now new
      gone_so = subst (λ (b : Bool). MayDrop b now new) (sym drops) gone

      worded_new : head_words (started version new.setup) sends ≡ head_words start sends
      worded_new = sym (same_words version sends now.setup new.setup tables) ∙ o.words

      by : ((later ≡ log) × (begun.place ≡ place) × (begun.number ≡ number)) ⊎ GoesOnNext version sends words log later number now new begun
          → Segments keeps version setup sends synced old o.first (left_of o.fresh reader) before left new after count begun.number begun.place later
      by (inl (same, at, digits)) =
          subst (λ (v : LogView). Segments keeps version setup sends synced old o.first (left_of o.fresh reader) before left new after count begun.number begun.place v) (sym same)
          (subst (λ (p : LogPlace). Segments keeps version setup sends synced old o.first (left_of o.fresh reader) before left new after count begun.number p log) (sym at)
          (subst (λ (n : List ℕ). Segments keeps version setup sends synced old o.first (left_of o.fresh reader) before left new after count n place log) (sym digits)
          (lets_go keeps version setup sends synced old o.first (left_of o.fresh reader) before left now after count number place log o.segments new gone_so)))
      by (inr n) =
          goes_next keeps version setup sends synced old o.first (left_of o.fresh reader) before left now after count number place log o.segments words worded later new begun n.sum n.spelt n.placed gone_so n.opens n.idle
          worded_new n.is

  -- more lines were answered
  pub answered : (most : ℕ) → most ≡ sends → (here : Bool) → here ≡ keeps → (to : LogPlace) (rest : Option (List ℕ)) (total : ℕ) (new : History) (later_out : Option (List ℕ)) (later : LogView)
      → (more : ℕ) × (total ≡ count + more) × RunsOn here version.logic most place to left rest more now new after later_out log.acts later.acts → later.begun ≡ log.begun → later.past ≡ log.past
      → SameTables now.setup new.setup → OnLogs keeps version setup sends synced old reader before rest new later_out total number to later
  answered most same here is to rest total new later_out later run begun past tables = record {
    fresh = o.fresh;
    none = o.none;
    first = o.first;
    mid = o.mid;
    was = o.was;
    segments = answers_more keeps version setup sends synced old o.first (left_of o.fresh reader) before left now after count number place log o.segments here is to rest run.0 total new later_out later
        (subst (λ (n : ℕ). RunsOn here version.logic n place to left rest run.0 now new after later_out log.acts later.acts) same run.2) run.1 begun past;
    words = sym (same_words version sends now.setup new.setup tables) ∙ o.words;
  }

  -- ---- the end

  module _ (reading : Reading) (rest : Option (List ℕ)) (none_ahead : IsFresh reading) (end : IsAtEnd rest) (same : left ≡ left_of reading rest) where
    at_rest : left ≡ rest
    at_rest = same ∙ left_of-fresh reading rest none_ahead

    pub ends_answered : AnswersData start sends (since old log) reader rest before after
    ends_answered =
        run_answers keeps start sends old o.mid log o.first o.was o.fresh o.none reader rest before after keeps refl now _ end
        (subst (λ (l : Option (List ℕ)). IfSome (left_of o.fresh reader) (λ bytes. AnswersPart keeps version.logic sends bytes (lines_passed o.segments.passed ++ o.segments.run.lines) o.first now l before after)) at_rest
        (whole keeps version setup sends synced old o.first (left_of o.fresh reader) before left now after count number place log o.segments))

    pub ends_has : synced ≡ true → RunHas start sends (since old log) reader
    ends_has sync e =
        begin_there o.fresh o.none reader _
        (has_input keeps version setup sends synced old o.first (left_of o.fresh reader) before left now after count number place log o.segments (known synced old.acts sync e) (subst IsAtEnd (sym at_rest) end))

  pub ends_cut : synced ≡ true → RunCuts start sends (since old log)
  ends_cut sync e = as_it_is keeps version setup sends synced old o.first (left_of o.fresh reader) before left now after count number place log o.segments (known synced old.acts sync e)

  pub ends_lasts : synced ≡ true → RunLasts start sends (since old log)
  ends_lasts sync e = inr (ends_cut sync e)

  -- ---- it stops

  pub stops_lasts : synced ≡ true → (most : ℕ) → most ≡ sends → (later : LogView) → later.begun ≡ log.begun → later.past ≡ log.past
      → ((w : Whole) (sum : ℕ) (h : Held) (acts : List Act) → log.acts ≡ Some acts → GoesOn version.logic most w sum place h now.whole → LastsFrom (silo_log version.logic most w place.name sum) h acts later.acts)
      → RunLasts start sends (since old later)
  stops_lasts sync most same later kept past lasts e =
      inr (as_lasts keeps version setup sends synced old o.first (left_of o.fresh reader) before left now after count number place log o.segments (known synced old.acts sync e) later kept past
      (subst (λ (n : ℕ). (w : Whole) (sum : ℕ) (h : Held) (acts : List Act) → log.acts ≡ Some acts → GoesOn version.logic n w sum place h now.whole → LastsFrom (silo_log version.logic n w place.name sum) h acts later.acts) same lasts))

  pub stops_told : synced ≡ true → (words : List ℕ) → words ≡ head_words start sends → (later : LogView)
      → ((one : Start) (from : LogView) (bytes : List ℕ) (acts : List Act) → MayBeReplaced one version sends words number (since from log) bytes acts now.whole → Stands one sends (since from later) number bytes acts)
      → RunLasts start sends (since old later)
  stops_told sync words worded later told e =
      inr (as_told keeps version setup sends synced old o.first (left_of o.fresh reader) before left now after count number place log o.segments (known synced old.acts sync e) words worded later told)

  pub stops_by : (most : ℕ) → most ≡ sends → (later : LogView) (rest later_out : Option (List ℕ)) (reading : Reading) (why : LogFault) (told : Cause) → told ≡ running_cause why
      → IfSome left (λ bytes. StopsLogged version.logic most count bytes reading rest later.failed now.whole after later_out why)
      → DataFailsBy start sends (since old later) (data_fault.Failed told) reader rest reading before later_out
  stops_by most same later rest later_out reading why told is h =
      run_fails keeps start sends old o.mid later o.first o.was o.fresh o.none reader rest before later_out reading why told is
      (stops keeps version setup sends synced old o.first (left_of o.fresh reader) before left now after count number place log o.segments rest later_out reading later.failed why
      (subst (λ (n : ℕ). IfSome left (λ bytes. StopsLogged version.logic n count bytes reading rest later.failed now.whole after later_out why)) same h))

  pub stops_unreplaced : (later : LogView) (rest : Option (List ℕ)) (reading : Reading) (told : Cause) → (told ≡ cause.Memory) ⊎ ((told ≡ cause.Write) × (later.failed ≡ true))
      → DataFailsBy start sends (since old later) (data_fault.Failed told) reader rest reading before after
  stops_unreplaced later rest reading told is =
      run_unreplaced keeps start sends old o.mid later o.first o.was o.fresh o.none reader rest before after keeps now _ left reading told is
      (whole keeps version setup sends synced old o.first (left_of o.fresh reader) before left now after count number place log o.segments)

-- ---- a step of the run, by what is done with its task

module _ {keeps : Bool} {logic : Logic} {next : LogTask} {setup : Setup} {synced : Bool} {old : LogView} {reader before left : Option (List ℕ)} {now : History} {after : Option (List ℕ)} {count : ℕ}
    {F : Type 0} {files later : F} (view : F → LogView) (task : LogTask) (log : StartedLog)
    (o : OnLogs keeps (version_of logic task.kinds) setup task.sends synced old reader before left now after count log.number log.place (view files))
    (worded : task.words.items ≡ head_words (started (version_of logic task.kinds) setup) task.sends) (same : next ≡ record task { log = None }) where
  -- a checkpoint took the log's place, or the log goes on
  pub replaced : {new : History} {begun : StartedLog} → keeps ≡ false → MayDrop false now new → SameTables now.setup new.setup
      → StaysOn (version_of logic next.kinds) next.sends new.setup files later log begun
      ⊎ GoesOnNext (version_of logic next.kinds) next.sends next.words.items (view files) (view later) log.number now new begun
      → OnLogs keeps (version_of logic task.kinds) setup task.sends synced old reader before left new after count begun.number begun.place (view later)
  replaced {new} {begun} drops gone tables is =
      handed o drops task.words.items worded (view later) new begun gone tables
      (⊎_elim (λ (s : StaysOn (version_of logic task.kinds) task.sends new.setup files later log begun). inl (ap view s.same, s.place, s.number)) (λ n. inr n)
      (subst (λ (t : LogTask). StaysOn (version_of logic t.kinds) t.sends new.setup files later log begun
      ⊎ GoesOnNext (version_of logic t.kinds) t.sends t.words.items (view files) (view later) log.number now new begun) same is))

  -- it failed
  pub unreplaced : synced ≡ true
      → ((one : Start) (from : LogView) (bytes : List ℕ) (acts : List Act)
      → MayBeReplaced one (version_of logic next.kinds) next.sends next.words.items log.number (since from (view files)) bytes acts now.whole
      → Stands one next.sends (since from (view later)) log.number bytes acts)
      → RunLasts (started (version_of logic task.kinds) setup) task.sends (since old (view later))
  unreplaced sync told =
      stops_told o sync task.words.items worded (view later)
      (subst (λ (t : LogTask). (one : Start) (from : LogView) (bytes : List ℕ) (acts : List Act)
      → MayBeReplaced one (version_of logic t.kinds) t.sends t.words.items log.number (since from (view files)) bytes acts now.whole
      → Stands one t.sends (since from (view later)) log.number bytes acts) same told)

-- a run that hasn't come to its end takes one step more
abbrev pub still : Bool → ℕ
still true = 0
still false = 1

pub not_paused : (paused : Bool) → not paused ≡ true → paused ≡ false
not_paused true is = absurd (true≢false (sym is))
not_paused false is = refl
