-- What a run makes of a log that was started.
use Rattle.std.proofs.Common.{◌≡◌, ◌∙◌, ℕ, Bool, List, [], Option, None, Some, ap, inl, inr, length, refl, sym, subst, true}
use Rattle.std.specs.Prelude.{◌⊎◌, IfSome}
use Rattle.std.specs.Io.KnownBytes.{IsAtEnd}
use Rattle.silo_model.specs.Opening.{Setup, opening}
use Rattle.silo_model.specs.Whole.{Whole}
use Rattle.silo_core.specs.History.{History}
use Rattle.line_text.specs.Reading.{IsFresh, Reading, left_of}
use Rattle.line_text.proofs.LinesOfBytes.{left_of-fresh}
use Rattle.log_text.specs.Head.{first_sum, name_of, words_text}
use Rattle.log_text.specs.Reading.{left_in}
use Rattle.log_text.specs.Sums.{own_sums}
use Rattle.log_text.proofs.Stands.{read_stands}
use Rattle.log_host.specs.Acts.{Act, Always}
use Rattle.log_host.specs.Lasting.{Lasts, lines_in}
use Rattle.log_host.specs.Laws.{restarted}
use Rattle.answer_model.proofs.Reached.{IsReached}
use Rattle.log_answer.specs.Answers.{SameTables}
use Rattle.log_answer.specs.Runs.{AnswersPart, StopsLogged}
use Rattle.log_answer.specs.declared.running.LogFault.{LogFault}
use Rattle.log_answer.specs.declared.running.LogFault.TheVariants as log_fault
use Rattle.log_answer.proofs.Left.{led_reached, left_is_all, logged_on, stops_alike}
use Rattle.log_answer.proofs.Parts.{tells_part}
use Rattle.command_parts.specs.Setups.{Start, Version, started}
use Rattle.command_parts.specs.declared.failure.Cause.TheVariants as cause
use Rattle.command_parts.specs.declared.failure.Cause.{Cause}
use Rattle.data_command.specs.Data.{AnswersData, DataFailsBy, HasBehind, LastsOn, LogClaims, LogView, Stands, data_log, since}
use Rattle.data_command.specs.Words.{head_words, words_by}
use Rattle.data_command.specs.inside.Replacing.{MayBeReplaced}
use Rattle.data_command.specs.inside.Starts.{IsStarted, WasStarted, running_cause}
use Rattle.data_command.specs.declared.starting.StartedLog.{StartedLog}
use Rattle.data_command.specs.declared.fault.DataFault.TheVariants as data_fault

on_some : (o : Option (List ℕ)) {P Q : List ℕ → Type 0} → ((xs : List ℕ) → P xs → Q xs) → IfSome o P → IfSome o Q
on_some None f h = h
on_some (Some xs) f h = f xs h

-- of an input of which nothing is read ahead
pub begin_there : (fresh : Reading) → IsFresh fresh → (from : Option (List ℕ)) (P : List ℕ → Type 0) → IfSome (left_of fresh from) P → IfSome from P
begin_there fresh none from P h = subst (λ (o : Option (List ℕ)). IfSome o P) (left_of-fresh fresh from none) h

-- ---- the words of a head

-- of the same tables they are the same
pub same_words : (version : Version) (sends : ℕ) (old new : Setup) → SameTables old new → head_words (started version old) sends ≡ head_words (started version new) sends
same_words version sends old new t = λ i. words_text (words_by version.number sends (sym t.age i) (sym t.ages i) (sym t.tenants i))

-- and so they are where the silo goes on
pub words_then : (keeps : Bool) (start : Start) (sends : ℕ) (log : LogClaims) (silo : History) (st : WasStarted keeps start sends log silo) (new : Setup) → SameTables silo.setup new
    → head_words start sends ≡ head_words (started start.version new) sends
words_then keeps start sends log silo st new t =
    ap (λ (s : Setup). head_words (started start.version s) sends) (sym st.starts.leads.setup)
    ∙ same_words start.version sends st.all.setup silo.setup st.has.tables ∙ same_words start.version sends silo.setup new t

-- what is said of other deliveries and of another number is said of those that are the same
pub said_of : (start : Start) (version : Version) (words : List ℕ) (old told new : LogView) (silo : Whole) (sends those : ℕ) → those ≡ sends → (number other : List ℕ) → other ≡ number
    → ((bytes : List ℕ) (acts : List Act) → MayBeReplaced start version those words other (since old told) bytes acts silo → Stands start those (since old new) other bytes acts)
    → (bytes : List ℕ) (acts : List Act) → MayBeReplaced start version sends words number (since old told) bytes acts silo → Stands start sends (since old new) number bytes acts
said_of start version words old told new silo sends those same number other is f =
    subst (λ (n : ℕ). (bytes : List ℕ) (acts : List Act) → MayBeReplaced start version n words number (since old told) bytes acts silo → Stands start n (since old new) number bytes acts) same
    (subst (λ (m : List ℕ). (bytes : List ℕ) (acts : List Act) → MayBeReplaced start version those words m (since old told) bytes acts silo → Stands start those (since old new) m bytes acts) is f)

-- ---- what was answered

module _ (keeps : Bool) (start : Start) (sends : ℕ) (old mid new : LogView) (silo : History) (st : WasStarted keeps start sends (since old mid) silo) where
  -- the history that would be is one to which steps lead from the opening
  all_reached : IsReached start.version.logic start.setup st.all.whole
  all_reached =
      subst (IsReached start.version.logic start.setup) (sym st.starts.leads.whole)
      (led_reached start.version.logic sends start.setup (opening start.setup) (lines_in (data_log start sends st.starts.number) st.starts.bytes) ([], refl))

  -- what was answered, of the histories that would be
  answers_by : (here : Bool) → here ≡ keeps → (after_it : History) (lines : List (List ℕ)) (left before after from : Option (List ℕ)) → IsAtEnd left
      → IfSome from (λ bytes. AnswersPart here start.version.logic sends bytes lines silo after_it left before after) → AnswersData start sends (since old new) from left before after
  answers_by here is after_it lines left before after None end h = record { found = st.found; was = st.was; silo = st.all; starts = st.starts; new = st.all; answered = tt }
  answers_by here is after_it lines left before after (Some input) end h =
      let on = logged_on start.version.logic sends keeps here start.setup st.all silo after_it all_reached is st.has input lines left before after h end in
      record { found = st.found; was = st.was; silo = st.all; starts = st.starts; new = on.0; answered = (length lines, on.1) }

  stops_by : (why : LogFault) (reading : Reading) (left before after from : Option (List ℕ))
      → IfSome from (λ bytes. StopsLogged start.version.logic sends 0 bytes reading left new.failed silo.whole before after why)
      → IfSome from (λ bytes. StopsLogged start.version.logic sends 0 bytes reading left new.failed st.all.whole before after why)
  stops_by why reading left before after None h = tt
  stops_by why reading left before after (Some input) h =
      stops_alike start.version.logic sends silo.whole st.all.whole (left_is_all keeps st.all silo st.has) 0 input reading left new.failed before after why h

  module _ (fresh : Reading) (none : IsFresh fresh) (from : Option (List ℕ)) where
    module _ (left before after : Option (List ℕ)) where
      -- all was answered
      pub run_answers : (here : Bool) → here ≡ keeps → (after_it : History) (lines : List (List ℕ)) → IsAtEnd left
          → IfSome (left_of fresh from) (λ bytes. AnswersPart here start.version.logic sends bytes lines silo after_it left before after) → AnswersData start sends (since old new) from left before after
      run_answers here is after_it lines end h = answers_by here is after_it lines left before after from end (begin_there fresh none from _ h)

      stops_here : (reading : Reading) (why : LogFault) → IfSome (left_of fresh from) (λ bytes. StopsLogged start.version.logic sends 0 bytes reading left new.failed silo.whole before after why)
          → IfSome from (λ bytes. StopsLogged start.version.logic sends 0 bytes reading left new.failed st.all.whole before after why)
      stops_here reading why k =
          stops_by why reading left before after from (begin_there fresh none from (λ bytes. StopsLogged start.version.logic sends 0 bytes reading left new.failed silo.whole before after why) k)

      -- or not
      pub run_fails : (reading : Reading) (why : LogFault) (told : Cause) → told ≡ running_cause why → IfSome (left_of fresh from) (λ bytes. StopsLogged start.version.logic sends 0 bytes reading left new.failed silo.whole before after why)
          → DataFailsBy start sends (since old new) (data_fault.Failed told) from left reading before after
      run_fails reading why told is h = subst (λ (c : Cause). DataFailsBy start sends (since old new) (data_fault.Failed c) from left reading before after) (sym is) (by why h)
        where
          by : (why : LogFault) → IfSome (left_of fresh from) (λ bytes. StopsLogged start.version.logic sends 0 bytes reading left new.failed silo.whole before after why)
              → DataFailsBy start sends (since old new) (data_fault.Failed (running_cause why)) from left reading before after
          by log_fault.Read k = inr (record { found = st.found; was = st.was; silo = st.all; starts = st.starts; stopped = stops_here reading log_fault.Read k })
          by log_fault.Write k = inr (record { found = st.found; was = st.was; silo = st.all; starts = st.starts; stopped = stops_here reading log_fault.Write k })
          by log_fault.Memory k = inr (record { found = st.found; was = st.was; silo = st.all; starts = st.starts; stopped = stops_here reading log_fault.Memory k })
          by log_fault.TooMuch k = inr (record { found = st.found; was = st.was; silo = st.all; starts = st.starts; stopped = stops_here reading log_fault.TooMuch k })

      -- what was answered was told, and then no checkpoint came in the place of the log
      pub run_unreplaced : (here : Bool) (after_it : History) (lines : List (List ℕ)) (ends : Option (List ℕ)) (reading : Reading) (told : Cause) → (told ≡ cause.Memory) ⊎ ((told ≡ cause.Write) × (new.failed ≡ true))
          → IfSome (left_of fresh from) (λ bytes. AnswersPart here start.version.logic sends bytes lines silo after_it ends before after)
          → DataFailsBy start sends (since old new) (data_fault.Failed told) from left reading before after
      unfolding tells_part
      run_unreplaced here after_it lines ends reading told (inl is) h =
          run_fails reading log_fault.Memory told is (on_some (left_of fresh from) (λ input part. (tells_part here start.version.logic sends input lines silo after_it ends before after part, refl)) h)
      run_unreplaced here after_it lines ends reading told (inr (is, failed)) h =
          run_fails reading log_fault.Write told is (on_some (left_of fresh from) (λ input part. (tells_part here start.version.logic sends input lines silo after_it ends before after part, failed)) h)

-- ---- what the log has

module _ (keeps : Bool) (start : Start) (sends : ℕ) (old mid new : LogView) (begun : StartedLog) (silo : History) (st : IsStarted keeps start sends (since old mid) begun silo) where
  abbrev number : List ℕ
  number = st.was.starts.number

  abbrev bytes : List ℕ
  bytes = st.was.starts.bytes

  pub behind_there : old.acts ≡ Some [] → HasBehind (head_words start sends) number old.begun bytes
  behind_there e = subst (λ (o : Option (List ℕ)). HasBehind (head_words start sends) number o bytes) (st.was.was e) st.was.starts.behind

  -- it goes on, and became this
  unfoldable pub goes_with : old.acts ≡ Some [] → (acts : List Act) → Always (Lasts (data_log start sends number)) (restarted (data_log start sends number) bytes) acts
      → Stands start sends (since old new) number bytes acts → LastsOn start sends (since old new)
  goes_with e acts always stands = record {
    number = number;
    bytes = bytes;
    numbered = st.was.starts.numbered;
    behind = behind_there e;
    off = left_in own_sums (name_of number) (first_sum (head_words start sends) number) bytes;
    parts = read_stands own_sums (name_of number) (first_sum (head_words start sends) number) bytes;
    acts = acts;
    always = always;
    stands = stands;
  }
