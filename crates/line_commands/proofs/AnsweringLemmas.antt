-- How answering lines at once ends, by what failed.
use Rattle.idle_collector.specs.Ages.{Ages}
use Rattle.std.proofs.KnownBytes.{Appends-kept, Keeps-refl, Keeps-trans}
use Rattle.command_parts.specs.declared.failure.Cause.{Cause}
use Rattle.std.proofs.Common.{Bool, Err, IfErr, List, None, Ok, Option, Result, Some, [], true, false, ap, append-nil, append_assoc, inl, inr, refl, subst}
use Rattle.std.proofs.Common.{sym, ℕ, ⊎_elim, ◌++◌, ◌∙◌, ◌∷◌, ◌≡◌, ◌≢◌, ◌⊎◌}
use Rattle.command_parts.specs.Files.{FileClaims, claims}
use Rattle.silo_core.specs.History.{History}
use Rattle.silo_core.specs.Reopening.{OpensEmpty}
use Rattle.silo_core.proofs.Opened.{opens_empty}
use Rattle.line_text.specs.Reading.{IsFresh, Reading, left_of}
use Rattle.command_parts.specs.Kept.{IsKeepingCause, KeepsJournal, KeepsSecond, MayFailAgain, MayFailAt, WritesAtMost, empty_journal}
use Rattle.command_parts.specs.Kept.{opened}
use Rattle.std.specs.Io.KnownBytes.{Keeps}
use Rattle.line_text.specs.declared.fault.LineFault.{LineFault}
use Rattle.std.specs.Prelude.{IfSome, OnOk}
use Rattle.silo_model.specs.Opening.{Setup, opening}
use Rattle.tenant_gate.specs.Table.{Table}
use Rattle.line_text.specs.declared.written.WriterCalls.{WriterCalls}
use Rattle.line_commands.specs.Answering.{AnsweringFailsBy, AnswersFirst, AnswersInput, AnswersLanes, AnswersToEnd, AnswersUpTo, EndsBy}
use Rattle.line_commands.specs.Answering.{WritesJournalsAtMost}
use Rattle.journal_text.specs.Text.{journal_text}
use Rattle.line_text.proofs.LinesOfBytes.{left_of-fresh}
use Rattle.line_text.specs.Lines.{lines_of}
use Rattle.command_parts.specs.Setups.{Start, setup_of}
use Rattle.command_parts.specs.Status.{cause_of}
use Rattle.grain_logic.specs.Logic.{Logic}
use Rattle.line_parser.specs.Meaning.{meaning_of}
use Rattle.line_text.specs.declared.fault.LineFault.TheVariants as line
use Rattle.line_answer.specs.Dropped.{Leaves}
use Rattle.line_answer.specs.Runs.{AnswersAll, AnswersBefore, AnswersLine, AnswersLines, AnswersOn, KeepsSetup, LeavesBy, StopsBy, StopsOn, WritesOn}
use Rattle.line_answer.proofs.Asked.{Hears, hears_more, hears_own}
use Rattle.command_parts.specs.Journals.{silo_journal}
use Rattle.command_parts.proofs.KeptLemmas.{HasFirst, both_kept, may_fail_again}
use Rattle.command_parts.specs.declared.failure.Cause.TheVariants as cause

-- ---- the silo that answers

-- it opens with no step
pub opens : (setup : Setup) (silo : History) → silo.setup ≡ setup → (silo.whole ≡ opening setup) × (silo.journal ≡ []) → silo.failures ≡ record { at_opening = 0; now = 0 } → silo ≡ opened setup
opens setup silo s o f = λ i. record { setup = s i; whole = o.0 i; journal = o.1 i; failures = f i }

-- it opens empty
pub opens_so : (setup : Setup) (tenants : Table) (age : ℕ) (ages : Ages) → setup ≡ setup_of tenants age ages → OpensEmpty setup
opens_so setup tenants age ages is = opens_empty setup tenants age ages is

-- and that stays so of a silo that keeps its history, unless memory was refused
pub empty_kept : (why : LineFault) (old new : History) → OpensEmpty old.setup → KeepsSetup why old new → why ≢ line.Memory → OpensEmpty new.setup
empty_kept line.Read old new empty kept other = subst OpensEmpty (sym kept) empty
empty_kept line.TooMuch old new empty kept other = subst OpensEmpty (sym kept) empty
empty_kept line.Write old new empty kept other = subst OpensEmpty (sym kept) empty
empty_kept line.Memory old new empty kept other = absurd (other refl)

-- ---- what was written goes out

module _ (logic : Logic) (n : ℕ) (input : List ℕ) (old new : History) (before during after : Option (List ℕ)) (kept : Keeps during after) where
  before_kept : (mid : History) → AnswersBefore logic n (lines_of input) old mid before during → AnswersBefore logic n (lines_of input) old mid before after
  before_kept mid h = record { done = h.done; rest = h.rest; parts = h.parts; text = h.text; answers = h.answers; written = Appends-kept before during after h.text h.written kept }

  on_kept : (rest : List (List ℕ)) (mid : History) (out : Option (List ℕ)) → WritesOn logic n rest mid new out during → WritesOn logic n rest mid new out after
  on_kept rest mid out (inl h) = inl (h.0, Keeps-trans out during after h.1 kept)
  on_kept rest mid out (inr h) = inr (h.0, h.1, h.2, h.3, h.4, record { front = h.5.front; back = h.5.back; parts = h.5.parts; written = Appends-kept out during after h.5.front h.5.written kept })

  stops_kept : (why : LineFault) (reading : Reading) (left : Option (List ℕ)) (writing : WriterCalls) → StopsBy logic n input reading left writing old new before during why
      → StopsBy logic n input reading left writing old new before after why
  unfolding before_kept
  stops_kept line.Read reading left writing h = (before_kept new h.0, h.1, h.2)
  stops_kept line.TooMuch reading left writing h = (before_kept new h.0, h.1)
  stops_kept line.Memory reading left writing h = (h.0, before_kept h.0 h.1, h.2)
  stops_kept line.Write reading left writing h = (h.0, h.1, h.2, on_kept h.2.rest h.0 h.1 h.3, h.4)

module _ (keeps : Bool) (logic : Logic) (sends : ℕ) (fresh : Reading) (from left : Option (List ℕ)) (old new : History) (before : Option (List ℕ)) (none : IsFresh fresh) where
  -- of an input of which nothing is read ahead
  pub all_read : (count : ℕ) (after : Option (List ℕ)) → IfSome (left_of fresh from) (λ input. AnswersOn keeps logic sends input count old new left before after)
      → IfSome from (λ input. (count : ℕ) × AnswersOn keeps logic sends input count old new left before after)
  all_read count after h =
      go from (subst (λ (o : Option (List ℕ)). IfSome o (λ input. AnswersOn keeps logic sends input count old new left before after)) (left_of-fresh fresh from none) h)
    where
      go : (o : Option (List ℕ)) → IfSome o (λ input. AnswersOn keeps logic sends input count old new left before after) → IfSome o (λ input. (count : ℕ) × AnswersOn keeps logic sends input count old new left before after)
      go None all = tt
      go (Some input) all = (count, all)

  pub stops_out : (why : LineFault) (reading : Reading) (writing : WriterCalls) (during after : Option (List ℕ)) → Keeps during after
      → IfSome (left_of fresh from) (λ input. StopsOn keeps logic sends input reading left writing old new before during why)
      → IfSome from (λ input. StopsOn keeps logic sends input reading left writing old new before after why)
  stops_out why reading writing during after kept h =
      go from (subst (λ (o : Option (List ℕ)). IfSome o (λ input. StopsOn keeps logic sends input reading left writing old new before during why)) (left_of-fresh fresh from none) h)
    where
      go : (o : Option (List ℕ)) → IfSome o (λ input. StopsOn keeps logic sends input reading left writing old new before during why) → IfSome o (λ input. StopsOn keeps logic sends input reading left writing old new before after why)
      go None stops = tt
      go (Some input) stops = record {
        all = stops.all;
        leaves = stops.leaves;
        stops = stops_kept logic sends input old stops.all before during after kept why reading left writing stops.stops;
      }

-- ---- of a silo that keeps its history, all of it is there

module _ (keeps : Bool) (is : keeps ≡ true) (logic : Logic) (sends : ℕ) (left : Option (List ℕ)) (old new : History) (before after : Option (List ℕ)) where
  all_there : (all : History) → Leaves keeps all new → all ≡ new
  all_there all leaves = sym (subst (λ b. Leaves b all new) is leaves)

  pub answers_all : (from : Option (List ℕ)) → IfSome from (λ input. (count : ℕ) × AnswersOn keeps logic sends input count old new left before after)
      → IfSome from (λ input. (count : ℕ) × AnswersAll logic sends input count old new left before after)
  answers_all None h = tt
  answers_all (Some input) h =
      (h.0, subst (λ (s : History). AnswersAll logic sends input h.0 old s left before after) (all_there h.1.all h.1.leaves) h.1.answers)

  module _ (reading : Reading) (writing : WriterCalls) where
    stops_there : (why : LineFault) (input : List ℕ) (all : History) → LeavesBy why keeps all new → StopsBy logic sends input reading left writing old all before after why
        → StopsBy logic sends input reading left writing old new before after why
    stops_there line.Read input all leaves h = subst (λ (s : History). StopsBy logic sends input reading left writing old s before after line.Read) (all_there all leaves) h
    stops_there line.TooMuch input all leaves h = subst (λ (s : History). StopsBy logic sends input reading left writing old s before after line.TooMuch) (all_there all leaves) h
    stops_there line.Write input all leaves h = subst (λ (s : History). StopsBy logic sends input reading left writing old s before after line.Write) (all_there all leaves) h
    stops_there line.Memory input all leaves h = h

    pub stops_all : (why : LineFault) (from : Option (List ℕ)) → IfSome from (λ input. StopsOn keeps logic sends input reading left writing old new before after why)
        → IfSome from (λ input. StopsBy logic sends input reading left writing old new before after why)
    stops_all why None h = tt
    stops_all why (Some input) h = stops_there why input h.all h.leaves h.stops

-- ---- which silo the lines led to

module _ (start : Start) (sends : ℕ) where
  all_first : (input : List ℕ) (count : ℕ) (silo : History) (left before after : Option (List ℕ)) → AnswersAll start.version.logic sends input count (opened start.setup) silo left before after → AnswersFirst start sends input silo
  all_first input count silo left before after h = record { done = lines_of input; rest = []; parts = sym (append-nil (lines_of input)); text = h.text; answers = h.answers }

  before_first : (input : List ℕ) (silo : History) (before after : Option (List ℕ)) → AnswersBefore start.version.logic sends (lines_of input) (opened start.setup) silo before after → AnswersFirst start sends input silo
  before_first input silo before after h = record { done = h.done; rest = h.rest; parts = h.parts; text = h.text; answers = h.answers }

  -- one line more
  one_more : (mid silo : History) (done : List (List ℕ)) (l text last : List ℕ) → AnswersLines start.version.logic sends (opened start.setup) done mid text → AnswersLine start.version.logic sends mid (meaning_of l) silo last
      → AnswersLines start.version.logic sends (opened start.setup) (done ++ l ∷ []) silo (text ++ last)
  one_more mid silo done l text last p answers =
      let heard : Hears start.version.logic sends (opened start.setup) done mid text = record { heard = p.heard; said = p.said; tries = p.tries; text_is = p.text_is; idle = p.idle } in
      hears_own start.version.logic sends (opened start.setup) silo (done ++ l ∷ []) (text ++ last) refl (hears_more start.version.logic sends (opened start.setup) mid silo done l text last heard answers)

  writing_first : (input : List ℕ) (mid silo : History) (before during after : Option (List ℕ)) (p : AnswersBefore start.version.logic sends (lines_of input) (opened start.setup) mid before during)
      → WritesOn start.version.logic sends p.rest mid silo during after → AnswersFirst start sends input silo
  writing_first input mid silo before during after p (inl h) = subst (λ (s : History). AnswersFirst start sends input s) (sym h.0) (before_first input mid before during p)
  writing_first input mid silo before during after p (inr h) = record {
    done = p.done ++ h.0 ∷ [];
    rest = h.1;
    parts = p.parts ∙ ap (λ rest. p.done ++ rest) h.3 ∙ sym (append_assoc p.done (h.0 ∷ []) h.1);
    text = p.text ++ h.2;
    answers = one_more mid silo p.done h.0 p.text h.2 p.answers h.4;
  }

  stop_first : (why : LineFault) (input : List ℕ) (silo : History) (reading : Reading) (left : Option (List ℕ)) (writing : WriterCalls) (before after : Option (List ℕ)) → why ≢ line.Memory
      → StopsBy start.version.logic sends input reading left writing (opened start.setup) silo before after why → AnswersFirst start sends input silo
  stop_first line.Read input silo reading left writing before after other h = before_first input silo before after h.0
  stop_first line.TooMuch input silo reading left writing before after other h = before_first input silo before after h.0
  stop_first line.Write input silo reading left writing before after other h = writing_first input h.0 silo before h.1 after h.2 h.3
  stop_first line.Memory input silo reading left writing before after other h = absurd (other refl)

  pub led_to_end : (from left : Option (List ℕ)) (silo : History) (before after : Option (List ℕ)) → AnswersToEnd start sends silo from left before after → IfSome from (λ input. AnswersFirst start sends input silo)
  led_to_end None left silo before after h = tt
  led_to_end (Some input) left silo before after h = all_first input h.0 silo left before after h.1

  pub led_up_to : (why : LineFault) (from left : Option (List ℕ)) (silo : History) (reading : Reading) (writing : WriterCalls) (before after : Option (List ℕ)) → why ≢ line.Memory
      → AnswersUpTo start sends why silo from left reading before after writing → IfSome from (λ input. AnswersFirst start sends input silo)
  led_up_to why None left silo reading writing before after other h = tt
  led_up_to why (Some input) left silo reading writing before after other h = stop_first why input silo reading left writing before after other h

  -- what is said of the silo that was opened
  module _ (first silo : History) (is : first ≡ opened start.setup) (from left before after : Option (List ℕ)) where
    pub to_end : IfSome from (λ input. (count : ℕ) × AnswersAll start.version.logic sends input count first silo left before after) → AnswersToEnd start sends silo from left before after
    to_end h = subst (λ (s : History). IfSome from (λ input. (count : ℕ) × AnswersAll start.version.logic sends input count s silo left before after)) is h

    pub up_to : (why : LineFault) (reading : Reading) (writing : WriterCalls) → IfSome from (λ input. StopsBy start.version.logic sends input reading left writing first silo before after why)
        → AnswersUpTo start sends why silo from left reading before after writing
    up_to why reading writing h = subst (λ (s : History). IfSome from (λ input. StopsBy start.version.logic sends input reading left writing s silo before after why)) is h

-- ---- two writes to one path

module _ {F : Type 0} (may_hold : F → List ℕ → List ℕ → Type 0) (may_fail : F → List ℕ → Type 0) (may_leave : F → List ℕ → List ℕ → F → Type 0) (start : Start) (sends : ℕ) where
  abbrev of : F → F → FileClaims
  of = claims may_hold may_fail may_leave

  -- the first
  pub first_written : (old new : F) (first : History) → first ≡ opened start.setup → (journal from : Option (List ℕ)) → WritesAtMost start.version (of old new) journal first → WritesJournalsAtMost start sends (of old new) journal from
  first_written old new first is None from same = same
  first_written old new first is (Some path) from alone =
      ⊎_elim (λ same. inl same) (λ written. inr (inl (subst (λ (s : History). may_leave old path (journal_text (silo_journal start.version s)) new) is written))) alone

  module _ (old mid new : F) (first silo : History) (is : first ≡ opened start.setup) where
    -- it is the journal of no step
    first_has : (journal : Option (List ℕ)) → KeepsJournal start.version (of old mid) journal first → HasFirst start (of old mid) journal
    first_has None a = tt
    first_has (Some path) a = subst (λ (s : History). may_leave old path (journal_text (silo_journal start.version s)) mid) is a.written

    pub second_fails : (journal : Option (List ℕ)) → KeepsJournal start.version (of old mid) journal first → MayFailAt (may_fail mid) journal → MayFailAgain start (of old new) journal
    second_fails journal a fails = may_fail_again may_hold may_fail may_leave start old mid new journal (first_has journal a) fails

    written_both : (journal from : Option (List ℕ)) → KeepsJournal start.version (of old mid) journal first → WritesAtMost start.version (of old mid) journal first → WritesAtMost start.version (of mid new) journal silo
        → IfSome from (λ input. AnswersFirst start sends input silo) → WritesJournalsAtMost start sends (of old new) journal from
    written_both None from a alone b led = b ∙ alone
    written_both (Some path) from a alone b led =
        ⊎_elim (λ same. inr (inl (subst (λ (f : F). may_leave old path (empty_journal start) f) (sym same) (first_has (Some path) a))))
        (λ written. inr (inr (record { silo = silo; led = led; written = (mid, first_has (Some path) a, written) }))) b

    -- the first alone
    one_written : (journal from : Option (List ℕ)) → KeepsJournal start.version (of old mid) journal first → WritesAtMost start.version (of old mid) journal first → new ≡ mid → WritesJournalsAtMost start sends (of old new) journal from
    one_written None from a alone same = same ∙ alone
    one_written (Some path) from a alone same = inr (inl (subst (λ (f : F). may_leave old path (empty_journal start) f) (sym same) (first_has (Some path) a)))

    -- of the silo as it is shown
    module _ (shown : History) (shows : shown ≡ silo) where
      pub second_kept : (journal : Option (List ℕ)) → KeepsJournal start.version (of old mid) journal first → KeepsJournal start.version (of mid new) journal shown → KeepsSecond start (of old new) journal silo
      second_kept journal a b =
          both_kept may_hold may_fail may_leave start old mid new journal silo (first_has journal a) (subst (λ (s : History). KeepsJournal start.version (of mid new) journal s) shows b)

      pub both_written : (journal from : Option (List ℕ)) → KeepsJournal start.version (of old mid) journal first → WritesAtMost start.version (of old mid) journal first → WritesAtMost start.version (of mid new) journal shown
          → IfSome from (λ input. AnswersFirst start sends input silo) → WritesJournalsAtMost start sends (of old new) journal from
      both_written journal from a alone b led = written_both journal from a alone (subst (λ (s : History). WritesAtMost start.version (of mid new) journal s) shows b) led

      pub stopped_files : (journal from left : Option (List ℕ)) (reading : Reading) (before after : Option (List ℕ)) (writing : WriterCalls) (why : LineFault) → KeepsJournal start.version (of old mid) journal first
          → WritesAtMost start.version (of old mid) journal first → WritesAtMost start.version (of mid new) journal shown → (why ≡ line.Memory → new ≡ mid) → AnswersUpTo start sends why silo from left reading before after writing
          → WritesJournalsAtMost start sends (of old new) journal from
      stopped_files journal from left reading before after writing line.Read a alone b unwritten h =
          both_written journal from a alone b (led_up_to start sends line.Read from left silo reading writing before after (λ e. absurd (cc (e))) h)
      stopped_files journal from left reading before after writing line.TooMuch a alone b unwritten h =
          both_written journal from a alone b (led_up_to start sends line.TooMuch from left silo reading writing before after (λ e. absurd (cc (e))) h)
      stopped_files journal from left reading before after writing line.Write a alone b unwritten h =
          both_written journal from a alone b (led_up_to start sends line.Write from left silo reading writing before after (λ e. absurd (cc (e))) h)
      stopped_files journal from left reading before after writing line.Memory a alone b unwritten h = one_written journal from a alone (unwritten refl)

-- ---- answering fails

module _ (start : Start) (sends : ℕ) (files : FileClaims) (journal from : Option (List ℕ)) where
  -- before the first line
  pub not_opened : (reading : Reading) (before : Option (List ℕ)) (writing : WriterCalls) → AnsweringFailsBy start sends files journal cause.Memory from from reading before before writing
  not_opened reading before writing = inl (Keeps-refl from, Keeps-refl before)

  pub not_begun : (reading : Reading) (before : Option (List ℕ)) (writing : WriterCalls) (why : Cause) → IsKeepingCause files.may_fail journal why → AnsweringFailsBy start sends files journal why from from reading before before writing
  not_begun reading before writing cause.Read is = absurd is
  not_begun reading before writing cause.Write is = inl (is, (Keeps-refl from, Keeps-refl before))
  not_begun reading before writing cause.Memory is = inl (Keeps-refl from, Keeps-refl before)
  not_begun reading before writing cause.TooMuch is = absurd is
  not_begun reading before writing cause.NoWorker is = absurd is
  not_begun reading before writing cause.Strayed is = absurd is
  not_begun reading before writing cause.InUse is = absurd is

  module _ (left : Option (List ℕ)) (reading : Reading) (before after : Option (List ℕ)) (writing : WriterCalls) (silo : History) (unfailed : silo.failures.now ≡ 0) where
    lacks_memory : (ended : Option LineFault) → AnswersInput start sends ended silo from left reading before after writing → AnsweringFailsBy start sends files journal cause.Memory from left reading before after writing
    lacks_memory ended answered = inr (record { ended = ended; silo = silo; answered = answered; unfailed = unfailed })

    -- when all lines were answered
    pub not_kept : (fails : List ℕ → Type 0) (why : Cause) → AnswersToEnd start sends silo from left before after → IsKeepingCause fails journal why → (MayFailAt fails journal → MayFailAgain start files journal)
        → AnsweringFailsBy start sends files journal why from left reading before after writing
    not_kept fails cause.Read answered is again = absurd is
    not_kept fails cause.Write answered is again = inr (inr (record { silo = silo; answered = answered; unfailed = unfailed; fails = again is }))
    not_kept fails cause.Memory answered is again = lacks_memory None answered
    not_kept fails cause.TooMuch answered is again = absurd is
    not_kept fails cause.NoWorker answered is again = absurd is
    not_kept fails cause.Strayed answered is again = absurd is
    not_kept fails cause.InUse answered is again = absurd is

    -- in a line
    ends_with : (by why : Cause) → why ≡ by → AnsweringFailsBy start sends files journal by from left reading before after writing → AnsweringFailsBy start sends files journal why from left reading before after writing
    ends_with by why is h = subst (λ (c : Cause). AnsweringFailsBy start sends files journal c from left reading before after writing) (sym is) h

    pub stopped_by : (kept : Type 0) (fault : LineFault) (why : Cause) → AnswersUpTo start sends fault silo from left reading before after writing → (kept → KeepsSecond start files journal silo ⊎ MayFailAgain start files journal)
        → EndsBy fault kept why → AnsweringFailsBy start sends files journal why from left reading before after writing
    stopped_by kept line.Read why answered then ends =
        ⊎_elim (λ memory. ends_with cause.Memory why memory (lacks_memory (Some line.Read) answered))
        (λ (h : (why ≡ cause.Read) × kept). ends_with cause.Read why h.0 (record { silo = silo; answered = answered; unfailed = unfailed; kept = then h.1 })) ends
    stopped_by kept line.Write why answered then ends =
        ⊎_elim (λ memory. ends_with cause.Memory why memory (lacks_memory (Some line.Write) answered))
        (λ (h : (why ≡ cause.Write) × kept). ends_with cause.Write why h.0 (inr (inl (record { silo = silo; answered = answered; unfailed = unfailed; kept = then h.1 })))) ends
    stopped_by kept line.TooMuch why answered then ends =
        ⊎_elim (λ memory. ends_with cause.Memory why memory (lacks_memory (Some line.TooMuch) answered))
        (λ (h : (why ≡ cause.TooMuch) × kept). ends_with cause.TooMuch why h.0 (record { silo = silo; answered = answered; unfailed = unfailed; kept = then h.1 })) ends
    stopped_by kept line.Memory why answered then ends = ends_with cause.Memory why ends (lacks_memory (Some line.Memory) answered)

-- ---- how answering ends

module _ {F : Type 0} (may_hold : F → List ℕ → List ℕ → Type 0) (may_fail : F → List ℕ → Type 0) (may_leave : F → List ℕ → List ℕ → F → Type 0) (start : Start) (sends : ℕ)
    (old mid new : F) (first silo shown : History) (is : first ≡ opened start.setup) (shows : shown ≡ silo) (journal from left : Option (List ℕ)) where
  abbrev both : FileClaims
  both = claims may_hold may_fail may_leave old new

  -- all was answered, and the journal was written
  pub ended_so : {T E : Type 0} (before after : Option (List ℕ)) (result : Result T E) → KeepsJournal start.version (claims may_hold may_fail may_leave old mid) journal first → AnswersToEnd start sends silo from left before after
      → silo.failures.now ≡ 0 → OnOk result (KeepsJournal start.version (claims may_hold may_fail may_leave mid new) journal shown) → OnOk result (AnswersLanes start sends both journal from left before after)
  ended_so before after (Ok done) a answered unfailed b =
      record { silo = silo; answered = answered; unfailed = unfailed; kept = second_kept may_hold may_fail may_leave start sends old mid new first silo is shown shows journal a b }
  ended_so before after (Err why) a answered unfailed b = tt

  module _ (reading : Reading) (before after : Option (List ℕ)) (writing : WriterCalls) where
    -- or it wasn't
    pub not_kept_so : {T : Type 0} (result : Result T Cause) → KeepsJournal start.version (claims may_hold may_fail may_leave old mid) journal first → AnswersToEnd start sends silo from left before after → silo.failures.now ≡ 0
        → IfErr result (λ why. IsKeepingCause (may_fail mid) journal why) → IfErr result (λ why. AnsweringFailsBy start sends both journal why from left reading before after writing)
    not_kept_so (Ok done) a answered unfailed b = tt
    not_kept_so (Err why) a answered unfailed b =
        not_kept start sends both journal from left reading before after writing silo unfailed (may_fail mid) why answered b (second_fails may_hold may_fail may_leave start sends old mid new first silo is journal a)

    -- lines were answered up to a fault
    pub written_after : (fault : LineFault) (why : Cause) → KeepsJournal start.version (claims may_hold may_fail may_leave old mid) journal first → AnswersUpTo start sends fault silo from left reading before after writing → silo.failures.now ≡ 0
        → EndsBy fault (KeepsJournal start.version (claims may_hold may_fail may_leave mid new) journal shown ⊎ MayFailAt (may_fail mid) journal) why → AnsweringFailsBy start sends both journal why from left reading before after writing
    written_after fault why a answered unfailed ends =
        stopped_by start sends both journal from left reading before after writing silo unfailed (KeepsJournal start.version (claims may_hold may_fail may_leave mid new) journal shown ⊎ MayFailAt (may_fail mid) journal) fault why answered
        (λ kept. ⊎_elim (λ b. inl (second_kept may_hold may_fail may_leave start sends old mid new first silo is shown shows journal a b))
        (λ fails. inr (second_fails may_hold may_fail may_leave start sends old mid new first silo is journal a fails)) kept) ends

-- ---- a silo that keeps no journal, and drops its history

module _ (start : Start) (sends : ℕ) (keeps : Bool) (lets : keeps ≡ false) (first new : History) (is : first ≡ opened start.setup) (unfailed : new.failures.now ≡ 0)
    (left before after : Option (List ℕ)) (files : FileClaims) where
  none_failed : (all : History) → Leaves keeps all new → all.failures.now ≡ 0
  none_failed all leaves = (subst (λ b. Leaves b all new) lets leaves).failures ∙ unfailed

  pub only_answered : (from : Option (List ℕ)) → IfSome from (λ input. (count : ℕ) × AnswersOn keeps start.version.logic sends input count first new left before after)
      → AnswersLanes start sends files None from left before after
  only_answered None h = record { silo = opened start.setup; answered = tt; unfailed = refl; kept = tt }
  only_answered (Some input) h = record {
    silo = h.1.all;
    answered = (h.0, subst (λ (s : History). AnswersAll start.version.logic sends input h.0 s h.1.all left before after) is h.1.answers);
    unfailed = none_failed h.1.all h.1.leaves;
    kept = tt;
  }

  module _ (reading : Reading) (writing : WriterCalls) where
    -- the history up to the fault
    only_up_to : (why : LineFault) (from : Option (List ℕ)) → IfSome from (λ input. StopsOn keeps start.version.logic sends input reading left writing first new before after why)
        → (silo : History) × AnswersUpTo start sends why silo from left reading before after writing × (silo.failures.now ≡ 0)
    only_up_to why None h = (opened start.setup, tt, refl)
    only_up_to line.Memory (Some input) h = (
      opened start.setup,
      subst (λ (s : History). StopsBy start.version.logic sends input reading left writing s (opened start.setup) before after line.Memory) is h.stops,
      refl,
    )
    only_up_to line.Read (Some input) h =
        (h.all, subst (λ (s : History). StopsBy start.version.logic sends input reading left writing s h.all before after line.Read) is h.stops, none_failed h.all h.leaves)
    only_up_to line.TooMuch (Some input) h =
        (h.all, subst (λ (s : History). StopsBy start.version.logic sends input reading left writing s h.all before after line.TooMuch) is h.stops, none_failed h.all h.leaves)
    only_up_to line.Write (Some input) h =
        (h.all, subst (λ (s : History). StopsBy start.version.logic sends input reading left writing s h.all before after line.Write) is h.stops, none_failed h.all h.leaves)

    pub only_stopped : (why : LineFault) (from : Option (List ℕ)) → IfSome from (λ input. StopsOn keeps start.version.logic sends input reading left writing first new before after why)
        → AnsweringFailsBy start sends files None (cause_of why) from left reading before after writing
    only_stopped line.Read from h =
        let p = only_up_to line.Read from h in
        record { silo = p.0; answered = p.1; unfailed = p.2; kept = inl tt }
    only_stopped line.TooMuch from h =
        let p = only_up_to line.TooMuch from h in
        record { silo = p.0; answered = p.1; unfailed = p.2; kept = inl tt }
    only_stopped line.Write from h =
        let p = only_up_to line.Write from h in
        inr (inl (record { silo = p.0; answered = p.1; unfailed = p.2; kept = inl tt }))
    only_stopped line.Memory from h =
        let p = only_up_to line.Memory from h in
        inr (record { ended = Some line.Memory; silo = p.0; answered = p.1; unfailed = p.2 })

    pub only_fails : (why : LineFault) (by : Cause) (from : Option (List ℕ)) → by ≡ cause_of why
        → IfSome from (λ input. StopsOn keeps start.version.logic sends input reading left writing first new before after why)
        → AnsweringFailsBy start sends files None by from left reading before after writing
    only_fails why by from same h =
        subst (λ (c : Cause). AnsweringFailsBy start sends files None c from left reading before after writing) (sym same) (only_stopped why from h)
