-- Logs whose marks say the sums of what is told for their lines.
use Rattle.std.proofs.Common.{◌≡◌, ◌∙◌, ℕ, List, [], ◌∷◌, ◌++◌, Option, Some, append_assoc, append-nil, refl, ap, sym, subst}
use Rattle.std.proofs.lemmas.List.{append_cancel_left}
use Rattle.std.proofs.lemmas.Option.{none-some, same_Some}
use Rattle.grain_logic.specs.Logic.{Logic}
use Rattle.silo_model.specs.Whole.{Whole}
use Rattle.log_text.specs.Lines.{HasNoBreak, ended}
use Rattle.log_text.specs.Sums.{after, own_sums, spelled}
use Rattle.log_text.specs.Batches.{AreBatches, Batch, log_text, mark_behind}
use Rattle.log_text.specs.Reading.{lines_of, recovered}
use Rattle.log_text.proofs.Passes.{log_append, prefixes_pass}
use Rattle.log_text.proofs.Prefixes.{prefixes_read}
use Rattle.log_text.proofs.Read.{reads_batches}
use Rattle.log_text.proofs.Spelled.{spells_plain}
use Rattle.log_text.proofs.Written.{written_whole}
use Rattle.log_host.specs.Acts.{Act, Adds, Held, Puts, does, held_from, synced, told, written_by, wrote}
use Rattle.log_host.specs.Lasting.{IsAsked, IsSettled}
use Rattle.log_host.specs.declared.place.LogPlace.{LogPlace}
use Rattle.log_host.proofs.Known.{known}
use Rattle.log_host.proofs.Moments.{are_append, bytes, is_batch, read_now, read_then}
use Rattle.log_answer.specs.Answers.{led, silo_log, told_for}
use Rattle.log_answer.specs.Laws.{OwnTaken, StartsTell}
use Rattle.log_answer.specs.Starts.{IsOwn, MarksTell, OwnsFrom, TellSums, told_sum}
use Rattle.log_answer.specs.declared.starting.AgainFault.TheVariants as fault
use Rattle.log_answer.proofs.Led.{led_append, told_append}
use Rattle.log_answer.proofs.Passed.{tells_push, told_push}

-- ---- acts that are known

pub same_more : (new : Option (List Act)) (acts more other : List Act) → new ≡ Some (acts ++ more) → new ≡ Some (acts ++ other) → more ≡ other
same_more new acts more other is also = append_cancel_left acts more other (same_Some (acts ++ more) (acts ++ other) (sym is ∙ also))

written_there : (h : Held) (acts : List Act) → (held_from h acts).file ≡ h.file ++ written_by acts
written_there h [] = sym (append-nil h.file)
written_there h (wrote bytes ∷ acts) = written_there (does h (wrote bytes)) acts ∙ append_assoc h.file bytes (written_by acts)
written_there h (synced ∷ acts) = written_there (does h synced) acts
written_there h (told bytes ∷ acts) = written_there (does h (told bytes)) acts

-- ---- batches, of which each mark says its sum

module _ (logic : Logic) (n : ℕ) where
  tells_first : (w : Whole) (start : ℕ) (batches others : List Batch) → TellSums logic n w start (batches ++ others) → TellSums logic n w start batches
  tells_first w start [] others tells = tt
  tells_first w start (b ∷ batches) others tells =
      (tells.0, tells_first (led logic n w b.lines) (after start (told_for logic n w b.lines)) batches others tells.1)

  -- what is read of the first bytes says its sums, too
  own_tells : (w : Whole) (name : List ℕ) (first start : ℕ) (left : List ℕ) → HasNoBreak name → IsOwn logic n w name first start left
      → TellSums logic n w start (recovered own_sums name first left)
  own_tells w name first start left plain own =
      let read = prefixes_read own_sums name first left own.begins.0 in
      let all : recovered own_sums name first left ++ read.0 ≡ own.batches =
      read.1 ∙ ap (recovered own_sums name first) own.begins.1 ∙ written_whole own_sums name spells_plain plain first own.batches own.are in
      tells_first w start (recovered own_sums name first left) read.0 (subst (TellSums logic n w start) (sym all) own.tells)

  -- the batch behind others says its own
  tells_last : (w : Whole) (start : ℕ) (done : List Batch) (batch : Batch) (others : List Batch) → TellSums logic n w start (done ++ batch ∷ others)
      → batch.told ≡ spelled (after (told_sum logic n w start done) (told_for logic n (led logic n w (lines_of done)) batch.lines))
  tells_last w start [] batch others tells = tells.0
  tells_last w start (b ∷ done) batch others tells =
      let on = tells_last (led logic n w b.lines) (after start (told_for logic n w b.lines)) done batch others tells.1 in
      on ∙ ap (λ x. spelled (after (told_sum logic n w start (b ∷ done)) (told_for logic n x batch.lines))) (sym (led_append logic n w b.lines (lines_of done)))

  -- a log that is settled
  pub own_settled : (w : Whole) (name : List ℕ) (first sum start last : ℕ) (h : Held) → HasNoBreak name → IsSettled (silo_log logic n w name first) h sum
      → MarksTell logic n w name first start h.file last → IsOwn logic n w name first start h.file
  own_settled w name first sum start last h plain s m =
      let read : recovered own_sums name first h.file ≡ s.batches =
      ap (recovered own_sums name first) s.file ∙ written_whole own_sums name spells_plain plain first s.batches s.are in
      record {
        batches = s.batches;
        are = s.are;
        tells = subst (TellSums logic n w start) read m.tells;
        begins = ([], append-nil h.file ∙ s.file);
      }

  -- ---- one batch more

  module _ (w : Whole) (name : List ℕ) (first told_before : ℕ) (h : Held) (place : LogPlace) (asked text : List ℕ)
      (a : IsAsked (silo_log logic n w name first) place.name h place.sum asked text) (m : MarksTell logic n w name first told_before h.file place.told) where
    abbrev read : List Batch
    read = recovered own_sums name first h.file

    abbrev all : ℕ
    all = after place.told text

    abbrev batch : Batch
    batch = record { lines = a.lines; told = spelled all }

    text_there : text ≡ told_for logic n (led logic n w (lines_of read)) a.lines
    text_there =
        append_cancel_left (told_for logic n w (lines_of read)) text (told_for logic n (led logic n w (lines_of read)) a.lines)
        (ap (λ s. s ++ text) (sym a.settled.said) ∙ sym a.answer ∙ told_append logic n w (lines_of read) a.lines)

    sum_there : all ≡ after (told_sum logic n w told_before read) (told_for logic n (led logic n w (lines_of read)) a.lines)
    sum_there = λ i. after (m.last_is i) (text_there i)

    read_more : recovered own_sums name first (h.file ++ bytes (silo_log logic n w name first) place.name h place.sum asked text a all) ≡ read ++ batch ∷ []
    read_more =
        let log = silo_log logic n w name first in
        read_then log place.name h place.sum asked text a all
        ∙ ap (λ bs. bs ++ batch ∷ []) (sym (read_now log place.name h place.sum asked text a all))

    tells_all : TellSums logic n w told_before (read ++ batch ∷ [])
    tells_all = tells_push logic n w told_before read batch m.tells (ap spelled sum_there)

    made_there : asked ++ ended (mark_behind own_sums place.name place.sum asked (spelled all)) ≡ bytes (silo_log logic n w name first) place.name h place.sum asked text a all
    made_there = λ i. a.bytes i ++ ended (mark_behind own_sums (sym a.same i) place.sum (a.bytes i) (spelled all))

    -- it was written whole
    pub tells_more : (h' : Held) → h'.file ≡ h.file ++ (asked ++ ended (mark_behind own_sums place.name place.sum asked (spelled all)))
        → MarksTell logic n w name first told_before h'.file all
    tells_more h' is =
        let there : recovered own_sums name first h'.file ≡ read ++ batch ∷ [] = ap (recovered own_sums name first) (is ∙ ap (λ l. h.file ++ l) made_there) ∙ read_more in
        record {
          tells = subst (TellSums logic n w told_before) (sym there) tells_all;
          last_is = sum_there ∙ sym (told_push logic n w told_before read batch) ∙ ap (told_sum logic n w told_before) (sym there);
        }

    -- or a part of it
    pub own_part : (old new : Option (List Act)) (acts : List Act) → old ≡ Some acts
        → Puts old new (asked ++ ended (mark_behind own_sums place.name place.sum asked (spelled all))) → OwnsFrom logic n w name first told_before h acts new
    own_part old new acts is puts =
        let log = silo_log logic n w name first in
        let p = subst (λ o. Puts o new (asked ++ ended (mark_behind own_sums place.name place.sum asked (spelled all)))) is puts in
        let now = read_now log place.name h place.sum asked text a all in
        let whole : log_text own_sums name first (read ++ batch ∷ []) ≡ h.file ++ bytes log place.name h place.sum asked text a all =
        ap (λ bs. log_text own_sums name first (bs ++ batch ∷ [])) now
        ∙ log_append own_sums name first a.settled.batches (batch ∷ [])
        ∙ (λ i. sym a.settled.file i ++ log_text own_sums name (sym a.settled.behind i) (batch ∷ []))
        ∙ ap (λ l. h.file ++ l) (append-nil (bytes log place.name h place.sum asked text a all)) in
        record {
          more = p.0;
          acts = p.1;
          own = record {
            batches = read ++ batch ∷ [];
            are = subst (λ bs. AreBatches (bs ++ batch ∷ [])) (sym now) (are_append a.settled.batches batch a.settled.are (is_batch log place.name h place.sum asked text a all));
            tells = tells_all;
            begins = (
              p.2.0,
              ap (λ l. l ++ p.2.0) (written_there h p.0) ∙ append_assoc h.file (written_by p.0) p.2.0
                  ∙ ap (λ l. h.file ++ l) (p.2.1 ∙ made_there) ∙ sym whole,
            );
          };
        }

  -- what three acts make of the log
  pub tells_committed : (w : Whole) (name : List ℕ) (first told_before : ℕ) (h : Held) (place next : LogPlace) (asked text : List ℕ) (old new : Option (List Act)) (acts : List Act)
      → next.told ≡ after place.told text
      → Adds old new (wrote (asked ++ ended (mark_behind own_sums place.name place.sum asked (spelled next.told))) ∷ synced ∷ told text ∷ [])
      → old ≡ Some acts → IsAsked (silo_log logic n w name first) place.name h place.sum asked text → MarksTell logic n w name first told_before h.file place.told
      → (more : List Act) → new ≡ Some (acts ++ more) → MarksTell logic n w name first told_before (held_from h more).file next.told
  tells_committed w name first told_before h place next asked text old new acts sum adds is a m more also =
      let put : List ℕ = asked ++ ended (mark_behind own_sums place.name place.sum asked (spelled next.told)) in
      let same : more ≡ wrote put ∷ synced ∷ told text ∷ [] = same_more new acts more (wrote put ∷ synced ∷ told text ∷ []) also (known old new acts _ is adds) in
      let file : (held_from h more).file ≡ h.file ++ (asked ++ ended (mark_behind own_sums place.name place.sum asked (spelled (after place.told text)))) =
      ap (λ (acts : List Act). (held_from h acts).file) same ∙ ap (λ k. h.file ++ (asked ++ ended (mark_behind own_sums place.name place.sum asked (spelled k)))) sum in
      subst (MarksTell logic n w name first told_before (held_from h more).file) (sym sum)
      (tells_more w name first told_before h place asked text a m (held_from h more) file)

  -- nothing was asked
  pub tells_same : (w : Whole) (name : List ℕ) (first told_before : ℕ) (h : Held) (sum : ℕ) (now : Option (List Act)) (acts : List Act)
      → now ≡ Some acts → MarksTell logic n w name first told_before h.file sum
      → (more : List Act) → now ≡ Some (acts ++ more) → MarksTell logic n w name first told_before (held_from h more).file sum
  tells_same w name first told_before h sum now acts is m more also =
      let none : [] ≡ more = same_more now acts [] more (is ∙ ap Some (sym (append-nil acts))) also in
      subst (λ (l : List Act). MarksTell logic n w name first told_before (held_from h l).file sum) none m

-- ---- laws

pub starts_tell : StartsTell
starts_tell logic n place left old new again plain a =
    let read : recovered own_sums place.name place.sum (log_text own_sums place.name place.sum (recovered own_sums place.name place.sum left)) ≡ a.batches =
    written_whole own_sums place.name spells_plain plain place.sum (recovered own_sums place.name place.sum left) (reads_batches place.name place.sum left) ∙ sym a.read in
    record {
      tells = subst (TellSums logic n old.whole place.told) (sym read) a.tells;
      last_is = a.told ∙ ap (told_sum logic n old.whole place.told) (sym read);
    }

pub own_taken : OwnTaken
own_taken logic n w place left fault.Memory plain own stops = refl
own_taken logic n w place left (fault.Refused before) plain own stops =
    absurd (none-some stops.found (sym (prefixes_pass own_sums place.name spells_plain plain place.sum own.batches left own.begins.0 own.are own.begins.1) ∙ stops.refused))
own_taken logic n w place left (fault.Otherwise before) plain own stops =
    absurd (stops.otherwise (tells_last logic n w place.told stops.done stops.batch stops.others
    (subst (TellSums logic n w place.told) stops.read (own_tells logic n w place.name place.sum place.told left plain own))))
