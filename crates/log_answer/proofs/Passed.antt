-- As far as a log was answered again.
use Rattle.std.proofs.Common.{◌≡◌, ◌∙◌, ◌≤◌, ℕ, ◌+◌, ◌-◌, ◌==◌, Bool, true, false, cond, List, [], ◌∷◌, ◌++◌, length, Some, None, Result, Ok, Err, IfOk, IfErr, OnOk, append_assoc, append-nil, arith, length-append, refl, ap, sym, subst, true≢false}
use Rattle.std.specs.Prelude.{drop}
use Rattle.std.proofs.lemmas.Option.{none-some, same_Some}
use Rattle.grain_logic.specs.Logic.{Logic}
use Rattle.silo_model.specs.Journal.{LeadsTo}
use Rattle.silo_model.specs.Whole.{Whole}
use Rattle.silo_core.specs.History.{History}
use Rattle.answer_model.specs.Idle.{AllIdle}
use Rattle.log_text.specs.Lines.{onto_first, tag_of, whole_lines}
use Rattle.log_text.specs.Sums.{after, own_sums, spelled}
use Rattle.log_text.specs.Batches.{Batch, batch_text, last_sum, log_text, mark_line, sum_of}
use Rattle.log_text.specs.Batches as text
use Rattle.log_text.specs.Reading.{Behind, IsBehind, asked_first, asked_lines, fault_in, left_in, lines_of, recovered, same_text}
use Rattle.log_text.proofs.Lines.{either}
use Rattle.log_text.proofs.Passes.{log_append}
use Rattle.log_text.proofs.Stands.{left_by}
use Rattle.log_text.proofs.Written.{same_itself}
use Rattle.log_host.specs.declared.place.LogPlace.{LogPlace}
use Rattle.log_answer.specs.Answers.{LeadsLines, led, told_for}
use Rattle.log_answer.specs.Starts.{AnswersAgain, StopsAgain, TellSums, TellsOtherwise, kept_length, told_sum}
use Rattle.log_answer.specs.declared.starting.Again.{Again}
use Rattle.log_answer.specs.declared.starting.AgainFault.{AgainFault}
use Rattle.log_answer.specs.declared.starting.AgainFault.TheVariants as fault
use Rattle.log_answer.proofs.Led.{is_led, led_append, told_append}

-- ---- lists of batches

lines_push : (batches : List Batch) (batch : Batch) → lines_of (batches ++ batch ∷ []) ≡ lines_of batches ++ batch.lines
lines_push [] batch = append-nil batch.lines
lines_push (b ∷ batches) batch = ap (λ l. b.lines ++ l) (lines_push batches batch) ∙ sym (append_assoc b.lines (lines_of batches) batch.lines)

last_push : (name : List ℕ) (sum : ℕ) (batches : List Batch) (batch : Batch)
    → last_sum own_sums name sum (batches ++ batch ∷ []) ≡ sum_of own_sums name (last_sum own_sums name sum batches) batch
last_push name sum [] batch = refl
last_push name sum (b ∷ batches) batch = last_push name (sum_of own_sums name sum b) batches batch

-- each line has its LF, so there are no more lines than bytes
lines_few : (lines : List (List ℕ)) → length lines ≤ length (text.lines_text lines)
lines_few [] = omega arith
lines_few (line ∷ lines) = omega (arith, lines_few lines, length-append (text.line_text line) (text.lines_text lines), length-append line (10 ∷ []))

batch_few : (name : List ℕ) (sum : ℕ) (batch : Batch) → length batch.lines + 1 ≤ length (batch_text own_sums name sum batch)
batch_few name sum batch =
    let mark = mark_line own_sums name sum batch in
    omega (arith, lines_few batch.lines, length-append (text.lines_text batch.lines) (mark ++ 10 ∷ []), length-append mark (10 ∷ []))

onto_few : (b : ℕ) (lines : List (List ℕ)) → length (onto_first b lines) ≡ length lines
onto_few b [] = refl
onto_few b (line ∷ lines) = refl

whole_few : (bytes : List ℕ) → length (whole_lines bytes) ≤ length bytes
whole_few [] = omega arith
whole_few (b ∷ bytes) =
    either (λ c. length (cond c ([] ∷ whole_lines bytes) (onto_first b (whole_lines bytes))) ≤ length (b ∷ bytes)) (b == 10)
    (omega (arith, whole_few bytes)) (omega (arith, whole_few bytes, onto_few b (whole_lines bytes)))

asked_few : (lines : List (List ℕ)) → asked_first lines ≤ length lines
asked_few [] = omega arith
asked_few (line ∷ lines) =
    either (λ c. cond c (1 + asked_first lines) 0 ≤ length (line ∷ lines)) (tag_of line == 43) (omega (arith, asked_few lines)) (omega arith)

fault_by : (c : Bool) (k found : ℕ) → cond c None (Some k) ≡ Some found → found ≡ k
fault_by true k found is = absurd (none-some found is)
fault_by false k found is = sym (same_Some k found is)

pub fault_few : (name bytes : List ℕ) (found : ℕ) → fault_in own_sums name bytes ≡ Some found → found ≤ length bytes
fault_few name bytes found is = omega (arith, fault_by _ (asked_first (whole_lines bytes)) found is, asked_few (whole_lines bytes), whole_few bytes)

-- ---- what marks say

module _ (logic : Logic) (n : ℕ) where
  pub told_push : (w : Whole) (told : ℕ) (batches : List Batch) (batch : Batch)
      → told_sum logic n w told (batches ++ batch ∷ [])
      ≡ after (told_sum logic n w told batches) (told_for logic n (led logic n w (lines_of batches)) batch.lines)
  told_push w told [] batch = refl
  told_push w told (b ∷ batches) batch =
      told_push (led logic n w b.lines) (after told (told_for logic n w b.lines)) batches batch
      ∙ ap (λ x. after (told_sum logic n w told (b ∷ batches)) (told_for logic n x batch.lines)) (sym (led_append logic n w b.lines (lines_of batches)))

  pub tells_push : (w : Whole) (told : ℕ) (batches : List Batch) (batch : Batch) → TellSums logic n w told batches
      → batch.told ≡ spelled (after (told_sum logic n w told batches) (told_for logic n (led logic n w (lines_of batches)) batch.lines))
      → TellSums logic n w told (batches ++ batch ∷ [])
  tells_push w told [] batch tells is = (is, tt)
  tells_push w told (b ∷ batches) batch tells is = (
    tells.0,
    tells_push (led logic n w b.lines) (after told (told_for logic n w b.lines)) batches batch tells.1
        (is ∙ ap (λ x. spelled (after (told_sum logic n w told (b ∷ batches)) (told_for logic n x batch.lines))) (led_append logic n w b.lines (lines_of batches))),
  )

-- ---- so far

pub record AgainDone (logic : Logic) (n : ℕ) (place : LogPlace) (bytes rest : List ℕ) (old now : History) (sum told lines marks : ℕ) : Type 0 where
  pub leads : LeadsTo logic old.setup old.journal old.whole
  pub done : List Batch
  pub read : recovered own_sums place.name place.sum bytes ≡ done ++ recovered own_sums place.name sum rest
  pub text_is : log_text own_sums place.name place.sum done ++ rest ≡ bytes
  pub sum_is : sum ≡ last_sum own_sums place.name place.sum done
  pub told_is : told ≡ told_sum logic n old.whole place.told done
  pub tells : TellSums logic n old.whole place.told done
  pub setup : now.setup ≡ old.setup
  pub whole : now.whole ≡ led logic n old.whole (lines_of done)
  pub idle : AllIdle now.whole.entries
  pub lines_is : lines ≡ length (lines_of done)
  pub marks_is : marks ≡ length done
  pub room : (lines + marks) + length rest ≤ length bytes

module _ (logic : Logic) (n : ℕ) where
  pub again_none : (place : LogPlace) (bytes : List ℕ) (old : History) → LeadsTo logic old.setup old.journal old.whole → AllIdle old.whole.entries
      → AgainDone logic n place bytes bytes old old place.sum place.told 0 0
  again_none place bytes old leads idle = record {
    leads = leads;
    done = [];
    read = refl;
    text_is = refl;
    sum_is = refl;
    told_is = refl;
    tells = tt;
    setup = refl;
    whole = refl;
    idle = idle;
    lines_is = refl;
    marks_is = refl;
    room = omega arith;
  }

  module _ (place : LogPlace) (bytes rest : List ℕ) (old now : History) (sum told lines marks : ℕ) (p : AgainDone logic n place bytes rest old now sum told lines marks) where
    -- one batch more
    pub again_more : (new : History) (found : Behind) (texts : List ℕ) (next count : ℕ) → IsBehind own_sums place.name sum rest found
        → LeadsLines logic n now found.batch.lines new texts → next ≡ after told texts → found.batch.told ≡ spelled next → count ≡ length found.batch.lines
        → AgainDone logic n place bytes found.bytes old new found.sum next (lines + count) (marks + 1)
    again_more new found texts next count f l is says counted =
        let b = found.batch in
        let said : next ≡ after (told_sum logic n old.whole place.told p.done) (told_for logic n (led logic n old.whole (lines_of p.done)) b.lines) =
        is ∙ (λ i. after (p.told_is i) ((l.text_is ∙ ap (λ w. told_for logic n w b.lines) p.whole) i)) in
        let stands = ap length p.text_is in
        record {
          leads = p.leads;
          done = p.done ++ b ∷ [];
          read = p.read ∙ ap (λ bs. p.done ++ bs) f.read ∙ sym (append_assoc p.done (b ∷ []) (recovered own_sums place.name found.sum found.bytes));
          text_is =
              ap (λ t. t ++ found.bytes) (log_append own_sums place.name place.sum p.done (b ∷ []))
              ∙ append_assoc (log_text own_sums place.name place.sum p.done) (log_text own_sums place.name (last_sum own_sums place.name place.sum p.done) (b ∷ [])) found.bytes
              ∙ (λ i. log_text own_sums place.name place.sum p.done ++ (append-nil (batch_text own_sums place.name (sym p.sum_is i) b) i ++ found.bytes))
              ∙ ap (λ t. log_text own_sums place.name place.sum p.done ++ t) (sym f.text)
              ∙ p.text_is;
          sum_is = f.next ∙ ap (λ s. sum_of own_sums place.name s b) p.sum_is ∙ sym (last_push place.name place.sum p.done b);
          told_is = said ∙ sym (told_push logic n old.whole place.told p.done b);
          tells = tells_push logic n old.whole place.told p.done b p.tells (says ∙ ap spelled said);
          setup = l.setup ∙ p.setup;
          whole =
              l.whole ∙ ap (λ w. led logic n w b.lines) p.whole ∙ sym (led_append logic n old.whole (lines_of p.done) b.lines)
              ∙ ap (led logic n old.whole) (sym (lines_push p.done b));
          idle = l.idle;
          lines_is = omega (arith, p.lines_is, counted, ap length (lines_push p.done b), length-append (lines_of p.done) b.lines);
          marks_is = omega (arith, p.marks_is, length-append p.done (b ∷ []));
          room = omega (arith, p.room, counted, batch_few place.name sum b, ap length f.text, length-append (batch_text own_sums place.name sum b) found.bytes);
        }

    -- a batch for which something else is told
    pub again_otherwise : (found : Behind) (texts : List ℕ) (next count before : ℕ) (new : History) → IsBehind own_sums place.name sum rest found
        → LeadsLines logic n now found.batch.lines new texts → next ≡ after told texts → same_text found.batch.told (spelled next) ≡ false
        → count ≡ length found.batch.lines → before ≡ (lines + marks) + count
        → TellsOtherwise logic n place bytes old.whole before
    again_otherwise found texts next count before new f l is differs counted total =
        let b = found.batch in
        let said : next ≡ after (told_sum logic n old.whole place.told p.done) (told_for logic n (led logic n old.whole (lines_of p.done)) b.lines) =
        is ∙ (λ i. after (p.told_is i) ((l.text_is ∙ ap (λ w. told_for logic n w b.lines) p.whole) i)) in
        record {
          done = p.done;
          batch = b;
          others = recovered own_sums place.name found.sum found.bytes;
          read = p.read ∙ ap (λ bs. p.done ++ bs) f.read;
          tells = p.tells;
          otherwise = λ same. true≢false (sym (same_itself (spelled next)) ∙ ap (λ t. same_text t (spelled next)) (sym (same ∙ ap spelled (sym said))) ∙ differs);
          before_it = omega (arith, total, counted, p.lines_is, p.marks_is);
        }

    -- there is room to count its lines
    pub room_more : (found : Behind) (count : ℕ) → IsBehind own_sums place.name sum rest found → count ≡ length found.batch.lines → (lines + marks) + count + 1 ≤ length bytes
    room_more found count f counted =
        omega (arith, p.room, counted, batch_few place.name sum found.batch, ap length f.text, length-append (batch_text own_sums place.name sum found.batch) found.bytes)

    -- none is left
    module _ (none : recovered own_sums place.name sum rest ≡ []) where
      all_read : recovered own_sums place.name place.sum bytes ≡ p.done
      all_read = p.read ∙ ap (λ bs. p.done ++ bs) none ∙ append-nil p.done

      left_there : left_in own_sums place.name place.sum bytes ≡ rest
      left_there =
          ap (λ bs. drop (length (log_text own_sums place.name place.sum bs)) bytes) all_read
          ∙ left_by (log_text own_sums place.name place.sum p.done) rest bytes p.text_is

      pub again_all : (r : Result Again AgainFault) → IfOk r (λ again. again.place ≡ record { name = place.name; sum = sum; told = told }) → IfOk r (λ again. again.lines ≡ lines)
          → OnOk r (fault_in own_sums place.name rest ≡ None) → IfOk r (λ again. AnswersAgain logic n place bytes old now again)
      again_all (Ok again) at counted passes = record {
        batches = p.done;
        read = sym all_read;
        leads = is_led logic n old now (lines_of p.done) p.leads p.setup p.whole p.idle;
        tells = p.tells;
        name = ap (λ (x : LogPlace). x.name) at;
        sum = ap (λ (x : LogPlace). x.sum) at ∙ p.sum_is;
        told = ap (λ (x : LogPlace). x.told) at ∙ p.told_is;
        lines = counted ∙ p.lines_is;
        passes = ap (fault_in own_sums place.name) left_there ∙ passes;
      }
      again_all (Err why) at counted passes = tt

      -- so many bytes they have
      pub again_kept : (r : Result Again AgainFault) → IfOk r (λ again. again.length ≡ length bytes - length rest) → IfOk r (λ again. again.length ≡ kept_length place bytes)
      again_kept (Ok again) kept =
          omega (
            arith,
            kept,
            ap length p.text_is,
            length-append (log_text own_sums place.name place.sum p.done) rest,
            ap (λ bs. length (log_text own_sums place.name place.sum bs)) all_read,
          )
      again_kept (Err why) kept = tt

      pub again_refused : (r : Result Again AgainFault)
          → IfErr r (λ why. (found : ℕ) × (fault_in own_sums place.name rest ≡ Some found) × (why ≡ fault.Refused ((lines + marks) + found)))
          → IfErr r (λ why. StopsAgain logic n place bytes old.whole why)
      again_refused (Ok again) is = tt
      again_refused (Err why) is = subst (StopsAgain logic n place bytes old.whole) (sym is.2) (record {
        tells = subst (TellSums logic n old.whole place.told) (sym all_read) p.tells;
        found = is.0;
        refused = ap (fault_in own_sums place.name) left_there ∙ is.1;
        before_it = omega (arith, p.lines_is, p.marks_is, ap length (ap lines_of all_read), ap length all_read);
      })

-- ---- one batch

pub record AskedDone (logic : Logic) (n : ℕ) (asked rest : List ℕ) (old now : History) (texts : List ℕ) (count : ℕ) : Type 0 where
  pub done : List (List ℕ)
  pub parts : asked_lines asked ≡ done ++ asked_lines rest
  pub setup : now.setup ≡ old.setup
  pub whole : now.whole ≡ led logic n old.whole done
  pub idle : AllIdle now.whole.entries
  pub texts_are : texts ≡ told_for logic n old.whole done
  pub counted : count ≡ length done
  pub room : count + length rest ≤ length asked

module _ (logic : Logic) (n : ℕ) where
  pub asked_none : (asked : List ℕ) (old : History) (texts : List ℕ) → AllIdle old.whole.entries → texts ≡ [] → AskedDone logic n asked asked old old texts 0
  asked_none asked old texts idle none = record {
    done = [];
    parts = refl;
    setup = refl;
    whole = refl;
    idle = idle;
    texts_are = none;
    counted = refl;
    room = omega arith;
  }

  pub asked_more : (asked rest others : List ℕ) (old now new : History) (texts line text texts_then : List ℕ) (count : ℕ) → AskedDone logic n asked rest old now texts count
      → (asked_lines rest ≡ line ∷ asked_lines others) × (length others + 1 ≤ length rest) → LeadsLines logic n now (line ∷ []) new text → texts_then ≡ texts ++ text
      → AskedDone logic n asked others old new texts_then (count + 1)
  asked_more asked rest others old now new texts line text texts_then count p cut l is = record {
    done = p.done ++ line ∷ [];
    parts = p.parts ∙ ap (λ ls. p.done ++ ls) cut.0 ∙ sym (append_assoc p.done (line ∷ []) (asked_lines others));
    setup = l.setup ∙ p.setup;
    whole = l.whole ∙ ap (λ w. led logic n w (line ∷ [])) p.whole ∙ sym (led_append logic n old.whole p.done (line ∷ []));
    idle = l.idle;
    texts_are =
        is ∙ (λ i. p.texts_are i ++ (l.text_is ∙ ap (λ w. told_for logic n w (line ∷ [])) p.whole) i)
        ∙ sym (told_append logic n old.whole p.done (line ∷ []));
    counted = omega (arith, p.counted, length-append p.done (line ∷ []));
    room = omega (arith, p.room, cut.1);
  }

  pub asked_all : (asked rest : List ℕ) (old now : History) (texts : List ℕ) (count : ℕ) → AskedDone logic n asked rest old now texts count → asked_lines rest ≡ []
      → LeadsLines logic n old (asked_lines asked) now texts × (count ≡ length (asked_lines asked))
  asked_all asked rest old now texts count p none =
      let all : p.done ≡ asked_lines asked = sym (p.parts ∙ ap (λ ls. p.done ++ ls) none ∙ append-nil p.done) in (
        record {
          setup = p.setup;
          whole = p.whole ∙ ap (led logic n old.whole) all;
          idle = p.idle;
          text_is = p.texts_are ∙ ap (told_for logic n old.whole) all;
        },
        p.counted ∙ ap length all,
      )
