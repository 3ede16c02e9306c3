-- What a start makes of a log.
use Rattle.std.proofs.Common.{◌≡◌, ◌≤◌, ◌++◌, ◌+◌, ◌-◌, ◌∙◌, ℕ, Bool, Err, Ok, OnErr, OnOk, Result, false, true, true≢false, List, [], ◌∷◌, length, take, Option, None, Some, inl, inr, refl, sym, ap, subst, ◌⊎◌, zero, suc, arith, append-nil, take_all}
use Rattle.std.specs.Result.{is_err}
use Rattle.std.proofs.lemmas.List.{length-append, nil_from_length}
use Rattle.std.proofs.lemmas.Option.{same_Some}
use Rattle.grain_logic.specs.Logic.{Logic}
use Rattle.silo_model.specs.Opening.{opening}
use Rattle.silo_model.specs.Segments.{untold}
use Rattle.silo_model.specs.Whole.{Whole, shown_to}
use Rattle.answer_model.specs.Answering.{all_answered, machine_stepper}
use Rattle.answer_model.specs.Apart.{asked_by}
use Rattle.answer_model.specs.Idle.{AllIdle}
use Rattle.line_answer.specs.Texts.{asks_of}
use Rattle.silo_core.specs.History.{History}
use Rattle.log_text.specs.Lines.{HasNoBreak, whole_lines}
use Rattle.log_text.specs.Head.{IsNumber, first_sum, head_text, name_of}
use Rattle.log_text.specs.Sums.{own_sums, spelled}
use Rattle.log_text.specs.Batches.{Batch, log_text}
use Rattle.log_text.specs.Reading.{left_in, lines_of, recovered}
use Rattle.log_text.proofs.CutBytes.{before_end}
use Rattle.log_text.proofs.Marks.{length-spelled}
use Rattle.log_text.proofs.Spelled.{spells_plain}
use Rattle.log_text.proofs.Stands.{read_stands}
use Rattle.log_host.specs.Acts.{Act}
use Rattle.log_host.specs.Files.{Begins, Cuts, IsAt, MayBegin, MayCut}
use Rattle.log_host.specs.Lasting.{Lasts}
use Rattle.log_host.specs.Laws.{restarted}
use Rattle.log_host.specs.declared.place.LogPlace.{LogPlace}
use Rattle.log_host.proofs.Moments.{settled_lasts}
use Rattle.log_host.proofs.Starts.{starts_settled}
use Rattle.log_answer.specs.Answers.{IsLed, heard_of, led, silo_log}
use Rattle.log_answer.specs.Runs.{GoesOn}
use Rattle.log_answer.specs.Starts.{AgainOn, IsRefused, StopsAgain, TellsOtherwise, kept_length}
use Rattle.log_answer.specs.declared.starting.Again.{Again}
use Rattle.log_answer.specs.declared.starting.AgainFault.{AgainFault}
use Rattle.log_answer.specs.declared.starting.AgainFault.TheVariants as again_why
use Rattle.log_answer.proofs.Led.{silos_grow}
use Rattle.log_answer.proofs.Left.{left_self}
use Rattle.log_answer.proofs.Lives.{starts_go_on}
use Rattle.command_parts.specs.Kept.{opened}
use Rattle.command_parts.specs.Setups.{Start}
use Rattle.data_command.specs.Data.{DataLasts, HasBehind, LastsOn, LogView, StartFailsBy, data_log, kept_bytes, place_of, since}
use Rattle.data_command.specs.declared.fault.DataFault.{DataFault}
use Rattle.data_command.specs.declared.starting.StartedLog.{StartedLog}
use Rattle.data_command.specs.Words.{head_words}
use Rattle.data_command.specs.inside.Starts.{IsStarted, again_fault}

-- ---- the head

plain_take : (k : ℕ) (bytes : List ℕ) → HasNoBreak bytes → HasNoBreak (take k bytes)
plain_take zero bytes plain = tt
plain_take (suc k) [] plain = tt
plain_take (suc k) (b ∷ bytes) plain = (plain.0, plain_take k bytes plain.1)

pub plain_name : (number : List ℕ) → IsNumber number → HasNoBreak (name_of number)
plain_name number is = plain_take 8 number is.1

-- a number that is spelled
pub spelled_number : (n : ℕ) → IsNumber (spelled n)
spelled_number n = (length-spelled n, spells_plain n)

-- ---- what is kept of a log

-- it isn't longer
pub uncut : (acts : Option (List Act)) (begun : Option (List ℕ)) (bytes : List ℕ) (k : ℕ) → begun ≡ Some bytes → length bytes ≤ k → Cuts acts begun acts begun k
uncut acts begun bytes k is none other fresh same =
    let one : bytes ≡ other = same_Some bytes other (sym is ∙ same) in
    (fresh, is ∙ ap (λ (bs : List ℕ). Some bs) (sym (take_all k bytes none) ∙ ap (take k) one))

take_front : (kept left : List ℕ) → take (length kept) (kept ++ left) ≡ kept
take_front [] left = refl
take_front (b ∷ kept) left = ap (λ (bs : List ℕ). b ∷ bs) (take_front kept left)

take_kept : (head kept left rest : List ℕ) → kept ++ left ≡ rest → take (length head + length kept) (head ++ rest) ≡ head ++ kept
take_kept [] kept left rest is =
    let none : 0 + length kept ≡ length kept = omega arith in
    ap (λ (k : ℕ). take k rest) none ∙ subst (λ (bs : List ℕ). take (length kept) bs ≡ kept) is (take_front kept left)
take_kept (b ∷ head) kept left rest is =
    let one : suc (length head) + length kept ≡ suc (length head + length kept) = omega arith in
    ap (λ (k : ℕ). take k (b ∷ (head ++ rest))) one ∙ ap (λ (bs : List ℕ). b ∷ bs) (take_kept head kept left rest is)

-- the head and what is kept are no longer than the log
pub kept_few : (words number bytes all head : List ℕ) (place : LogPlace) (k : ℕ) → all ≡ head_text words number ++ bytes → head ≡ head_text words number
    → place ≡ place_of words number → k ≡ kept_length place bytes → length head + k ≤ length all
kept_few words number bytes all head place k there top is kept =
    let p = place_of words number in
    let read = recovered own_sums p.name p.sum bytes in
    let left = left_in own_sums p.name p.sum bytes in
    let sized : k ≡ length (log_text own_sums p.name p.sum read) = kept ∙ ap (λ (q : LogPlace). kept_length q bytes) is in
    omega (
      arith,
      sized,
      ap length top,
      ap length there,
      length-append (head_text words number) bytes,
      ap length (read_stands own_sums p.name p.sum bytes),
      length-append (log_text own_sums p.name p.sum read) left,
    )

-- ---- the silo

-- it goes on from another history that is at the same place
led_from : (logic : Logic) (sends : ℕ) (old other new : History) (lines : List (List ℕ)) → old.setup ≡ other.setup → old.whole ≡ other.whole → IsLed logic sends old lines new → IsLed logic sends other lines new
led_from logic sends old other new lines setup whole is = record {
  setup = is.setup ∙ setup;
  whole = is.whole ∙ ap (λ (w : Whole). led logic sends w lines) whole;
  idle = is.idle;
  own = λ tenant.
      is.own tenant ∙ ap (λ (w : Whole). all_answered (machine_stepper logic) sends (shown_to tenant w) (asked_by tenant (asks_of (heard_of lines)))) whole;
}

module _ (start : Start) (sends : ℕ) where
  -- what was told before is the beginning of what a log answers that is left as it was
  pub lasts_there : (number bytes : List ℕ) → IsNumber number → Lasts (data_log start sends number) (restarted (data_log start sends number) bytes)
  lasts_there number bytes numbered =
      settled_lasts (data_log start sends number) (silos_grow start.version.logic sends (opening start.setup)) (restarted (data_log start sends number) bytes) _
      (starts_settled (data_log start sends number) bytes (plain_name number numbered))

  -- ---- a log that was found

  module _ (old : LogView) (number bytes : List ℕ) (numbered : IsNumber number) (there : old.acts ≡ Some [] → old.begun ≡ Some (head_text (head_words start sends) number ++ bytes)) where
    behind_there : old.acts ≡ Some [] → HasBehind (head_words start sends) number old.begun bytes
    behind_there e = subst (λ (o : Option (List ℕ)). HasBehind (head_words start sends) number o bytes) (sym (there e)) refl

    -- it is cut
    pub cut_fresh : (new : LogView) (k : ℕ) → (old.begun ≡ Some (head_text (head_words start sends) number ++ bytes) → Cuts old.acts old.begun new.acts new.begun k)
        → old.acts ≡ Some [] → new.acts ≡ Some []
    cut_fresh new k cuts e = (cuts (there e) _ e (there e)).0

    -- to the batches that were read
    kept_there : kept_bytes start sends number bytes ++ left_in own_sums (name_of number) (first_sum (head_words start sends) number) bytes ≡ bytes
    kept_there = read_stands own_sums (name_of number) (first_sum (head_words start sends) number) bytes

    cut_to : (k : ℕ) → k ≡ length (head_text (head_words start sends) number) + length (kept_bytes start sends number bytes)
        → ◌≡◌ {A = Option (List ℕ)} (Some (take k (head_text (head_words start sends) number ++ bytes))) (Some (head_text (head_words start sends) number ++ kept_bytes start sends number bytes))
    cut_to k is =
        ap (λ (j : ℕ). Some (take j (head_text (head_words start sends) number ++ bytes))) is
        ∙ ap (λ (bs : List ℕ). Some bs) (take_kept (head_text (head_words start sends) number) (kept_bytes start sends number bytes) _ bytes kept_there)

    pub cut_kept : (new : LogView) (k : ℕ) → k ≡ length (head_text (head_words start sends) number) + length (kept_bytes start sends number bytes)
        → (old.begun ≡ Some (head_text (head_words start sends) number ++ bytes) → Cuts old.acts old.begun new.acts new.begun k)
        → old.acts ≡ Some [] → new.begun ≡ Some (head_text (head_words start sends) number ++ kept_bytes start sends number bytes)
    cut_kept new k is cuts e = (cuts (there e) _ e (there e)).1 ∙ cut_to k is

    -- the log stands behind its batches
    pub stands_cut : (new : LogView) → new.begun ≡ Some (head_text (head_words start sends) number ++ kept_bytes start sends number bytes) → new.acts ≡ Some [] → new.past ≡ old.past
        → old.acts ≡ Some [] → LastsOn start sends (since old new)
    stands_cut new begun fresh past e = record {
      number = number;
      bytes = bytes;
      numbered = numbered;
      behind = behind_there e;
      off = left_in own_sums (name_of number) (first_sum (head_words start sends) number) bytes;
      parts = kept_there;
      acts = [];
      always = lasts_there number bytes numbered;
      stands = inl (record { begun = begun; acts_are = fresh }, past);
    }

    -- or it failed
    pub cut_lasts : (new : LogView) (k : ℕ) → k ≡ length (head_text (head_words start sends) number) + length (kept_bytes start sends number bytes) → new.past ≡ old.past
        → MayCut old.acts old.begun new.acts new.begun k → DataLasts start sends (since old new)
    cut_lasts new k is past may e = by (may _ e (there e))
      where
        by : IsAt new.acts new.begun old.begun ⊎ IsAt new.acts new.begun (Some (take k (head_text (head_words start sends) number ++ bytes)))
            → (IsAt new.acts new.begun old.begun × (new.past ≡ old.past)) ⊎ LastsOn start sends (since old new)
        by (inl at) = inl (at, past)
        by (inr at) = inr (stands_cut new (at.1 ∙ cut_to k is) at.0 past e)

    -- so many bytes they are
    pub kept_sized : (head : List ℕ) (again : Again) (place : LogPlace) → head ≡ head_text (head_words start sends) number → place ≡ place_of (head_words start sends) number
        → again.length ≡ kept_length place bytes
        → length head + again.length ≡ length (head_text (head_words start sends) number) + length (kept_bytes start sends number bytes)
    kept_sized head again place there is kept =
        let sized : again.length ≡ length (kept_bytes start sends number bytes) = kept ∙ ap (λ (p : LogPlace). kept_length p bytes) is in
        λ i. length (there i) + sized i

    -- the silo answered its lines again
    pub started_again : (keeps : Bool) (new : LogView) (silo after : History) (again : Again) (place : LogPlace) (begun : StartedLog) → silo.setup ≡ start.setup → silo.whole ≡ opening start.setup
        → place ≡ place_of (head_words start sends) number → begun.place ≡ again.place → begun.number ≡ number → (begun.has_lines ≡ false → again.lines ≡ 0)
        → AgainOn keeps start.version.logic sends place bytes silo after again → (old.acts ≡ Some [] → new.acts ≡ Some [])
        → (old.acts ≡ Some [] → new.begun ≡ Some (head_text (head_words start sends) number ++ kept_bytes start sends number bytes)) → new.past ≡ old.past
        → IsStarted keeps start sends (since old new) begun after
    started_again keeps new silo after again place begun same opens is at digits has done fresh kept past =
        let on = subst (λ (p : LogPlace). AgainOn keeps start.version.logic sends p bytes silo after again) is done in
        let d = on.answers in
        record {
          was = record {
            found = Some (head_text (head_words start sends) number ++ bytes);
            was = λ e. sym (there e);
            all = on.all;
            has = on.left;
            starts = record {
              number = number;
              bytes = bytes;
              numbered = numbered;
              behind = refl;
              leads = led_from start.version.logic sends silo (opened start.setup) on.all _ same opens (subst (λ (bs : List Batch). IsLed start.version.logic sends silo (lines_of bs) on.all) d.read d.leads);
            };
          };
          number = sym digits;
          named = ap (λ (p : LogPlace). p.name) at ∙ d.name;
          none = λ no. subst (λ (bs : List Batch). lines_of bs ≡ []) d.read (nil_from_length (lines_of d.batches) (sym d.lines ∙ has no));
          goes_on = subst (λ (p : LogPlace). GoesOn start.version.logic sends (opening start.setup) (first_sum (head_words start sends) number) p (restarted (data_log start sends number) bytes) after.whole) (sym at)
              (subst (λ (w : Whole). GoesOn start.version.logic sends w (first_sum (head_words start sends) number) again.place
              (restarted (silo_log start.version.logic sends w (name_of number) (first_sum (head_words start sends) number)) bytes) after.whole) opens
              (starts_go_on keeps start.version.logic sends (place_of (head_words start sends) number) bytes silo after again (plain_name number numbered) on));
          fresh = fresh;
          kept = kept;
          past = past;
        }

    -- or it didn't
    pub not_again : (silo : History) (place : LogPlace) (why : AgainFault) (told : DataFault) → silo.whole ≡ opening start.setup → place ≡ place_of (head_words start sends) number
        → StopsAgain start.version.logic sends place bytes silo.whole why → told ≡ again_fault (length (whole_lines (head_text (head_words start sends) number))) why
        → StartFailsBy start sends (since old old) told
    not_again silo place again_why.Memory told opens is stops told_is = subst (λ (f : DataFault). StartFailsBy start sends (since old old) f) (sym told_is) tt
    not_again silo place (again_why.Refused before) told opens is stops told_is =
        subst (λ (f : DataFault). StartFailsBy start sends (since old old) f) (sym told_is) (
          (λ e. ((e, refl), refl)),
          inr (record {
            number = number;
            bytes = bytes;
            numbered = numbered;
            was = λ e. sym (there e);
            before = before;
            refused = subst (λ (w : Whole). IsRefused start.version.logic sends (place_of (head_words start sends) number) bytes w before) opens (subst (λ (p : LogPlace). IsRefused start.version.logic sends p bytes silo.whole before) is stops);
            line_is = refl;
          }),
        )
    not_again silo place (again_why.Otherwise before) told opens is stops told_is =
        subst (λ (f : DataFault). StartFailsBy start sends (since old old) f) (sym told_is) (
          (λ e. ((e, refl), refl)),
          record {
            number = number;
            bytes = bytes;
            numbered = numbered;
            was = λ e. sym (there e);
            before = before;
            otherwise = subst (λ (w : Whole). TellsOtherwise start.version.logic sends (place_of (head_words start sends) number) bytes w before) opens (subst (λ (p : LogPlace). TellsOtherwise start.version.logic sends p bytes silo.whole before) is stops);
            line_is = refl;
          },
        )

  -- ---- there was none

  module _ (old new : LogView) (n : ℕ) (none : old.acts ≡ Some [] → old.begun ≡ None) (past : new.past ≡ old.past) where
    kept_none : ◌≡◌ {A = Option (List ℕ)} (Some (head_text (head_words start sends) (spelled n))) (Some (head_text (head_words start sends) (spelled n) ++ kept_bytes start sends (spelled n) []))
    kept_none = ap (λ (bs : List ℕ). Some bs) (sym (append-nil (head_text (head_words start sends) (spelled n))))

    -- the new one is settled
    pub begun_started : (keeps : Bool) (silo : History) (begun : StartedLog) → silo.setup ≡ start.setup → silo.whole ≡ opening start.setup → AllIdle silo.whole.entries
        → begun.place ≡ place_of (head_words start sends) (spelled n) → begun.number ≡ spelled n
        → Begins old.acts new.acts new.begun (head_text (head_words start sends) (spelled n)) → IsStarted keeps start sends (since old new) begun silo
    begun_started keeps silo begun same there idle is digits begins = record {
      was = record {
        found = None;
        was = λ e. sym (none e);
        all = silo;
        has = left_self keeps silo;
        starts = record {
          number = spelled n;
          bytes = [];
          numbered = spelled_number n;
          behind = refl;
          leads = record { setup = same; whole = there; idle = idle; own = λ tenant. ap (λ (w : Whole). shown_to tenant w) there };
        };
      };
      number = sym digits;
      named = ap (λ (p : LogPlace). p.name) is;
      none = λ no. refl;
      goes_on = subst (λ (p : LogPlace). GoesOn start.version.logic sends (opening start.setup) (first_sum (head_words start sends) (spelled n)) p (restarted (data_log start sends (spelled n)) []) silo.whole) (sym is) (record {
        plain = plain_name (spelled n) (spelled_number n);
        settled = starts_settled (data_log start sends (spelled n)) [] (plain_name (spelled n) (spelled_number n));
        leads = ap untold there;
      });
      fresh = λ e. (begins e).0;
      kept = λ e. (begins e).1 ∙ kept_none;
      past = past;
    }

    -- or it isn't made whole
    behind_none : old.begun ≡ None → HasBehind (head_words start sends) (spelled n) old.begun []
    behind_none is = subst (λ (o : Option (List ℕ)). HasBehind (head_words start sends) (spelled n) o []) (sym is) refl

    pub begun_lasts : MayBegin old.acts old.begun new.acts new.begun (head_text (head_words start sends) (spelled n)) → DataLasts start sends (since old new)
    begun_lasts may e = by (may e)
      where
        by : IsAt new.acts new.begun old.begun ⊎ IsAt new.acts new.begun (Some (head_text (head_words start sends) (spelled n)))
            → (IsAt new.acts new.begun old.begun × (new.past ≡ old.past)) ⊎ LastsOn start sends (since old new)
        by (inl at) = inl (at, past)
        by (inr at) = inr (record {
          number = spelled n;
          bytes = [];
          numbered = spelled_number n;
          behind = behind_none (none e);
          off = [];
          parts = refl;
          acts = [];
          always = lasts_there (spelled n) [] (spelled_number n);
          stands = inl (record { begun = at.1 ∙ kept_none; acts_are = at.0 }, past);
        })

-- ---- what a caller knows

pub on_err : {T E : Type 0} (r : Result T E) (P : Type 0) → is_err r ≡ true → OnErr r P → P
on_err (Ok x) P is h = absurd (true≢false (sym is))
on_err (Err e) P is h = h

pub on_ok : {T E : Type 0} (r : Result T E) (P : Type 0) → is_err r ≡ false → OnOk r P → P
on_ok (Ok x) P is h = h
on_ok (Err e) P is h = absurd (true≢false is)

-- ---- the place behind a head

-- what stands before it
pub headed : (words number behind bytes head : List ℕ) → bytes ≡ head_text words number ++ behind → head ≡ take (length bytes - length behind) bytes → head ≡ head_text words number
headed words number behind bytes head text is = is ∙ before_end bytes (head_text words number) behind text

pub placed : (words number : List ℕ) (place : LogPlace) → place.name ≡ name_of number → place.sum ≡ first_sum words number → place.told ≡ 0 → place ≡ place_of words number
placed words number place name sum told = λ i. record { name = name i; sum = sum i; told = told i }
