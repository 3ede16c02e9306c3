-- How an input ends, and what was told by then.
use Rattle.std.proofs.Common.{◌≡◌, ◌∙◌, ◌≢◌, ℕ, ◌+◌, Bool, true, List, [], ◌++◌, length, Option, Some, None, IfSome, append_assoc, append-nil, refl, ap, sym, subst, inl, inr}
use Rattle.std.specs.Io.KnownBytes.{Keeps}
use Rattle.std.proofs.KnownBytes.{Keeps-refl}
use Rattle.grain_logic.specs.Logic.{Logic}
use Rattle.silo_model.specs.Whole.{Whole}
use Rattle.silo_core.specs.History.{History}
use Rattle.line_text.specs.Limits.{calls_limit}
use Rattle.line_text.specs.Lines.{lines_of}
use Rattle.line_text.specs.Writing.{WrittenInPart}
use Rattle.line_text.specs.Reading.{Reading, IsFresh, TakesPart, AreTaken, left_of}
use Rattle.line_text.proofs.ReadLines.{lines_ahead}
use Rattle.line_text.proofs.TakenLines.{taken_here}
use Rattle.line_answer.specs.Limits.{answered_limit}
use Rattle.log_host.specs.Acts.{Act, Held, held_from}
use Rattle.log_host.specs.Lasting.{IsAsked, LastsFrom}
use Rattle.log_host.specs.declared.place.LogPlace.{LogPlace}
use Rattle.log_host.proofs.Known.{none_written}
use Rattle.log_answer.specs.Answers.{kept_lines, silo_log}
use Rattle.log_answer.specs.Runs.{GoesOn, StopsLogged, TellsFirst}
use Rattle.log_answer.specs.inside.Commits.{Breaks, Commits, Settles, StopsTaking}
use Rattle.log_answer.specs.declared.running.LogFault.{LogFault}
use Rattle.log_answer.specs.declared.running.LogFault.TheVariants as fault
use Rattle.log_answer.proofs.Done.{Done, breaks_last, is_asked, done_committed, settles_last, settles_on}
use Rattle.log_answer.proofs.Led.{kept_append}

module _ (logic : Logic) (n count : ℕ) (old now : History) (before : Option (List ℕ)) (asked texts : List ℕ) where
  -- ---- what was told before a fault

  module _ (input bytes : List ℕ) (during after : Option (List ℕ)) (told pending : List (List ℕ))
      (p : Done logic n count (Some input) (Some bytes) old now before during asked texts told pending) where
    -- nothing of the batch
    tells_none : Keeps during after → TellsFirst logic n (lines_of input) old.whole before after
    tells_none kept = record {
      told = told;
      batch = [];
      others = pending ++ lines_of bytes;
      parts = p.taken ∙ append_assoc told pending (lines_of bytes);
      during = during;
      whole = p.written;
      part = none_written during after [] kept;
    }

    -- a part of the batch
    tells_part : WrittenInPart during after texts → TellsFirst logic n (lines_of input) old.whole before after
    tells_part part = record {
      told = told;
      batch = pending;
      others = lines_of bytes;
      parts = p.taken ∙ append_assoc told pending (lines_of bytes);
      during = during;
      whole = p.written;
      part = subst (WrittenInPart during after) p.texts_are part;
    }

  -- ---- a fault

  pub stops_memory : (already : ℕ) (from left during after : Option (List ℕ)) (told pending : List (List ℕ)) (reading : Reading) (rest : Option (List ℕ)) (failed : Bool)
      → Done logic n count from left old now before during asked texts told pending → Keeps during after
      → IfSome from (λ input. StopsLogged logic n already input reading rest failed old.whole before after fault.Memory)
  unfolding tells_none
  stops_memory already None left during after told pending reading rest failed p kept = tt
  stops_memory already (Some input) None during after told pending reading rest failed p kept = absurd p.taken
  stops_memory already (Some input) (Some bytes) during after told pending reading rest failed p kept = (tells_none input bytes during after told pending p kept, refl)

  pub stops_write : (already : ℕ) (from left during after : Option (List ℕ)) (told pending : List (List ℕ)) (reading : Reading) (rest : Option (List ℕ)) (failed : Bool)
      → Done logic n count from left old now before during asked texts told pending → WrittenInPart during after texts → failed ≡ true
      → IfSome from (λ input. StopsLogged logic n already input reading rest failed old.whole before after fault.Write)
  stops_write already None left during after told pending reading rest failed p part is = tt
  stops_write already (Some input) None during after told pending reading rest failed p part is = absurd p.taken
  stops_write already (Some input) (Some bytes) during after told pending reading rest failed p part is = (tells_part input bytes during after told pending p part, is)

  -- all was told that was read, and then reading failed
  took_all : (input bytes : List ℕ) (after : Option (List ℕ)) (told : List (List ℕ)) (reading : Reading) (rest : Option (List ℕ))
      → Done logic n count (Some input) (Some bytes) old now before after asked texts told [] → IsFresh reading → TakesPart (Some bytes) (left_of reading rest)
      → AreTaken input rest told
  took_all input bytes after told reading rest p none part =
      subst (AreTaken input rest) (append-nil told) (taken_here input (Some bytes) (told ++ []) reading rest none p.took part)

  pub stops_read : (already : ℕ) (from left after : Option (List ℕ)) (told : List (List ℕ)) (reading : Reading) (rest : Option (List ℕ)) (failed : Bool)
      → Done logic n count from left old now before after asked texts told [] → IsFresh reading → TakesPart left (left_of reading rest) → reading.calls.failed ≡ true
      → IfSome from (λ input. StopsLogged logic n already input reading rest failed old.whole before after fault.Read)
  unfolding tells_none
  stops_read already None left after told reading rest failed p none part is = tt
  stops_read already (Some input) None after told reading rest failed p none part is = absurd p.taken
  stops_read already (Some input) (Some bytes) after told reading rest failed p none part is =
      (tells_none input bytes after after told [] p (Keeps-refl after), refl, is, took_all input bytes after told reading rest p none part)

  pub stops_calls : (already : ℕ) (from left after : Option (List ℕ)) (told : List (List ℕ)) (reading : Reading) (rest : Option (List ℕ)) (failed : Bool)
      → Done logic n count from left old now before after asked texts told [] → IsFresh reading → TakesPart left (left_of reading rest) → reading.calls.made ≡ calls_limit
      → IfSome from (λ input. StopsLogged logic n already input reading rest failed old.whole before after fault.TooMuch)
  unfolding tells_none
  stops_calls already None left after told reading rest failed p none part is = tt
  stops_calls already (Some input) None after told reading rest failed p none part is = absurd p.taken
  stops_calls already (Some input) (Some bytes) after told reading rest failed p none part is =
      (tells_none input bytes after after told [] p (Keeps-refl after), refl, inr (is, took_all input bytes after told reading rest p none part))

  -- there are more lines than an input may have
  pub stops_full : (already : ℕ) (from after : Option (List ℕ)) (told : List (List ℕ)) (reading : Reading) (rest : Option (List ℕ)) (failed : Bool)
      → Done logic n count from (left_of reading rest) old now before after asked texts told [] → already + count ≡ answered_limit → reading.ahead ≢ []
      → IfSome from (λ input. StopsLogged logic n already input reading rest failed old.whole before after fault.TooMuch)
  unfolding tells_none
  stops_full already None after told reading rest failed p full some = tt
  stops_full already (Some input) after told reading None failed p full some = absurd p.taken
  stops_full already (Some input) after told reading (Some bytes) failed p full some = (
    tells_none input (reading.ahead ++ bytes) after after told [] p (Keeps-refl after),
    refl,
    inl (ap (λ (k : ℕ). already + k) (ap length (sym (append-nil told)) ∙ p.counted) ∙ full, lines_ahead reading bytes some),
  )

-- ---- a batch that is committed, or not whole

module _ (logic : Logic) (n count : ℕ) (old now : History) (before : Option (List ℕ)) (asked texts : List ℕ) (from left during after : Option (List ℕ))
    (told pending : List (List ℕ)) (start new : Option (List Act)) (place : LogPlace)
    (p : Done logic n count from left old now before during asked texts told pending) where
  pub committed : (next : LogPlace) (asked_then texts_then : List ℕ) → Commits start new during after place asked texts next → asked_then ≡ [] → texts_then ≡ []
      → Done logic n count from left old now before after asked_then texts_then (told ++ pending) []
  committed next asked_then texts_then c none nothing =
      done_committed logic n count from left old now before during asked texts told pending p after asked_then texts_then c.written none nothing

  pub stops_taking : (already : ℕ) (why : LogFault) (reading : Reading) (rest : Option (List ℕ)) (failed : Bool) → StopsTaking start new during after place asked texts left rest reading failed why
      → IfSome from (λ input. StopsLogged logic n already input reading rest failed old.whole before after why)
  stops_taking already fault.Read reading rest failed s =
      stops_read logic n count old now before [] [] already from left after (told ++ pending) reading rest failed (committed s.0.next [] [] s.0.commits refl refl) s.0.none s.0.part s.1
  stops_taking already fault.TooMuch reading rest failed s =
      stops_calls logic n count old now before [] [] already from left after (told ++ pending) reading rest failed (committed s.0.next [] [] s.0.commits refl refl) s.0.none s.0.part s.1
  stops_taking already fault.Memory reading rest failed (inl c) =
      stops_memory logic n count old now before [] [] already from left after after (told ++ pending) [] reading rest failed (committed c.0 [] [] c.1 refl refl) (Keeps-refl after)
  stops_taking already fault.Memory reading rest failed (inr b) = stops_memory logic n count old now before asked texts already from left during after told pending reading rest failed p b.1
  stops_taking already fault.Write reading rest failed b = stops_write logic n count old now before asked texts already from left during after told pending reading rest failed p b.0.part b.1

  -- ---- and it lasts

  module _ (w : Whole) (first : ℕ) (begun : LogPlace) (h : Held) (acts : List Act) (same : place.name ≡ begun.name)
      (on : GoesOn logic n w first begun h old.whole) (s : Settles (silo_log logic n w begun.name first) h (kept_lines told) acts start place.sum) where
    abbrev pub asking : IsAsked (silo_log logic n w begun.name first) place.name (held_from h s.more) place.sum asked texts
    asking = is_asked logic n count from left old now before during asked texts told pending p w first place.sum begun place.name h acts start same on s

    -- the batch was committed
    pub settles_then : (next : LogPlace) → Commits start new during after place asked texts next
        → Settles (silo_log logic n w begun.name first) h (kept_lines (told ++ pending)) acts new next.sum
    settles_then next c =
        let log = silo_log logic n w begun.name first in
        subst (λ l. Settles log h l acts new next.sum) (sym (kept_append told pending))
        (settles_on log h (kept_lines told) (kept_lines pending) acts start new place.sum next.sum s
        (c.settles log (held_from h s.more) (acts ++ s.more) s.acts asking))

    pub lasts_then : (next : LogPlace) → Commits start new during after place asked texts next → LastsFrom (silo_log logic n w begun.name first) h acts new
    lasts_then next c = settles_last (silo_log logic n w begun.name first) h (kept_lines (told ++ pending)) acts new next.sum (settles_then next c)

    pub lasts_broken : Breaks start new during after place asked texts → LastsFrom (silo_log logic n w begun.name first) h acts new
    lasts_broken b =
        let log = silo_log logic n w begun.name first in
        breaks_last log h (kept_lines told) acts start new place.sum s (b.lasts log (held_from h s.more) (acts ++ s.more) s.acts asking)

    pub lasts_taking : (why : LogFault) (reading : Reading) (rest : Option (List ℕ)) (failed : Bool) → StopsTaking start new during after place asked texts left rest reading failed why
        → LastsFrom (silo_log logic n w begun.name first) h acts new
    lasts_taking fault.Read reading rest failed t = lasts_then t.0.next t.0.commits
    lasts_taking fault.TooMuch reading rest failed t = lasts_then t.0.next t.0.commits
    lasts_taking fault.Memory reading rest failed (inl c) = lasts_then c.0 c.1
    lasts_taking fault.Memory reading rest failed (inr b) = lasts_broken b.0
    lasts_taking fault.Write reading rest failed b = lasts_broken b.0
