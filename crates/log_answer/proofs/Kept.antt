-- A batch that may be empty, and faults that are handed on.
use Rattle.std.proofs.Common.{◌≡◌, ◌∙◌, ℕ, Bool, true, Result, Ok, Err, List, [], ◌∷◌, Option, Some, append-nil, refl, ap, sym, subst, inl, inr}
use Rattle.std.specs.Io.KnownBytes.{Appends, Keeps}
use Rattle.std.proofs.KnownBytes.{Appends-nil}
use Rattle.line_text.specs.Calls.{HasNothingAhead, StopsReading}
use Rattle.line_text.specs.Reading.{Reading, TakesPart, left_of}
use Rattle.line_text.specs.declared.fault.LineFault.{LineFault}
use Rattle.line_text.specs.declared.fault.LineFault.TheVariants as line
use Rattle.log_text.specs.Batches as text
use Rattle.log_host.specs.Acts.{Act}
use Rattle.log_host.specs.Lasting.{lines_in}
use Rattle.log_host.specs.declared.place.LogPlace.{LogPlace}
use Rattle.log_host.proofs.Moments.{settled_lasts}
use Rattle.log_host.specs.declared.committing.CommitFault.{CommitFault}
use Rattle.log_host.specs.declared.committing.CommitFault.TheVariants as commit
use Rattle.log_answer.specs.inside.Commits.{Breaks, Commits, Settles, StopsTaking}
use Rattle.log_answer.proofs.Own.{tells_same}
use Rattle.log_answer.specs.inside.Faults.{fault_of_commit, fault_of_line}

no_lines : (lines : List (List ℕ)) → text.lines_text lines ≡ [] → lines ≡ []
no_lines [] none = refl
no_lines (line ∷ lines) none = absurd cc

-- nothing was asked, so nothing is told
pub commits_none : (acts : Option (List Act)) (before : Option (List ℕ)) (place : LogPlace) (asked texts : List ℕ) → asked ≡ [] → texts ≡ []
    → Commits acts acts before before place asked texts place
commits_none now before place asked texts none nothing = record {
  name = refl;
  written = subst (Appends before before) (sym nothing) (Appends-nil before);
  settles = λ log h acts is a.
      let lines : [] ≡ a.lines = sym (no_lines a.lines (sym a.bytes ∙ none)) in
      subst (λ l. Settles log h l acts now place.sum) lines (record {
        more = [];
        acts = is ∙ ap Some (sym (append-nil acts));
        always = settled_lasts log a.grows h place.sum a.settled;
        settled = a.settled;
        lines_then = sym (append-nil (lines_in log h.file));
      });
  tells = λ logic n w name first sum h acts is a m. tells_same logic n w name first sum h place.told now acts is m;
}

-- no line was taken behind a batch that was committed
pub stops_behind : (e : LineFault) (old new : Option (List Act)) (before after : Option (List ℕ)) (place : LogPlace) (asked texts : List ℕ) (left rest : Option (List ℕ))
    (reading : Reading) (failed : Bool) (next : LogPlace) → Commits old new before after place asked texts next → TakesPart left (left_of reading rest)
    → StopsReading e reading.calls → HasNothingAhead e reading.ahead → StopsTaking old new before after place asked texts left rest reading failed (fault_of_line e)
stops_behind line.Read old new before after place asked texts left rest reading failed next c part cause none =
    (record { next = next; commits = c; part = part; none = none }, cause)
stops_behind line.TooMuch old new before after place asked texts left rest reading failed next c part cause none =
    (record { next = next; commits = c; part = part; none = none }, cause)
stops_behind line.Memory old new before after place asked texts left rest reading failed next c part cause none = inl (next, c)
stops_behind line.Write old new before after place asked texts left rest reading failed next c part cause none = absurd cause

-- nor before it
pub stops_commit : (why : CommitFault) (old new : Option (List Act)) (before after : Option (List ℕ)) (place : LogPlace) (asked texts : List ℕ) (left rest : Option (List ℕ))
    (reading : Reading) (failed : Bool) → Breaks old new before after place asked texts → (why ≡ commit.Memory → Keeps before after) → (why ≡ commit.Host → failed ≡ true)
    → StopsTaking old new before after place asked texts left rest reading failed (fault_of_commit why)
stops_commit commit.Memory old new before after place asked texts left rest reading failed b memory host = inr (b, memory refl)
stops_commit commit.Host old new before after place asked texts left rest reading failed b memory host = (b, host refl)

-- what is handed on as another result
got : {T E : Type 0} → T → Result T E → T
got x (Ok y) = y
got x (Err e) = x

pub same_ok : {T E F : Type 0} (x y : T) → ◌≡◌ {A = Result T E} (Ok x) (Ok y) → ◌≡◌ {A = Result T F} (Ok x) (Ok y)
unfolding got
same_ok x y is = ap Ok (ap (got x) is)
