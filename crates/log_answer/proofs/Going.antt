-- As far as an input was answered and its log has it.
use Rattle.std.proofs.Common.{◌≡◌, ◌≢◌, ◌∙◌, ◌≤◌, ℕ, ◌+◌, Bool, IfSome, List, [], ◌∷◌, ◌++◌, length, Option, Some, append_assoc, append-nil, inl, inr, refl, sym, subst, ap}
use Rattle.std.specs.Prelude.{◌⊎◌}
use Rattle.std.specs.Io.KnownBytes.{Keeps}
use Rattle.std.proofs.KnownBytes.{Keeps-refl}
use Rattle.grain_logic.specs.Logic.{Logic}
use Rattle.silo_model.specs.Journal.{LeadsTo}
use Rattle.silo_model.specs.Opening.{Setup}
use Rattle.silo_model.specs.Segments.{untold}
use Rattle.silo_model.specs.Whole.{Whole}
use Rattle.silo_core.specs.History.{History}
use Rattle.line_text.specs.Reading.{Reading, TakesCut, left_of}
use Rattle.line_answer.specs.Limits.{answered_limit}
use Rattle.answer_model.specs.Idle.{AllIdle}
use Rattle.log_host.specs.Acts.{Act, Held, held_from}
use Rattle.log_host.proofs.Moments.{held_on}
use Rattle.log_host.specs.declared.place.LogPlace.{LogPlace}
use Rattle.log_answer.specs.Answers.{HasLeft, SameTables, kept_line, kept_lines, led, silo_log}
use Rattle.log_host.specs.Lasting.{LastsFrom, lines_in}
use Rattle.log_answer.specs.Runs.{GoesOn, RunsOn, StopsLogged}
use Rattle.log_answer.specs.Starts.{IsOwn, MarksTell, OwnsFrom}
use Rattle.log_answer.specs.declared.running.LogFault.{LogFault}
use Rattle.log_answer.specs.declared.running.LogFault.TheVariants as fault
use Rattle.log_answer.specs.inside.Commits.{Breaks, Commits, Settles, StopsTaking, Waits}
use Rattle.log_answer.specs.inside.Gathering.{Gathers, GathersOn}
use Rattle.log_answer.proofs.Done.{Done, done_gathered, done_left, done_none, kept_heard, led_by_heard, settles_last, settles_none}
use Rattle.log_answer.proofs.Led.{led_append}
use Rattle.log_answer.proofs.Left.{gathers_on, led_alike, left_is_all, left_self}
use Rattle.log_answer.proofs.Paused.{answers_part}
use Rattle.log_answer.proofs.Room.{Grown, grown_more, grown_none}
use Rattle.log_answer.proofs.Own.{own_part, own_settled, same_more, tells_same}
use Rattle.log_answer.proofs.Ends.{asking, committed, lasts_taking, lasts_then, settles_then, stops_full, stops_memory, stops_taking}

-- the log has these lines, if it is settled where the silo was
abbrev pub Keeping : Logic → ℕ → LogPlace → Whole → List (List ℕ) → Option (List Act) → Option (List Act) → ℕ → Type 0
Keeping logic n begun silo told start new sum = (w : Whole) (first : ℕ) (h : Held) (acts : List Act) → start ≡ Some acts → GoesOn logic n w first begun h silo
    → Settles (silo_log logic n w begun.name first) h (kept_lines told) acts new sum

-- and its marks say the sums of what was told, if they did where the silo was
abbrev pub Telling : Logic → ℕ → LogPlace → LogPlace → Whole → Option (List Act) → Option (List Act) → Type 0
Telling logic n begun place silo start new = (w : Whole) (first sum : ℕ) (h : Held) (acts : List Act) → start ≡ Some acts → GoesOn logic n w first begun h silo
    → MarksTell logic n w begun.name first sum h.file begun.told → (more : List Act) → new ≡ Some (acts ++ more)
    → MarksTell logic n w begun.name first sum (held_from h more).file place.told

pub record Going (logic : Logic) (n count : ℕ) (from left : Option (List ℕ)) (old now : History) (before after : Option (List ℕ)) (asked texts : List ℕ)
    (begun place : LogPlace) (start new : Option (List Act)) : Type 0 where
  pub told : List (List ℕ)
  pub pending : List (List ℕ)
  pub done : Done logic n count from left old now before after asked texts told pending
  pub keeps : Keeping logic n begun old.whole told start new place.sum
  pub tells : Telling logic n begun place old.whole start new
  pub name : place.name ≡ begun.name

-- So far, by a silo that has what is left of the history to which the lines lead. The lines have so many bytes in the log, and without the
-- last of them they have room.
pub record GoingOn (keeps : Bool) (logic : Logic) (n count room grown : ℕ) (from left : Option (List ℕ)) (old now : History) (before after : Option (List ℕ))
    (asked texts : List ℕ) (begun place : LogPlace) (start new : Option (List Act)) : Type 0 where
  pub all : History
  pub has : HasLeft keeps all now
  pub going : Going logic n count from left old all before after asked texts begun place start new
  pub bytes : Grown room grown (going.told ++ going.pending)

-- its tenants are those of before
pub going_tables : (keeps : Bool) (logic : Logic) (n count room grown : ℕ) (from left : Option (List ℕ)) (old now : History) (before after : Option (List ℕ)) (asked texts : List ℕ)
    (begun place : LogPlace) (start new : Option (List Act)) → GoingOn keeps logic n count room grown from left old now before after asked texts begun place start new
    → SameTables old.setup now.setup
going_tables keeps logic n count room grown from left old now before after asked texts begun place start new p =
    subst (λ (s : Setup). SameTables s now.setup) p.going.done.setup p.has.tables

module _ (logic : Logic) (n : ℕ) where
  going_none : (from : Option (List ℕ)) (old : History) (before : Option (List ℕ)) (asked texts : List ℕ) (begun : LogPlace) (start : Option (List Act))
      → LeadsTo logic old.setup old.journal old.whole → AllIdle old.whole.entries → asked ≡ [] → texts ≡ []
      → Going logic n 0 from from old old before before asked texts begun begun start start
  going_none from old before asked texts begun start leads idle none nothing = record {
    told = [];
    pending = [];
    done = done_none logic n from old before asked texts leads idle none nothing;
    keeps = λ w first h acts is on. settles_none logic n w first begun h old.whole acts start is on;
    tells = λ w first sum h acts is on m. tells_same logic n w begun.name first sum h begun.told start acts is m;
    name = refl;
  }

  pub begins_on : (keeps : Bool) (room : ℕ) (from : Option (List ℕ)) (old : History) (before : Option (List ℕ)) (asked texts : List ℕ) (begun : LogPlace) (start : Option (List Act))
      → LeadsTo logic old.setup old.journal old.whole → AllIdle old.whole.entries → asked ≡ [] → texts ≡ []
      → GoingOn keeps logic n 0 room 0 from from old old before before asked texts begun begun start start
  unfolding going_none
  begins_on keeps room from old before asked texts begun start leads idle none nothing = record {
    all = old;
    has = left_self keeps old;
    going = going_none from old before asked texts begun start leads idle none nothing;
    bytes = grown_none room;
  }

  module _ (count : ℕ) (from left : Option (List ℕ)) (old now : History) (before during : Option (List ℕ)) (asked texts : List ℕ) (begun place : LogPlace)
      (start mid : Option (List Act)) (p : Going logic n count from left old now before during asked texts begun place start mid) where
    -- the same is left to read
    pub going_left : (next : Option (List ℕ)) → Keeps left next → Going logic n count from next old now before during asked texts begun place start mid
    going_left next kept = record {
      told = p.told;
      pending = p.pending;
      done = done_left logic n count from left old now before during asked texts p.told p.pending p.done next kept;
      keeps = p.keeps;
      tells = p.tells;
      name = p.name;
    }

    module _ (after : Option (List ℕ)) (asked_then texts_then : List ℕ) (next : LogPlace) (new : Option (List Act)) where
      -- nothing was done
      going_on : Waits mid new during after place next asked asked_then texts texts_then → Going logic n count from left old now before after asked_then texts_then begun next start new
      going_on w = record {
        told = p.told;
        pending = p.pending;
        done =
            subst (λ a. Done logic n count from left old now before after a texts_then p.told p.pending) (sym w.asked_is)
            (subst (λ t. Done logic n count from left old now before after asked t p.told p.pending) (sym w.text_is)
            (subst (λ o. Done logic n count from left old now before o asked texts p.told p.pending) (sym w.output) p.done));
        keeps = λ v first h acts is on.
            subst (λ (x : LogPlace). Settles (silo_log logic n v begun.name first) h (kept_lines p.told) acts new x.sum) (sym w.place_is)
            (subst (λ a. Settles (silo_log logic n v begun.name first) h (kept_lines p.told) acts a place.sum) (sym w.acts) (p.keeps v first h acts is on));
        tells = λ v first sum h acts is on m more also.
            subst (λ (x : LogPlace). MarksTell logic n v begun.name first sum (held_from h more).file x.told) (sym w.place_is) (p.tells v first sum h acts is on m more (sym w.acts ∙ also));
        name = ap (λ (x : LogPlace). x.name) w.place_is ∙ p.name;
      }

      -- the batch was committed
      pub going_committed : Commits mid new during after place asked texts next → asked_then ≡ [] → texts_then ≡ []
          → Going logic n count from left old now before after asked_then texts_then begun next start new
      going_committed c none nothing = record {
        told = p.told ++ p.pending;
        pending = [];
        done = committed logic n count old now before asked texts from left during after p.told p.pending mid new place p.done next asked_then texts_then c none nothing;
        keeps = λ w first h acts is on.
            settles_then logic n count old now before asked texts from left during after p.told p.pending mid new place p.done w first begun h acts p.name on
            (p.keeps w first h acts is on) next c;
        tells = λ w first sum h acts is on m more also.
            let s = p.keeps w first h acts is on in
            let a = asking logic n count old now before asked texts from left during after p.told p.pending mid new place p.done w first begun h acts p.name on s in
            let t = c.settles (silo_log logic n w begun.name first) (held_from h s.more) (acts ++ s.more) s.acts a in
            let there : s.more ++ t.more ≡ more = same_more new acts (s.more ++ t.more) more (t.acts ∙ ap Some (append_assoc acts s.more t.more)) also in
            subst (λ (l : List Act). MarksTell logic n w begun.name first sum (held_from h l).file next.told) there
            (subst (λ (x : Held). MarksTell logic n w begun.name first sum x.file next.told) (sym (held_on h s.more t.more))
            (c.tells logic n w begun.name first sum (held_from h s.more) (acts ++ s.more) s.acts a (p.tells w first sum h acts is on m s.more s.acts) t.more t.acts));
        name = c.name ∙ p.name;
      }

      pub going_moved : (Waits mid new during after place next asked asked_then texts texts_then
          ⊎ (Commits mid new during after place asked texts next × (asked_then ≡ []) × (texts_then ≡ [])))
          → Going logic n count from left old now before after asked_then texts_then begun next start new
      going_moved (inl w) = going_on w
      going_moved (inr c) = going_committed c.0 c.1 c.2

      -- the lines are the same
      pub moved_grown : (room grown : ℕ) → Grown room grown (p.told ++ p.pending) → (moves : Waits mid new during after place next asked asked_then texts texts_then
          ⊎ (Commits mid new during after place asked texts next × (asked_then ≡ []) × (texts_then ≡ [])))
          → Grown room grown ((going_moved moves).told ++ (going_moved moves).pending)
      unfolding going_moved going_on going_committed
      moved_grown room grown g (inl w) = g
      moved_grown room grown g (inr c) = subst (λ (ls : List (List ℕ)). Grown room grown ls) (sym (append-nil (p.told ++ p.pending))) g

    -- one line more waits in the batch
    pub going_gathered : (next : Option (List ℕ)) (new : History) (found shown asked_then texts_then : List ℕ) → found ≡ shown → (w : TakesCut left next shown)
        → Gathers logic n now (kept_line found) new asked asked_then texts texts_then
        → Going logic n (count + 1) from next old new before during asked_then texts_then begun place start mid
    going_gathered next new found shown asked_then texts_then same w g = record {
      told = p.told;
      pending = p.pending ++ w.line ∷ [];
      done =
          done_gathered logic n count from left old now before during asked texts p.told p.pending p.done next new shown asked_then texts_then w
          (subst (λ l. Gathers logic n now (kept_line l) new asked asked_then texts texts_then) same g);
      keeps = p.keeps;
      tells = p.tells;
      name = p.name;
    }

    -- of a silo that has what is left
    pub gathered_on : (keeps here : Bool) (has new : History) → here ≡ keeps → HasLeft keeps now has → (next : Option (List ℕ)) (found shown asked_then texts_then : List ℕ) → found ≡ shown
        → (w : TakesCut left next shown) → GathersOn here logic n has (kept_line found) new asked asked_then texts texts_then
        → (room grown total : ℕ) → Grown room grown (p.told ++ p.pending) → grown ≤ room → total ≡ grown + (length (kept_line found) + 1)
        → GoingOn keeps logic n (count + 1) room total from next old new before during asked_then texts_then begun place start mid
    unfolding going_gathered
    gathered_on keeps here has new is left_there next found shown asked_then texts_then same w g room grown total b fit sum =
        let on = gathers_on logic n keeps now has new left_there (kept_line found) asked asked_then texts texts_then
        (subst (λ (b : Bool). GathersOn b logic n has (kept_line found) new asked asked_then texts texts_then) is g) in
        record {
          all = on.0;
          has = on.2;
          going = going_gathered next on.0 found shown asked_then texts_then same w on.1;
          bytes = subst (λ (ls : List (List ℕ)). Grown room total ls) (append_assoc p.told p.pending (w.line ∷ []))
              (grown_more room grown total (p.told ++ p.pending) w.line b fit (sum ∙ ap (λ (l : List ℕ). grown + (length l + 1)) (ap kept_line same ∙ w.cut)));
        }

    -- ---- the end of the input, behind the last batch

    module _ (after : Option (List ℕ)) (next : LogPlace) (new : Option (List Act)) (c : Commits mid new during after place asked texts next) (reading : Reading) (rest : Option (List ℕ))
        (kept : Keeps left (left_of reading rest)) where
      ended : Done logic n count from (left_of reading rest) old now before after [] [] (p.told ++ p.pending) []
      ended =
          done_left logic n count from left old now before after [] [] (p.told ++ p.pending) []
          (committed logic n count old now before asked texts from left during after p.told p.pending mid new place p.done next [] [] c refl refl)
          (left_of reading rest) kept

      pub going_full : (already : ℕ) (failed : Bool) → already + count ≡ answered_limit → reading.ahead ≢ []
          → IfSome from (λ input. StopsLogged logic n already input reading rest failed old.whole before after fault.TooMuch)
      going_full already failed full some = stops_full logic n count old now before [] [] already from after (p.told ++ p.pending) reading rest failed ended full some

    pub lasts_ended : (after : Option (List ℕ)) (next : LogPlace) (new : Option (List Act)) → Commits mid new during after place asked texts next
        → (w : Whole) (first : ℕ) (h : Held) (acts : List Act) → start ≡ Some acts → GoesOn logic n w first begun h old.whole
        → LastsFrom (silo_log logic n w begun.name first) h acts new
    lasts_ended after next new c w first h acts is on =
        lasts_then logic n count old now before asked texts from left during after p.told p.pending mid new place p.done w first begun h acts p.name on
        (p.keeps w first h acts is on) next c

    -- ---- its marks, in every outcome

    pub owns_now : (w : Whole) (first sum : ℕ) (h : Held) (acts : List Act) → start ≡ Some acts → GoesOn logic n w first begun h old.whole
        → MarksTell logic n w begun.name first sum h.file begun.told → OwnsFrom logic n w begun.name first sum h acts mid
    owns_now w first sum h acts is on m =
        let s = p.keeps w first h acts is on in
        record {
          more = s.more;
          acts = s.acts;
          own = own_settled logic n w begun.name first place.sum sum place.told (held_from h s.more) on.plain s.settled (p.tells w first sum h acts is on m s.more s.acts);
        }

    -- a batch that isn't whole
    pub owns_broken : (after : Option (List ℕ)) (new : Option (List Act)) → Breaks mid new during after place asked texts
        → (w : Whole) (first sum : ℕ) (h : Held) (acts : List Act) → start ≡ Some acts → GoesOn logic n w first begun h old.whole
        → MarksTell logic n w begun.name first sum h.file begun.told → OwnsFrom logic n w begun.name first sum h acts new
    owns_broken after new b w first sum h acts is on m =
        let s = p.keeps w first h acts is on in
        let a = asking logic n count old now before asked texts from left during after p.told p.pending mid new place p.done w first begun h acts p.name on s in
        let o = own_part logic n w begun.name first sum (held_from h s.more) place asked texts a (p.tells w first sum h acts is on m s.more s.acts) mid new (acts ++ s.more) s.acts b.puts in
        record {
          more = s.more ++ o.more;
          acts = o.acts ∙ ap Some (append_assoc acts s.more o.more);
          own = subst (λ (x : Held). IsOwn logic n w begun.name first sum x.file) (sym (held_on h s.more o.more)) o.own;
        }

    -- ---- a fault

    pub going_stops : (already : ℕ) (why : LogFault) (after rest : Option (List ℕ)) (new : Option (List Act)) (reading : Reading) (failed : Bool)
        → StopsTaking mid new during after place asked texts left rest reading failed why
        → IfSome from (λ input. StopsLogged logic n already input reading rest failed old.whole before after why)
    going_stops already why after rest new reading failed s =
        stops_taking logic n count old now before asked texts from left during after p.told p.pending mid new place p.done already why reading rest failed s

    pub lasts_stopped : (why : LogFault) (after rest : Option (List ℕ)) (new : Option (List Act)) (reading : Reading) (failed : Bool)
        → StopsTaking mid new during after place asked texts left rest reading failed why
        → (w : Whole) (first : ℕ) (h : Held) (acts : List Act) → start ≡ Some acts → GoesOn logic n w first begun h old.whole
        → LastsFrom (silo_log logic n w begun.name first) h acts new
    lasts_stopped why after rest new reading failed s w first h acts is on =
        lasts_taking logic n count old now before asked texts from left during after p.told p.pending mid new place p.done w first begun h acts p.name on
        (p.keeps w first h acts is on) why reading rest failed s

    pub lasts_now : (w : Whole) (first : ℕ) (h : Held) (acts : List Act) → start ≡ Some acts → GoesOn logic n w first begun h old.whole
        → LastsFrom (silo_log logic n w begun.name first) h acts mid
    lasts_now w first h acts is on = settles_last (silo_log logic n w begun.name first) h (kept_lines p.told) acts mid place.sum (p.keeps w first h acts is on)

    pub going_memory : (already : ℕ) (reading : Reading) (rest : Option (List ℕ)) (failed : Bool)
        → IfSome from (λ input. StopsLogged logic n already input reading rest failed old.whole before during fault.Memory)
    going_memory already reading rest failed =
        stops_memory logic n count old now before asked texts already from left during during p.told p.pending reading rest failed p.done (Keeps-refl during)

  module _ (count : ℕ) (from left : Option (List ℕ)) (old now : History) (before during : Option (List ℕ)) (asked texts : List ℕ) (begun place : LogPlace)
      (start mid : Option (List Act)) (p : Going logic n count from left old now before during asked texts begun place start mid) where
    pub owns_ended : (after : Option (List ℕ)) (next : LogPlace) (new : Option (List Act)) → Commits mid new during after place asked texts next
        → (w : Whole) (first sum : ℕ) (h : Held) (acts : List Act) → start ≡ Some acts → GoesOn logic n w first begun h old.whole
        → MarksTell logic n w begun.name first sum h.file begun.told → OwnsFrom logic n w begun.name first sum h acts new
    owns_ended after next new c =
        owns_now count from left old now before after [] [] begun next start new
        (going_committed count from left old now before during asked texts begun place start mid p after [] [] next new c refl refl)

    pub owns_stopped : (why : LogFault) (after rest : Option (List ℕ)) (new : Option (List Act)) (reading : Reading) (failed : Bool)
        → StopsTaking mid new during after place asked texts left rest reading failed why
        → (w : Whole) (first sum : ℕ) (h : Held) (acts : List Act) → start ≡ Some acts → GoesOn logic n w first begun h old.whole
        → MarksTell logic n w begun.name first sum h.file begun.told → OwnsFrom logic n w begun.name first sum h acts new
    owns_stopped fault.Read after rest new reading failed s = owns_ended after s.0.next new s.0.commits
    owns_stopped fault.TooMuch after rest new reading failed s = owns_ended after s.0.next new s.0.commits
    owns_stopped fault.Memory after rest new reading failed (inl c) = owns_ended after c.0 new c.1
    owns_stopped fault.Memory after rest new reading failed (inr b) =
        owns_broken count from left old now before during asked texts begun place start mid p after new b.0
    owns_stopped fault.Write after rest new reading failed b =
        owns_broken count from left old now before during asked texts begun place start mid p after new b.0

    -- behind the last batch the silo is where the lines of the log lead
    pub going_runs : (keeps : Bool) (here : History) → HasLeft keeps now here → (after : Option (List ℕ)) (next : LogPlace) (new : Option (List Act))
        → Commits mid new during after place asked texts next → (ends : Option (List ℕ)) → Keeps left ends
        → RunsOn keeps logic n begun next from ends count old here before after start new
    unfolding going_committed
    going_runs keeps here has after next new c ends kept =
        let g = going_committed count from left old now before during asked texts begun place start mid p after [] [] next new c refl refl in
        let d = done_left logic n count from left old now before after [] [] g.told [] g.done ends kept in
        record {
          lines = g.told;
          counted = sym d.counted ∙ ap length (append-nil g.told);
          name = g.name;
          answered = answers_part keeps logic n count old now here before after [] [] g.told has from ends d;
          goes = λ w first h acts is on.
              let s = g.keeps w first h acts is on in
              record {
                more = s.more;
                acts = s.acts;
                always = s.always;
                settled = s.settled;
                lines_then = s.lines_then;
                leads = left_is_all keeps now here has ∙ ap untold (g.done.whole ∙ ap (led logic n old.whole) (append-nil g.told) ∙ sym (led_by_heard logic n old.whole (kept_lines g.told) g.told (kept_heard logic n g.told)))
                    ∙ led_alike logic n old.whole (led logic n w (lines_in (silo_log logic n w begun.name first) h.file)) (kept_lines g.told) on.leads
                    ∙ ap untold (sym (led_append logic n w (lines_in (silo_log logic n w begun.name first) h.file) (kept_lines g.told)) ∙ ap (led logic n w) (sym s.lines_then));
              };
        }
