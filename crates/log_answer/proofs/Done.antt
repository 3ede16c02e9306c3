-- As far as an input was answered: lines that were kept and told, and lines that wait in the batch.
use Rattle.std.proofs.Common.{◌≡◌, ◌∙◌, ℕ, zero, suc, ◌+◌, List, [], ◌∷◌, ◌++◌, length, Option, Some, append_assoc, append-nil, length-append, refl, ap, sym, subst}
use Rattle.std.specs.Prelude.{take}
use Rattle.std.specs.Io.KnownBytes.{Appends, Keeps}
use Rattle.std.proofs.KnownBytes.{Appends-trans, Appends-nil}
use Rattle.grain_logic.specs.Logic.{Logic}
use Rattle.silo_model.specs.Journal.{LeadsTo}
use Rattle.silo_model.specs.Segments.{untold}
use Rattle.silo_model.specs.Whole.{Whole}
use Rattle.silo_core.specs.History.{History}
use Rattle.line_text.specs.Limits.{kept_limit}
use Rattle.line_text.specs.Reading as reading
use Rattle.line_text.specs.Reading.{Reading, IsFresh, LinesTaken, TakesCut, TakesLine, TakesPart, AreTaken, left_of}
use Rattle.line_text.proofs.LinesOfBytes.{LinesTaken-trans, LinesTaken-kept, LinesTaken-self}
use Rattle.line_text.proofs.ReadLines.{said_cut}
use Rattle.line_text.proofs.TakenLines.{Took, Took-kept, Took-more, Took-none, TakesLine-lines}
use Rattle.answer_model.specs.Idle.{AllIdle}
use Rattle.answer_model.specs.Answering.{all_answered, whole_stepper}
use Rattle.line_answer.specs.Laws.{heard_well}
use Rattle.line_answer.specs.Texts.{asks_of, lines_text}
use Rattle.log_text.specs.Lines.{ArePlain, HasNoBreak}
use Rattle.log_text.specs.Batches as text
use Rattle.log_text.proofs.Batches.{plain_push}
use Rattle.log_text.proofs.CutBytes.{plain_by}
use Rattle.log_host.specs.Acts.{Act, Held, held_from}
use Rattle.log_host.specs.Lasting.{IsAsked, IsSettled, Lasts, LastsFrom, Log, lines_in}
use Rattle.log_host.specs.declared.place.LogPlace.{LogPlace}
use Rattle.log_host.proofs.Lives.{always_append, lasts_on}
use Rattle.log_host.proofs.Moments.{held_on, settled_lasts}
use Rattle.log_answer.specs.Answers.{heard_of, kept_line, kept_lines, led, silo_log, told_for}
use Rattle.log_answer.specs.Runs.{GoesOn}
use Rattle.log_answer.specs.inside.Commits.{Settles}
use Rattle.log_answer.specs.inside.Gathering.{Gathers}
use Rattle.log_answer.proofs.Left.{led_alike, told_alike}
use Rattle.log_answer.proofs.Led.{kept_append, kept_says, led_append, silos_grow, text_append, told_append}

-- ---- lines without LF

take_plain : (k : ℕ) (line : List ℕ) → HasNoBreak line → HasNoBreak (take k line)
take_plain zero line plain = tt
take_plain (suc k) [] plain = tt
take_plain (suc k) (b ∷ line) plain = (plain.0, take_plain k line plain.1)

kept_plain : (line : List ℕ) → reading.HasNoBreak line → HasNoBreak (kept_line line)
kept_plain line one = take_plain kept_limit line (plain_by line one)

-- ---- so far

pub record Done (logic : Logic) (n count : ℕ) (from left : Option (List ℕ)) (old now : History) (before after : Option (List ℕ)) (asked texts : List ℕ)
    (told pending : List (List ℕ)) : Type 0 where
  pub leads : LeadsTo logic old.setup old.journal old.whole
  pub counted : length (told ++ pending) ≡ count
  pub taken : LinesTaken from left (told ++ pending)
  pub took : Took from left (told ++ pending)
  pub setup : now.setup ≡ old.setup
  pub whole : now.whole ≡ led logic n old.whole (told ++ pending)
  pub idle : AllIdle now.whole.entries
  pub plain : ArePlain (kept_lines pending)
  pub asked_is : asked ≡ text.lines_text (kept_lines pending)
  pub texts_are : texts ≡ told_for logic n (led logic n old.whole told) pending
  pub written : Appends before after (told_for logic n old.whole told)

module _ (logic : Logic) (n : ℕ) where
  -- lines that say the same lead to the same, and are told the same
  pub led_by_heard : (w : Whole) (lines others : List (List ℕ)) → heard_of lines ≡ heard_of others → led logic n w lines ≡ led logic n w others
  led_by_heard w lines others same = ap (λ heard. all_answered (whole_stepper logic) n w (asks_of heard)) same

  pub told_by_heard : (w : Whole) (lines others : List (List ℕ)) → heard_of lines ≡ heard_of others → told_for logic n w lines ≡ told_for logic n w others
  told_by_heard w lines others same = ap (lines_text (whole_stepper logic) n w) same

  pub kept_heard : (lines : List (List ℕ)) → heard_of (kept_lines lines) ≡ heard_of lines
  kept_heard lines = ap heard_well (kept_says lines)

  pub done_none : (from : Option (List ℕ)) (old : History) (before : Option (List ℕ)) (asked texts : List ℕ) → LeadsTo logic old.setup old.journal old.whole
      → AllIdle old.whole.entries → asked ≡ [] → texts ≡ [] → Done logic n 0 from from old old before before asked texts [] []
  done_none from old before asked texts leads idle none nothing = record {
    leads = leads;
    counted = refl;
    taken = LinesTaken-self from;
    took = Took-none from;
    setup = refl;
    whole = refl;
    idle = idle;
    plain = tt;
    asked_is = none;
    texts_are = nothing;
    written = Appends-nil before;
  }

  module _ (count : ℕ) (from left : Option (List ℕ)) (old now : History) (before during : Option (List ℕ)) (asked texts : List ℕ)
      (told pending : List (List ℕ)) (p : Done logic n count from left old now before during asked texts told pending) where
    -- the same is left to read
    pub done_left : (next : Option (List ℕ)) → Keeps left next → Done logic n count from next old now before during asked texts told pending
    done_left next kept = record {
      leads = p.leads;
      counted = p.counted;
      taken = LinesTaken-kept from left next (told ++ pending) p.taken kept;
      took = Took-kept from left next (told ++ pending) p.took kept;
      setup = p.setup;
      whole = p.whole;
      idle = p.idle;
      plain = p.plain;
      asked_is = p.asked_is;
      texts_are = p.texts_are;
      written = p.written;
    }

    all_told : told_for logic n old.whole (told ++ pending) ≡ told_for logic n old.whole told ++ texts
    all_told = told_append logic n old.whole told pending ∙ ap (λ l. told_for logic n old.whole told ++ l) (sym p.texts_are)

    -- the batch was told, and is empty
    pub done_committed : (after : Option (List ℕ)) (asked_then texts_then : List ℕ) → Appends during after texts → asked_then ≡ [] → texts_then ≡ []
        → Done logic n count from left old now before after asked_then texts_then (told ++ pending) []
    done_committed after asked_then texts_then wrote none nothing =
        let all = sym (append-nil (told ++ pending)) in
        record {
          leads = p.leads;
          counted = ap length (append-nil (told ++ pending)) ∙ p.counted;
          taken = subst (LinesTaken from left) all p.taken;
          took = subst (Took from left) all p.took;
          setup = p.setup;
          whole = p.whole ∙ ap (led logic n old.whole) all;
          idle = p.idle;
          plain = tt;
          asked_is = none;
          texts_are = nothing;
          written = subst (Appends before after) (sym all_told) (Appends-trans before during after _ _ p.written wrote);
        }

    -- one line more waits in the batch
    pub done_gathered : (next : Option (List ℕ)) (new : History) (shown asked_then texts_then : List ℕ) (w : TakesCut left next shown)
        → Gathers logic n now (kept_line shown) new asked asked_then texts texts_then
        → Done logic n (count + 1) from next old new before during asked_then texts_then told (pending ++ w.line ∷ [])
    done_gathered next new shown asked_then texts_then w g =
        let l = w.line in
        let all : told ++ (pending ++ l ∷ []) ≡ (told ++ pending) ++ l ∷ [] = sym (append_assoc told pending (l ∷ [])) in
        let same : kept_line shown ≡ kept_line l = w.cut in
        let says : heard_of (kept_line shown ∷ []) ≡ heard_of (l ∷ []) = ap (λ k. heard_of (k ∷ [])) same ∙ (λ i. record { said = said_cut l i; lucks = [] } ∷ []) in
        let led_there : new.whole ≡ led logic n old.whole ((told ++ pending) ++ l ∷ []) =
        g.leads.whole
        ∙ (λ i. led logic n (p.whole i) (kept_line shown ∷ []))
        ∙ led_by_heard (led logic n old.whole (told ++ pending)) (kept_line shown ∷ []) (l ∷ []) says
        ∙ sym (led_append logic n old.whole (told ++ pending) (l ∷ [])) in
        record {
          leads = p.leads;
          counted = ap length all ∙ length-append (told ++ pending) (l ∷ []) ∙ ap (λ k. k + 1) p.counted;
          taken = subst (LinesTaken from next) (sym all) (LinesTaken-trans from left next (told ++ pending) (l ∷ []) p.taken (TakesLine-lines left next l w.taken));
          took = subst (Took from next) (sym all) (Took-more from left next (told ++ pending) l p.took w.taken);
          setup = g.leads.setup ∙ p.setup;
          whole = led_there ∙ ap (led logic n old.whole) (sym all);
          idle = g.leads.idle;
          plain = subst ArePlain (sym (kept_append pending (l ∷ []))) (plain_push (kept_lines pending) (kept_line l) p.plain (kept_plain l w.taken.one));
          asked_is =
              g.asked_is
              ∙ (λ i. p.asked_is i ++ text.line_text (same i))
              ∙ ap (λ t. text.lines_text (kept_lines pending) ++ t) (sym (append-nil (text.line_text (kept_line l))))
              ∙ sym (text_append (kept_lines pending) (kept_line l ∷ []))
              ∙ ap text.lines_text (sym (kept_append pending (l ∷ [])));
          texts_are =
              g.text_is
              ∙ (λ i. p.texts_are i ++ told_for logic n (p.whole i) (kept_line shown ∷ []))
              ∙ ap (λ t. told_for logic n (led logic n old.whole told) pending ++ t)
              (told_by_heard (led logic n old.whole (told ++ pending)) (kept_line shown ∷ []) (l ∷ []) says
              ∙ ap (λ x. told_for logic n x (l ∷ [])) (led_append logic n old.whole told pending))
              ∙ sym (told_append logic n (led logic n old.whole told) pending (l ∷ []));
          written = p.written;
        }

    -- ---- the log

    -- the lines of the batch are asked of it
    abbrev pub is_asked : (w : Whole) (first sum : ℕ) (place : LogPlace) (name : List ℕ) (h : Held) (acts : List Act) (mid : Option (List Act)) → name ≡ place.name
        → GoesOn logic n w first place h old.whole → (s : Settles (silo_log logic n w place.name first) h (kept_lines told) acts mid sum)
        → IsAsked (silo_log logic n w place.name first) name (held_from h s.more) sum asked texts
    is_asked w first sum place name h acts mid same on s =
        let log = silo_log logic n w place.name first in
        let had = lines_in log h.file in
        let there : untold (led logic n w (had ++ kept_lines told)) ≡ untold (led logic n old.whole told) =
        ap untold (led_append logic n w had (kept_lines told)) ∙ led_alike logic n (led logic n w had) old.whole (kept_lines told) (sym on.leads)
        ∙ ap untold (led_by_heard old.whole (kept_lines told) told (kept_heard told)) in
        record {
          same = sym same;
          plain = on.plain;
          grows = silos_grow logic n w;
          settled = s.settled;
          lines = kept_lines pending;
          are = p.plain;
          bytes = p.asked_is;
          answer =
              told_append logic n w (lines_in log (held_from h s.more).file) (kept_lines pending)
              ∙ (λ i. sym s.settled.said i ++ told_for logic n (led logic n w (s.lines_then i)) (kept_lines pending))
              ∙ ap (λ t. (held_from h s.more).said ++ t)
              (told_alike logic n (led logic n w (had ++ kept_lines told)) (led logic n old.whole told) (kept_lines pending) there
              ∙ told_by_heard (led logic n old.whole told) (kept_lines pending) pending (kept_heard pending) ∙ sym p.texts_are);
        }

-- ---- acts, one after another

pub settles_none : (logic : Logic) (n : ℕ) (w : Whole) (first : ℕ) (place : LogPlace) (h : Held) (silo : Whole) (acts : List Act) (now : Option (List Act))
    → now ≡ Some acts → GoesOn logic n w first place h silo → Settles (silo_log logic n w place.name first) h [] acts now place.sum
settles_none logic n w first place h silo acts now is on = record {
  more = [];
  acts = is ∙ ap Some (sym (append-nil acts));
  always = settled_lasts (silo_log logic n w place.name first) (silos_grow logic n w) h place.sum on.settled;
  settled = on.settled;
  lines_then = sym (append-nil (lines_in (silo_log logic n w place.name first) h.file));
}

pub settles_on : (log : Log) (h : Held) (lines others : List (List ℕ)) (old : List Act) (mid new : Option (List Act)) (sum next : ℕ)
    → (s : Settles log h lines old mid sum) → Settles log (held_from h s.more) others (old ++ s.more) new next
    → Settles log h (lines ++ others) old new next
settles_on log h lines others old mid new sum next s t =
    let there : held_from h (s.more ++ t.more) ≡ held_from (held_from h s.more) t.more = held_on h s.more t.more in
    record {
      more = s.more ++ t.more;
      acts = t.acts ∙ ap Some (append_assoc old s.more t.more);
      always = always_append (Lasts log) h s.more t.more s.always t.always;
      settled = subst (λ x. IsSettled log x next) (sym there) t.settled;
      lines_then =
          ap (λ (x : Held). lines_in log x.file) there ∙ t.lines_then ∙ ap (λ l. l ++ others) s.lines_then
          ∙ append_assoc (lines_in log h.file) lines others;
    }

-- what settles lasts, and what breaks lasts behind it
pub settles_last : (log : Log) (h : Held) (lines : List (List ℕ)) (old : List Act) (new : Option (List Act)) (sum : ℕ) → Settles log h lines old new sum
    → LastsFrom log h old new
settles_last log h lines old new sum s = record { more = s.more; acts = s.acts; always = s.always }

pub breaks_last : (log : Log) (h : Held) (lines : List (List ℕ)) (old : List Act) (mid new : Option (List Act)) (sum : ℕ)
    → (s : Settles log h lines old mid sum) → LastsFrom log (held_from h s.more) (old ++ s.more) new → LastsFrom log h old new
breaks_last log h lines old mid new sum s t = lasts_on log h old s.more new s.always t
