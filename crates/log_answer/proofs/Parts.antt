-- Parts of an input that are answered one after the other.
use Rattle.std.proofs.Common.{◌≡◌, ◌∙◌, ℕ, ◌+◌, Bool, IfSome, List, [], ◌++◌, length, length-append, Option, None, Some, append_assoc, append-nil, ap, arith, inl, inr, refl, subst, sym, ⊎_elim}
use Rattle.std.specs.Prelude.{◌⊎◌}
use Rattle.std.proofs.lemmas.List.{nil_from_length}
use Rattle.std.specs.Io.KnownBytes.{Appends, IsAtEnd}
use Rattle.std.proofs.KnownBytes.{Appends-nil, Appends-trans, Consumes-trans, Keeps-refl}
use Rattle.grain_logic.specs.Logic.{Logic}
use Rattle.silo_model.specs.Segments.{untold}
use Rattle.silo_model.specs.Whole.{Whole}
use Rattle.silo_core.specs.History.{History}
use Rattle.answer_model.specs.Idle.{AllIdle}
use Rattle.line_text.specs.Lines.{lines_of, whole_lines}
use Rattle.line_text.specs.Writing.{WrittenInPart}
use Rattle.line_text.specs.Reading.{AreTaken, Reading}
use Rattle.line_answer.specs.Dropped.{MayDrop}
use Rattle.line_answer.proofs.Dropped.{leaves_dropped, leaves_self}
use Rattle.log_text.specs.Lines.{HasNoBreak}
use Rattle.log_host.specs.Acts.{Act, Held, held_from}
use Rattle.log_host.specs.Lasting.{IsSettled, Lasts, LastsFrom, lines_in}
use Rattle.log_host.specs.declared.place.LogPlace.{LogPlace}
use Rattle.log_host.proofs.Known.{none_written}
use Rattle.log_host.proofs.Lives.{always_append, lasts_on}
use Rattle.log_host.proofs.Moments.{held_on, settled_lasts}
use Rattle.log_answer.specs.Answers.{HasLeft, LeadsOn, kept_lines, led, silo_log, told_for}
use Rattle.log_answer.specs.Runs.{AnswersPart, AreLines, GoesFrom, GoesOn, RunsOn, StopsLogged, TellsFirst}
use Rattle.log_answer.specs.declared.running.LogFault.{LogFault}
use Rattle.log_answer.specs.declared.running.LogFault.TheVariants as fault
use Rattle.log_answer.proofs.Led.{kept_append, led_append, silos_grow, told_append}
use Rattle.log_answer.proofs.Left.{gone_tables, leads_on, leaves_all, led_alike, left_is_all, left_self, tables_on, told_alike}

-- ---- a silo that let go of its history between two of them

left_gone : (keeps : Bool) (all mid new : History) → HasLeft keeps all mid → MayDrop keeps mid new → HasLeft keeps all new
left_gone keeps all mid new p gone = record {
  leaves = leaves_dropped keeps all mid new p.leaves gone;
  tables = tables_on all.setup mid.setup mid.setup new.setup p.tables refl (gone_tables keeps mid new gone);
}

module _ (keeps : Bool) (logic : Logic) (n : ℕ) where
  pub part_gone : (input : List ℕ) (lines : List (List ℕ)) (old mid new : History) (left before after : Option (List ℕ)) → AnswersPart keeps logic n input lines old mid left before after
      → MayDrop keeps mid new → AnswersPart keeps logic n input lines old new left before after
  part_gone input lines old mid new left before after a gone = record {
    taken = a.taken;
    rest = a.rest;
    parts = a.parts;
    left_is = a.left_is;
    are = a.are;
    text = a.text;
    leads = record { all = a.leads.all; left = left_gone keeps a.leads.all mid new a.leads.left gone; leads = a.leads.leads };
    written = a.written;
  }

  -- ---- nothing yet

  pub part_none : (input : List ℕ) (old : History) (before : Option (List ℕ)) → AllIdle old.whole.entries → AnswersPart keeps logic n input [] old old (Some input) before before
  part_none input old before idle = record {
    taken = [];
    rest = input;
    parts = refl;
    left_is = refl;
    are = inl (record { all = λ more. refl; whole = λ more. refl });
    text = [];
    leads = record { all = old; left = left_self keeps old; leads = record { setup = refl; whole = refl; idle = idle; text_is = refl } };
    written = Appends-nil before;
  }

  -- ---- one part behind another

  leads_then : (lines more : List (List ℕ)) (text others : List ℕ) (old mid new : History) → LeadsOn keeps logic n old lines mid text → LeadsOn keeps logic n mid more new others
      → LeadsOn keeps logic n old (lines ++ more) new (text ++ others)
  leads_then lines more text others old mid new a b =
      let on = leads_on logic n keeps a.all mid new a.left more others b in
      let l = on.1 in
      record {
        all = on.0;
        left = on.2;
        leads = record {
          setup = l.setup ∙ a.leads.setup;
          whole = l.whole ∙ ap (λ w. led logic n w more) a.leads.whole ∙ sym (led_append logic n old.whole lines more);
          idle = l.idle;
          text_is =
              ap (λ (t : List ℕ). t ++ others) a.leads.text_is
              ∙ ap (λ (t : List ℕ). told_for logic n old.whole lines ++ t) (l.text_is ∙ ap (λ w. told_for logic n w more) a.leads.whole)
              ∙ sym (told_append logic n old.whole lines more);
        };
      }

  module _ (input : List ℕ) (lines : List (List ℕ)) (old mid : History) (middle before during : Option (List ℕ)) (a : AnswersPart keeps logic n input lines old mid middle before during) where
    -- the lines of the input are these, and those of what is left
    pub lines_on : lines_of input ≡ lines ++ lines_of a.rest
    lines_on =
        ⊎_elim (λ (are : AreLines a.taken lines). ap lines_of a.parts ∙ are.all a.rest)
        (λ last. ap lines_of (a.parts ∙ ap (λ (k : List ℕ). a.taken ++ k) last.1 ∙ append-nil a.taken) ∙ sym last.0 ∙ sym (append-nil lines) ∙ ap (λ (k : List ℕ). lines ++ lines_of k) (sym last.1)) a.are

    -- nothing comes behind the last line
    none_more : (more : List (List ℕ)) (taken rest : List ℕ) → a.rest ≡ [] → a.rest ≡ taken ++ rest → AreLines taken more ⊎ ((more ≡ lines_of taken) × (rest ≡ [])) → (taken ≡ []) × (more ≡ [])
    none_more more taken rest none parts are =
        let nothing : taken ≡ [] = nil_from_length taken (omega (arith, ap length none, ap length parts, length-append taken rest)) in (
          nothing,
          ⊎_elim (λ (all : AreLines taken more). sym (append-nil more) ∙ sym (all.all []) ∙ ap (λ (k : List ℕ). lines_of (k ++ [])) nothing)
              (λ last. last.0 ∙ ap lines_of nothing) are,
        )

    both_are : (more : List (List ℕ)) (taken rest : List ℕ) → a.rest ≡ taken ++ rest → AreLines taken more ⊎ ((more ≡ lines_of taken) × (rest ≡ []))
        → AreLines (a.taken ++ taken) (lines ++ more) ⊎ ((lines ++ more ≡ lines_of (a.taken ++ taken)) × (rest ≡ []))
    both_are more taken rest parts are =
        ⊎_elim (λ (first : AreLines a.taken lines).
        ⊎_elim (λ (then_are : AreLines taken more). inl (record {
          all = λ others. ap lines_of (append_assoc a.taken taken others) ∙ first.all (taken ++ others) ∙ ap (λ (ls : List (List ℕ)). lines ++ ls) (then_are.all others) ∙ sym (append_assoc lines more (lines_of others));
          whole = λ others. ap whole_lines (append_assoc a.taken taken others) ∙ first.whole (taken ++ others) ∙ ap (λ (ls : List (List ℕ)). lines ++ ls) (then_are.whole others) ∙ sym (append_assoc lines more (whole_lines others));
        }))
        (λ last. inr (ap (λ (ls : List (List ℕ)). lines ++ ls) last.0 ∙ sym (first.all taken), last.1)) are)
        (λ end.
        let none = none_more more taken rest end.1 parts are in
        inr (
          ap (λ (ls : List (List ℕ)). lines ++ ls) none.1 ∙ append-nil lines ∙ end.0 ∙ ap lines_of (sym (append-nil a.taken) ∙ ap (λ (k : List ℕ). a.taken ++ k) (sym none.0)),
          nil_from_length rest (omega (arith, ap length end.1, ap length parts, length-append taken rest)),
        )) a.are

    pub part_then : (here : Bool) → here ≡ keeps → (more : List (List ℕ)) (new : History) (left after : Option (List ℕ)) → IfSome middle (λ bytes. AnswersPart here logic n bytes more mid new left during after)
        → AnswersPart keeps logic n input (lines ++ more) old new left before after
    part_then here is more new left after h =
        let b : AnswersPart keeps logic n a.rest more mid new left during after =
        subst (λ (k : Bool). AnswersPart k logic n a.rest more mid new left during after) is (subst (λ (o : Option (List ℕ)). IfSome o (λ bytes. AnswersPart here logic n bytes more mid new left during after)) a.left_is h) in
        record {
          taken = a.taken ++ b.taken;
          rest = b.rest;
          parts = a.parts ∙ ap (λ (k : List ℕ). a.taken ++ k) b.parts ∙ sym (append_assoc a.taken b.taken b.rest);
          left_is = b.left_is;
          are = both_are more b.taken b.rest b.parts b.are;
          text = a.text ++ b.text;
          leads = leads_then lines more a.text b.text old mid new a.leads b.leads;
          written = Appends-trans before during after a.text b.text a.written b.written;
        }

    -- ---- and where the next part isn't answered whole

    -- all of them were told, and nothing of what follows
    unfoldable pub tells_part : TellsFirst logic n (lines_of input) old.whole before during
    tells_part = record {
      told = lines;
      batch = [];
      others = lines_of a.rest;
      parts = lines_on;
      during = during;
      whole = subst (Appends before during) a.leads.leads.text_is a.written;
      part = none_written during during [] (Keeps-refl during);
    }

    -- the silo is where the lines lead
    there : untold mid.whole ≡ untold (led logic n old.whole lines)
    there = left_is_all keeps a.leads.all mid a.leads.left ∙ ap untold a.leads.leads.whole

    there_then : (more : List (List ℕ)) → untold (led logic n mid.whole more) ≡ untold (led logic n old.whole (lines ++ more))
    there_then more = led_alike logic n mid.whole (led logic n old.whole lines) more there ∙ ap untold (sym (led_append logic n old.whole lines more))

    tells_then : (after : Option (List ℕ)) → TellsFirst logic n (lines_of a.rest) mid.whole during after → TellsFirst logic n (lines_of input) old.whole before after
    tells_then after t = record {
      told = lines ++ t.told;
      batch = t.batch;
      others = t.others;
      parts = lines_on ∙ ap (λ (ls : List (List ℕ)). lines ++ ls) t.parts ∙ sym (append_assoc lines t.told (t.batch ++ t.others));
      during = t.during;
      whole =
          subst (Appends before t.during)
          (ap (λ (text : List ℕ). text ++ told_for logic n mid.whole t.told) a.leads.leads.text_is
          ∙ ap (λ (text : List ℕ). told_for logic n old.whole lines ++ text) (told_alike logic n mid.whole (led logic n old.whole lines) t.told there)
          ∙ sym (told_append logic n old.whole lines t.told))
          (Appends-trans before during t.during a.text (told_for logic n mid.whole t.told) a.written t.whole);
      part = subst (WrittenInPart t.during after) (told_alike logic n (led logic n mid.whole t.told) (led logic n old.whole (lines ++ t.told)) t.batch (there_then t.told)) t.part;
    }

    taken_then : (left : Option (List ℕ)) (told : List (List ℕ)) → AreTaken a.rest left told → AreTaken input left (lines ++ told)
    taken_then left told t = record {
      taken = a.taken ++ t.taken;
      parts = Consumes-trans (Some input) (Some a.rest) left a.taken t.taken a.parts t.parts;
      all =
          ⊎_elim (λ (first : AreLines a.taken lines).
          ⊎_elim (λ whole. inl (ap (λ (ls : List (List ℕ)). lines ++ ls) whole ∙ sym (first.whole t.taken)))
          (λ last. inr (ap (λ (ls : List (List ℕ)). lines ++ ls) last.0 ∙ sym (first.all t.taken), last.1)) t.all)
          (λ end. at_end left told t end) a.are;
    }
      where
        at_end : (left : Option (List ℕ)) (told : List (List ℕ)) (t : AreTaken a.rest left told) → (lines ≡ lines_of a.taken) × (a.rest ≡ [])
            → (lines ++ told ≡ whole_lines (a.taken ++ t.taken)) ⊎ ((lines ++ told ≡ lines_of (a.taken ++ t.taken)) × IsAtEnd left)
        at_end None told t end = absurd t.parts
        at_end (Some others) told t end =
            let nothing : t.taken ≡ [] = nil_from_length t.taken (omega (arith, ap length end.1, ap length t.parts, length-append t.taken others)) in
            let none : told ≡ [] = ⊎_elim (λ whole. whole ∙ ap whole_lines nothing) (λ last. last.0 ∙ ap lines_of nothing) t.all in
            inr (
              ap (λ (ls : List (List ℕ)). lines ++ ls) none ∙ append-nil lines ∙ end.0 ∙ ap lines_of (sym (append-nil a.taken) ∙ ap (λ (k : List ℕ). a.taken ++ k) (sym nothing)),
              nil_from_length others (omega (arith, ap length end.1, ap length t.parts, length-append t.taken others)),
            )

    pub stops_then : (already later : ℕ) → later ≡ already + length lines → (reading : Reading) (left : Option (List ℕ)) (failed : Bool) (after : Option (List ℕ)) (why : LogFault)
        → IfSome middle (λ bytes. StopsLogged logic n later bytes reading left failed mid.whole during after why) → StopsLogged logic n already input reading left failed old.whole before after why
    unfolding tells_then
    stops_then already later same reading left failed after why h = by why (subst (λ (o : Option (List ℕ)). IfSome o (λ bytes. StopsLogged logic n later bytes reading left failed mid.whole during after why)) a.left_is h)
      where
        by : (why : LogFault) → StopsLogged logic n later a.rest reading left failed mid.whole during after why → StopsLogged logic n already input reading left failed old.whole before after why
        by fault.Read s = (tells_then after s.0, s.1, s.2, taken_then left s.0.told s.3)
        by fault.TooMuch s = (
          tells_then after s.0,
          s.1,
          ⊎_elim
              (λ full. inl (ap (λ (k : ℕ). already + k) (length-append lines s.0.told) ∙ omega (arith, same, full.0), full.1))
              (λ calls. inr (calls.0, taken_then left s.0.told calls.1)) s.2,
        )
        by fault.Memory s = (tells_then after s.0, s.1)
        by fault.Write s = (tells_then after s.0, s.1)

-- ---- with the log

pub if_parts : (keeps here : Bool) (logic : Logic) (n : ℕ) (lines more : List (List ℕ)) (old mid new : History) (middle left before during after : Option (List ℕ)) → here ≡ keeps → (input : Option (List ℕ))
    → IfSome input (λ bytes. AnswersPart keeps logic n bytes lines old mid middle before during) → IfSome middle (λ bytes. AnswersPart here logic n bytes more mid new left during after)
    → IfSome input (λ bytes. AnswersPart keeps logic n bytes (lines ++ more) old new left before after)
if_parts keeps here logic n lines more old mid new middle left before during after is None a b = tt
if_parts keeps here logic n lines more old mid new middle left before during after is (Some input) a b = part_then keeps logic n input lines old mid middle before during a here is more new left after b

pub if_gone : (keeps : Bool) (logic : Logic) (n : ℕ) (lines : List (List ℕ)) (old mid new : History) (left before after : Option (List ℕ)) → MayDrop keeps mid new → (input : Option (List ℕ))
    → IfSome input (λ bytes. AnswersPart keeps logic n bytes lines old mid left before after) → IfSome input (λ bytes. AnswersPart keeps logic n bytes lines old new left before after)
if_gone keeps logic n lines old mid new left before after gone None a = tt
if_gone keeps logic n lines old mid new left before after gone (Some input) a = part_gone keeps logic n input lines old mid new left before after a gone

pub if_none : (keeps : Bool) (logic : Logic) (n : ℕ) (old : History) (before : Option (List ℕ)) → AllIdle old.whole.entries → (input : Option (List ℕ))
    → IfSome input (λ bytes. AnswersPart keeps logic n bytes [] old old input before before)
if_none keeps logic n old before idle None = tt
if_none keeps logic n old before idle (Some input) = part_none keeps logic n input old before idle

-- nothing was done yet
pub runs_none : (keeps : Bool) (logic : Logic) (n : ℕ) (place : LogPlace) (input : Option (List ℕ)) (old : History) (before : Option (List ℕ)) (start : Option (List Act)) → AllIdle old.whole.entries
    → RunsOn keeps logic n place place input input 0 old old before before start start
runs_none keeps logic n place input old before start idle = record {
  lines = [];
  counted = refl;
  name = refl;
  answered = if_none keeps logic n old before idle input;
  goes = λ w first h acts is on.
      let log = silo_log logic n w place.name first in
      record {
        more = [];
        acts = is ∙ ap Some (sym (append-nil acts));
        always = settled_lasts log (silos_grow logic n w) h place.sum on.settled;
        settled = on.settled;
        lines_then = sym (append-nil (lines_in log h.file));
        leads = on.leads;
      };
}

-- it stops in the next part
pub if_stops : (keeps : Bool) (logic : Logic) (n later : ℕ) (lines : List (List ℕ)) (old mid : History) (middle left before during after : Option (List ℕ)) → later ≡ length lines → (reading : Reading) (failed : Bool)
    (why : LogFault) (input : Option (List ℕ)) → IfSome input (λ bytes. AnswersPart keeps logic n bytes lines old mid middle before during)
    → IfSome middle (λ bytes. StopsLogged logic n later bytes reading left failed mid.whole during after why) → IfSome input (λ bytes. StopsLogged logic n 0 bytes reading left failed old.whole before after why)
if_stops keeps logic n later lines old mid middle left before during after same reading failed why None a h = tt
if_stops keeps logic n later lines old mid middle left before during after same reading failed why (Some input) a h =
    stops_then keeps logic n input lines old mid middle before during a 0 later (omega (arith, same)) reading left failed after why h

gone_whole : (keeps : Bool) (mid new : History) → MayDrop keeps mid new → untold new.whole ≡ untold mid.whole
gone_whole keeps mid new gone = leaves_all keeps mid new (leaves_dropped keeps mid mid new (leaves_self keeps mid) gone)

module _ (keeps : Bool) (logic : Logic) (n : ℕ) (from to : LogPlace) (input middle : Option (List ℕ)) (count : ℕ) (old mid : History) (before during : Option (List ℕ)) (start done : Option (List Act))
    (a : RunsOn keeps logic n from to input middle count old mid before during start done) where
  -- its silo let go of its history
  pub runs_gone : (new : History) → MayDrop keeps mid new → RunsOn keeps logic n from to input middle count old new before during start done
  runs_gone new gone = record {
    lines = a.lines;
    counted = a.counted;
    name = a.name;
    answered = if_gone keeps logic n a.lines old mid new middle before during gone input a.answered;
    goes = λ w first h acts is on.
        let g = a.goes w first h acts is on in
        record {
          more = g.more;
          acts = g.acts;
          always = g.always;
          settled = g.settled;
          lines_then = g.lines_then;
          leads = gone_whole keeps mid new gone ∙ g.leads;
        };
  }

  -- where it came to, another goes on
  pub goes_here : (w : Whole) (first : ℕ) (h : Held) (acts : List Act) (is : start ≡ Some acts) (on : GoesOn logic n w first from h old.whole) → GoesOn logic n w first to (held_from h (a.goes w first h acts is on).more) mid.whole
  goes_here w first h acts is on =
      let g = a.goes w first h acts is on in
      record {
        plain = subst HasNoBreak (sym a.name) on.plain;
        settled = subst (λ (name : List ℕ). IsSettled (silo_log logic n w name first) (held_from h g.more) to.sum) (sym a.name) g.settled;
        leads = subst (λ (name : List ℕ). untold mid.whole ≡ untold (led logic n w (lines_in (silo_log logic n w name first) (held_from h g.more).file))) (sym a.name) g.leads;
      }

  -- and lasts
  pub lasts_here : (new : Option (List Act)) → ((w : Whole) (first : ℕ) (h : Held) (acts : List Act) → done ≡ Some acts → GoesOn logic n w first to h mid.whole → LastsFrom (silo_log logic n w to.name first) h acts new)
      → (w : Whole) (first : ℕ) (h : Held) (acts : List Act) → start ≡ Some acts → GoesOn logic n w first from h old.whole → LastsFrom (silo_log logic n w from.name first) h acts new
  unfolding goes_here
  lasts_here new lasts w first h acts is on =
      let g = a.goes w first h acts is on in
      let l = subst (λ (name : List ℕ). LastsFrom (silo_log logic n w name first) (held_from h g.more) (acts ++ g.more) new) a.name (lasts w first (held_from h g.more) (acts ++ g.more) g.acts (goes_here w first h acts is on)) in
      lasts_on (silo_log logic n w from.name first) h acts g.more new g.always l

  pub runs_then : (here : Bool) → here ≡ keeps → (next : LogPlace) (left : Option (List ℕ)) (others : ℕ) (new : History) (after : Option (List ℕ)) (end : Option (List Act))
      → RunsOn here logic n to next middle left others mid new during after done end → RunsOn keeps logic n from next input left (count + others) old new before after start end
  unfolding goes_here
  runs_then here is next left others new after end b = record {
    lines = a.lines ++ b.lines;
    counted = (λ i. a.counted i + b.counted i) ∙ sym (length-append a.lines b.lines);
    name = b.name ∙ a.name;
    answered = if_parts keeps here logic n a.lines b.lines old mid new middle left before during after is input a.answered b.answered;
    goes = λ w first h acts on_is on.
        let g = a.goes w first h acts on_is on in
        let log = silo_log logic n w from.name first in
        let f = subst (λ (name : List ℕ). GoesFrom logic n w name first (held_from h g.more) b.lines new.whole next.sum (acts ++ g.more) end) a.name
        (b.goes w first (held_from h g.more) (acts ++ g.more) g.acts (goes_here w first h acts on_is on)) in
        let held = held_on h g.more f.more in
        record {
          more = g.more ++ f.more;
          acts = f.acts ∙ ap Some (append_assoc acts g.more f.more);
          always = always_append (Lasts log) h g.more f.more g.always f.always;
          settled = subst (λ (x : Held). IsSettled log x next.sum) (sym held) f.settled;
          lines_then =
              ap (λ (x : Held). lines_in log x.file) held ∙ f.lines_then ∙ ap (λ (ls : List (List ℕ)). ls ++ kept_lines b.lines) g.lines_then
              ∙ append_assoc (lines_in log h.file) (kept_lines a.lines) (kept_lines b.lines) ∙ ap (λ (ls : List (List ℕ)). lines_in log h.file ++ ls) (sym (kept_append a.lines b.lines));
          leads = f.leads ∙ ap (λ (x : Held). untold (led logic n w (lines_in log x.file))) (sym held);
        };
  }
