-- A silo that let its history go is led as if it had kept all, and tells the same.
use Rattle.std.proofs.Common.{◌≡◌, ◌∙◌, ℕ, Bool, true, false, List, [], ◌∷◌, ◌++◌, OnOk, Option, Some, Result, Ok, Err, append_assoc, append-nil, length, refl, ap, sym, subst, inl, inr, ⊎_elim}
use Rattle.silo_event.specs.declared.reply.Reply.{Reply}
use Rattle.silo_event.specs.declared.step.Step.{Step}
use Rattle.grain_logic.specs.Logic.{Logic}
use Rattle.silo_model.specs.Opening.{Setup}
use Rattle.silo_model.specs.Segments.{told_before, untold}
use Rattle.silo_model.specs.Whole.{Whole, shown_to}
use Rattle.silo_core.specs.History.{History}
use Rattle.std.specs.Io.KnownBytes.{Appends, IsAtEnd}
use Rattle.line_text.specs.Lines.{lines_of}
use Rattle.line_text.specs.Writing.{WrittenInPart}
use Rattle.line_text.specs.LineTexts.{joined}
use Rattle.line_text.specs.Reading.{Reading}
use Rattle.answer_model.specs.Answering.{Stepper, all_answered, whole_stepper}
use Rattle.answer_model.proofs.Apart.{tenants_apart}
use Rattle.answer_model.proofs.Reached.{IsReached, run_reached}
use Rattle.answer_model.proofs.Untold.{all_told}
use Rattle.line_answer.specs.Dropped.{Leaves, MayDrop}
use Rattle.line_answer.specs.Texts.{Heard, all_steps, asks_by, asks_of, line_text, line_texts}
use Rattle.line_answer.proofs.Asked.{run_all}
use Rattle.line_answer.proofs.Dropped.{leaves_dropped, leaves_self, text_told}
use Rattle.log_text.specs.Batches.{line_text as line_bytes}
use Rattle.log_answer.specs.Answers.{HasLeft, IsLed, LeadsLines, LeadsOn, SameTables, heard_of, led, told_for}
use Rattle.log_answer.specs.Laws.{LeftIsAll, TellsAsEver}
use Rattle.log_answer.specs.Runs.{AnswersLogged, AnswersPart, AreLines, StopsLogged, TellsFirst}
use Rattle.log_answer.specs.inside.Gathering.{Gathers, GathersOn}
use Rattle.log_answer.specs.declared.running.LogFault.{LogFault}
use Rattle.log_answer.specs.declared.running.LogFault.TheVariants as fault

-- ---- nothing hangs on the replies before

module _ (logic : Logic) (n : ℕ) where
  abbrev by : Stepper Whole
  by = whole_stepper logic

  module _ (rs : List Reply) where
    pub led_told : (w : Whole) (lines : List (List ℕ)) → led logic n (told_before rs w) lines ≡ told_before rs (led logic n w lines)
    led_told w lines = all_told logic rs n (asks_of (heard_of lines)) w

    texts_told : (heard : List Heard) (w : Whole) → line_texts by n (told_before rs w) heard ≡ line_texts by n w heard
    texts_told [] w = refl
    texts_told (h ∷ heard) w =
        let asks = asks_by h.said h.lucks in
        ap (λ (t : List ℕ). t ∷ line_texts by n (all_answered by n (told_before rs w) asks) heard) (text_told logic n rs w h.said h.lucks)
        ∙ ap (λ (v : Whole). line_text by n w h.said h.lucks ∷ line_texts by n v heard) (all_told logic rs n asks w)
        ∙ ap (λ (ts : List (List ℕ)). line_text by n w h.said h.lucks ∷ ts) (texts_told heard (all_answered by n w asks))

    pub same_told : (w : Whole) (lines : List (List ℕ)) → told_for logic n (told_before rs w) lines ≡ told_for logic n w lines
    same_told w lines = ap joined (texts_told (heard_of lines) w)

  -- ---- two that are the same but for their replies

  with_replies : (w : Whole) → told_before w.replies (untold w) ≡ w
  with_replies w = ap (λ (rs : List Reply). record w { replies = rs }) (append-nil w.replies)

  led_bare : (w : Whole) (lines : List (List ℕ)) → untold (led logic n w lines) ≡ untold (led logic n (untold w) lines)
  led_bare w lines =
      ap (λ (v : Whole). untold (led logic n v lines)) (sym (with_replies w)) ∙ ap untold (led_told w.replies (untold w) lines)

  told_bare : (w : Whole) (lines : List (List ℕ)) → told_for logic n w lines ≡ told_for logic n (untold w) lines
  told_bare w lines =
      ap (λ (v : Whole). told_for logic n v lines) (sym (with_replies w)) ∙ same_told w.replies (untold w) lines

  pub led_alike : (w x : Whole) (lines : List (List ℕ)) → untold w ≡ untold x → untold (led logic n w lines) ≡ untold (led logic n x lines)
  led_alike w x lines same =
      led_bare w lines ∙ ap (λ (v : Whole). untold (led logic n v lines)) same ∙ sym (led_bare x lines)

  pub told_alike : (w x : Whole) (lines : List (List ℕ)) → untold w ≡ untold x → told_for logic n w lines ≡ told_for logic n x lines
  told_alike w x lines same =
      told_bare w lines ∙ ap (λ (v : Whole). told_for logic n v lines) same ∙ sym (told_bare x lines)

pub tells_as_ever : TellsAsEver
tells_as_ever logic n w replies lines = (led_told logic n replies w lines, same_told logic n replies w lines)

-- ---- what is left

pub leaves_all : (keeps : Bool) (all new : History) → Leaves keeps all new → untold new.whole ≡ untold all.whole
leaves_all true all new same = ap (λ (h : History). untold h.whole) same
leaves_all false all new p = sym (ap untold p.whole)

pub left_is_all : LeftIsAll
left_is_all keeps all new p = leaves_all keeps all new p.leaves

same_tables : (setup : Setup) → SameTables setup setup
same_tables setup = record { tenants = refl; age = refl; ages = refl }

pub tables_on : (a b c d : Setup) → SameTables a b → c ≡ b → SameTables c d → SameTables a d
tables_on a b c d p is q = record {
  tenants = q.tenants ∙ ap (λ (s : Setup). s.tenants) is ∙ p.tenants;
  age = q.age ∙ ap (λ (s : Setup). s.age) is ∙ p.age;
  ages = q.ages ∙ ap (λ (s : Setup). s.ages) is ∙ p.ages;
}

pub left_self : (keeps : Bool) (h : History) → HasLeft keeps h h
left_self keeps h = record { leaves = leaves_self keeps h; tables = same_tables h.setup }

pub gone_tables : (keeps : Bool) (old new : History) → MayDrop keeps old new → SameTables old.setup new.setup
gone_tables true old new same = subst (λ (h : History). SameTables old.setup h.setup) (sym same) (same_tables old.setup)
gone_tables false old new (inl same) = subst (λ (h : History). SameTables old.setup h.setup) (sym same) (same_tables old.setup)
gone_tables false old new (inr r) = record {
  tenants = ap (λ (s : Setup). s.tenants) r.setup;
  age = ap (λ (s : Setup). s.age) r.setup;
  ages = ap (λ (s : Setup). s.ages) r.setup;
}

-- of a line that was answered, behind which the history may have been let go
pub leads_gone : (keeps : Bool) (logic : Logic) (n : ℕ) (old mid new : History) (lines : List (List ℕ)) (text : List ℕ)
    → LeadsLines logic n old lines mid text → MayDrop keeps mid new → LeadsOn keeps logic n old lines new text
leads_gone keeps logic n old mid new lines text leads gone = record {
  all = mid;
  left = record { leaves = leaves_dropped keeps mid mid new (leaves_self keeps mid) gone; tables = gone_tables keeps mid new gone };
  leads = leads;
}

-- and which is kept and told later
pub gathered : (keeps : Bool) (logic : Logic) (n : ℕ) (old new : History) (line text asked asked_then texts texts_then : List ℕ) → LeadsOn keeps logic n old (line ∷ []) new text
    → asked_then ≡ asked ++ line_bytes line → texts_then ≡ texts ++ text → GathersOn keeps logic n old line new asked asked_then texts texts_then
gathered keeps logic n old new line text asked asked_then texts texts_then l asked_is texts_are = record {
  all = l.all;
  left = l.left;
  gathers = record {
    leads = record { setup = l.leads.setup; whole = l.leads.whole; idle = l.leads.idle; text_is = refl };
    asked_is = asked_is;
    text_is = texts_are ∙ ap (λ (t : List ℕ). texts ++ t) l.leads.text_is;
  };
}

-- the same, if it was added
pub gathered_if : {T E : Type 0} (r : Result T E) (keeps : Bool) (logic : Logic) (n : ℕ) (old new : History) (found line shown text asked asked_then texts texts_then : List ℕ) → found ≡ line
    → shown ≡ text → LeadsOn keeps logic n old (found ∷ []) new text → OnOk r (asked_then ≡ asked ++ line_bytes found) → OnOk r (texts_then ≡ texts ++ shown)
    → OnOk r (GathersOn keeps logic n old line new asked asked_then texts texts_then)
gathered_if (Ok x) keeps logic n old new found line shown text asked asked_then texts texts_then same is l asked_is texts_are =
    gathered keeps logic n old new line text asked asked_then texts texts_then (subst (λ (f : List ℕ). LeadsOn keeps logic n old (f ∷ []) new text) same l)
    (asked_is ∙ ap (λ (f : List ℕ). asked ++ line_bytes f) same) (texts_are ∙ ap (λ (t : List ℕ). texts ++ t) is)
gathered_if (Err e) keeps logic n old new found line shown text asked asked_then texts texts_then same is l asked_is texts_are = tt

-- ---- what is left is led as all would be

-- the history that would be, had all been kept, where what is left is led to another
abbrev led_on : (keeps : Bool) (all left more : History) → Leaves keeps all left → History
led_on true all left more same = more
led_on false all left more p = record {
  setup = all.setup;
  whole = told_before p.told more.whole;
  journal = p.before ++ more.journal;
  failures = record { at_opening = all.failures.at_opening; now = more.failures.now };
}

leaves_on : (keeps : Bool) (all left more new : History) (p : Leaves keeps all left) → Leaves keeps more new → Leaves keeps (led_on keeps all left more p) new
leaves_on true all left more new same q = q
leaves_on false all left more new p q = record {
  before = p.before ++ q.before;
  told = p.told ++ q.told;
  journal = ap (λ (steps : List Step). p.before ++ steps) q.journal ∙ sym (append_assoc p.before q.before new.journal);
  whole =
      ap (told_before p.told) q.whole
      ∙ ap (λ (rs : List Reply). record new.whole { replies = rs }) (sym (append_assoc p.told q.told new.whole.replies));
  failures = q.failures;
}

setup_on : (keeps : Bool) (all left more : History) (p : Leaves keeps all left) → more.setup ≡ left.setup → (led_on keeps all left more p).setup ≡ all.setup
setup_on true all left more same is = is ∙ ap (λ (h : History). h.setup) same
setup_on false all left more p is = refl

module _ (logic : Logic) (n : ℕ) where
  lines_on : (keeps : Bool) (all left more : History) (lines : List (List ℕ)) (text : List ℕ) (p : Leaves keeps all left) → LeadsLines logic n left lines more text
      → LeadsLines logic n all lines (led_on keeps all left more p) text
  lines_on true all left more lines text same l = subst (λ (h : History). LeadsLines logic n h lines more text) same l
  lines_on false all left more lines text p l = record {
    setup = refl;
    whole =
        ap (told_before p.told) l.whole ∙ sym (led_told logic n p.told left.whole lines)
        ∙ ap (λ (v : Whole). led logic n v lines) (sym p.whole);
    idle = l.idle;
    text_is =
        l.text_is ∙ sym (same_told logic n p.told left.whole lines) ∙ ap (λ (v : Whole). told_for logic n v lines) (sym p.whole);
  }

  module _ (keeps : Bool) (all left new : History) (p : HasLeft keeps all left) where
    left_on : (more : History) → more.setup ≡ left.setup → HasLeft keeps more new → HasLeft keeps (led_on keeps all left more p.leaves) new
    left_on more same q = record {
      leaves = leaves_on keeps all left more new p.leaves q.leaves;
      tables = subst (λ (s : Setup). SameTables s new.setup) (sym (setup_on keeps all left more p.leaves same))
          (tables_on all.setup left.setup more.setup new.setup p.tables same q.tables);
    }

    pub leads_on : (lines : List (List ℕ)) (text : List ℕ) → LeadsOn keeps logic n left lines new text
        → (more : History) × LeadsLines logic n all lines more text × HasLeft keeps more new
    leads_on lines text l = (
      led_on keeps all left l.all p.leaves,
      lines_on keeps all left l.all lines text p.leaves l.leads,
      left_on l.all l.leads.setup l.left,
    )

    pub gathers_on : (line asked asked_then text text_then : List ℕ) → GathersOn keeps logic n left line new asked asked_then text text_then
        → (more : History) × Gathers logic n all line more asked asked_then text text_then × HasLeft keeps more new
    gathers_on line asked asked_then text text_then g =
        let more = led_on keeps all left g.all p.leaves in
        let l = lines_on keeps all left g.all (line ∷ []) (told_for logic n left.whole (line ∷ [])) p.leaves g.gathers.leads in (
          more,
          record {
            leads = record { setup = l.setup; whole = l.whole; idle = l.idle; text_is = refl };
            asked_is = g.gathers.asked_is;
            text_is = g.gathers.text_is ∙ ap (λ (t : List ℕ). text ++ t) l.text_is;
          },
          left_on g.all g.gathers.leads.setup g.left,
        )

-- ---- the end of an input

pub part_ends : (keeps : Bool) (logic : Logic) (n : ℕ) (input : List ℕ) (lines : List (List ℕ)) (old new : History) (rest before after : Option (List ℕ))
    (part : AnswersPart keeps logic n input lines old new rest before after) → part.rest ≡ [] → lines_of input ≡ lines
part_ends keeps logic n input lines old new rest before after part none =
    let whole : input ≡ part.taken ++ [] = part.parts ∙ ap (λ (k : List ℕ). part.taken ++ k) none in
    ⊎_elim (λ (a : AreLines part.taken lines). ap lines_of whole ∙ a.all [] ∙ append-nil lines)
    (λ last. ap lines_of (whole ∙ append-nil part.taken) ∙ sym last.0) part.are

-- ---- and so it is of all that would be, from where all would be

module _ (logic : Logic) (n : ℕ) where
  pub led_reached : (setup : Setup) (w : Whole) (lines : List (List ℕ)) → IsReached logic setup w → IsReached logic setup (led logic n w lines)
  led_reached setup w lines reached =
      let asks = asks_of (heard_of lines) in
      subst (IsReached logic setup) (run_all (whole_stepper logic) n w asks) (run_reached logic setup (all_steps (whole_stepper logic) n w asks) w reached)

  module _ (keeps here : Bool) (setup : Setup) (all left new : History) (reached : IsReached logic setup all.whole) (is : here ≡ keeps) (p : HasLeft keeps all left) where
    pub logged_on : (input : List ℕ) (lines : List (List ℕ)) (rest before after : Option (List ℕ)) → AnswersPart here logic n input lines left new rest before after → IsAtEnd rest
        → (more : History) × AnswersLogged logic n input (length lines) all more rest before after
    logged_on input lines rest before after part end =
        let none : part.rest ≡ [] = subst IsAtEnd part.left_is end in
        let same = part_ends here logic n input lines left new rest before after part none in
        let leads = leads_on logic n keeps all left new p lines part.text (subst (λ (b : Bool). LeadsOn b logic n left lines new part.text) is part.leads) in
        let l = leads.1 in (
          leads.0,
          record {
            read = part.left_is ∙ ap Some none;
            counted = ap length (sym same);
            leads = subst (λ (ls : List (List ℕ)). IsLed logic n all ls leads.0) (sym same) (record {
              setup = l.setup;
              whole = l.whole;
              idle = l.idle;
              own = λ tenant.
                  ap (shown_to tenant) l.whole ∙ tenants_apart logic setup reached.0 all.whole n tenant (asks_of (heard_of lines)) reached.1;
            });
            written = subst (Appends before after) (l.text_is ∙ ap (told_for logic n all.whole) (sym same)) part.written;
          },
        )

  module _ (w x : Whole) (same : untold w ≡ untold x) where
    tells_alike : (lines : List (List ℕ)) (before after : Option (List ℕ)) → TellsFirst logic n lines w before after → TellsFirst logic n lines x before after
    tells_alike lines before after p = record {
      told = p.told;
      batch = p.batch;
      others = p.others;
      parts = p.parts;
      during = p.during;
      whole = subst (Appends before p.during) (told_alike logic n w x p.told same) p.whole;
      part = subst (WrittenInPart p.during after)
          (told_alike logic n (led logic n w p.told) (led logic n x p.told) p.batch (led_alike logic n w x p.told same)) p.part;
    }

    pub stops_alike : (already : ℕ) (input : List ℕ) (reading : Reading) (left : Option (List ℕ)) (failed : Bool) (before after : Option (List ℕ)) (why : LogFault)
        → StopsLogged logic n already input reading left failed w before after why → StopsLogged logic n already input reading left failed x before after why
    unfolding tells_alike
    stops_alike already input reading left failed before after fault.Read s = (tells_alike (lines_of input) before after s.0, s.1, s.2, s.3)
    stops_alike already input reading left failed before after fault.TooMuch s = (tells_alike (lines_of input) before after s.0, s.1, s.2)
    stops_alike already input reading left failed before after fault.Memory s = (tells_alike (lines_of input) before after s.0, s.1)
    stops_alike already input reading left failed before after fault.Write s = (tells_alike (lines_of input) before after s.0, s.1)
