-- A run over logs that follow one another.
use Rattle.std.proofs.Common.{◌≡◌, ◌∙◌, ℕ, ◌+◌, Bool, false, true, true≢false, IfSome, List, [], ◌∷◌, ◌++◌, length, Option, None, Some, append_assoc, append-nil, ap, arith, inl, inr, length-append, refl, subst, sym}
use Rattle.std.specs.Io.KnownBytes.{IsAtEnd}
use Rattle.silo_model.specs.Opening.{Setup, opening}
use Rattle.silo_model.specs.Segments.{untold}
use Rattle.silo_model.specs.Whole.{Whole, shown_to}
use Rattle.silo_core.specs.History.{History}
use Rattle.answer_model.specs.Idle.{AllIdle}
use Rattle.line_answer.specs.Dropped.{MayDrop}
use Rattle.log_text.specs.Head.{IsNumber, first_sum, head_text, name_of}
use Rattle.log_text.specs.Sums.{spelled}
use Rattle.log_host.specs.Acts.{Act, Held}
use Rattle.log_host.specs.Laws.{restarted}
use Rattle.log_host.specs.declared.place.LogPlace.{LogPlace}
use Rattle.log_host.proofs.Starts.{starts_settled}
use Rattle.line_text.specs.Lines.{lines_of}
use Rattle.line_text.specs.Reading.{Reading}
use Rattle.log_host.specs.Lasting.{LastsFrom}
use Rattle.log_answer.specs.Answers.{silo_log}
use Rattle.log_answer.specs.Runs.{AnswersPart, GoesFrom, GoesOn, RunsOn, StopsLogged}
use Rattle.log_answer.specs.declared.running.LogFault.{LogFault}
use Rattle.log_answer.proofs.Left.{left_self, part_ends}
use Rattle.log_answer.proofs.Parts.{if_gone, if_none, if_parts, if_stops, lasts_here, runs_gone, runs_none, runs_then}
use Rattle.silo_checkpoint.specs.Saved.{sum_in}
use Rattle.command_parts.specs.Setups.{Start, Version, started}
use Rattle.data_command.specs.Data.{HasLines, IsReplaced, IsTold, LastsOn, LogView, Stands, StandsAt, data_log, led_by, place_of, since}
use Rattle.data_command.specs.Passing.{AtLast, Passed, Passes, PassesAll, lines_passed}
use Rattle.data_command.specs.Words.{head_words}
use Rattle.data_command.specs.inside.Replacing.{IsNext, MayBeReplaced}
use Rattle.data_command.specs.inside.Starts.{IsStarted}
use Rattle.data_command.specs.declared.starting.StartedLog.{StartedLog}
use Rattle.data_command.proofs.Runs.{goes_with}
use Rattle.data_command.proofs.Starts.{plain_name, spelled_number}

-- whether what is done to a log is known, and brought to the disk
abbrev pub is_known : Bool → Option (List Act) → Bool
is_known true (Some []) = true
is_known true (Some (act ∷ acts)) = false
is_known true None = false
is_known false acts = false

pub known : (synced : Bool) (acts : Option (List Act)) → synced ≡ true → acts ≡ Some [] → is_known synced acts ≡ true
known synced acts sync fresh = (λ i. is_known (sync i) (fresh i))

pub knows_sync : (synced : Bool) (acts : Option (List Act)) → is_known synced acts ≡ true → synced ≡ true
knows_sync true acts is = refl
knows_sync false acts is = is

pub knows_acts : (synced : Bool) (acts : Option (List Act)) → is_known synced acts ≡ true → acts ≡ Some []
knows_acts true (Some []) is = refl
knows_acts true (Some (act ∷ acts)) is = absurd (true≢false (sym is))
knows_acts true None is = absurd (true≢false (sym is))
knows_acts false acts is = absurd (true≢false (sym is))

never_known : ◌≡◌ {A = Option (List Act)} None (Some []) → ⊥
never_known e = cc

-- nothing is known of a log
abbrev unknown : LogView
unknown = record { begun = None; acts = None; past = record { point = None; logs = [] }; failed = false }

-- ---- logs that were passed

passes_more : (sends : ℕ) (own : Start) (last : LogView) (passed : List Passed) (start : Start) (old : LogView) (p : Passed) → PassesAll sends start old passed own last → Passes sends own last p
    → PassesAll sends start old (passed ++ p ∷ []) p.next p.view
passes_more sends own last [] start old p all one = (subst (λ (s : Start). Passes sends s old p) all.0 (subst (λ (v : LogView). Passes sends own v p) all.1 one), (refl, refl))
passes_more sends own last (q ∷ passed) start old p all one = (all.0, passes_more sends own last passed q.next q.view p all.1 one)

lines_more : (passed : List Passed) (p : Passed) → lines_passed (passed ++ p ∷ []) ≡ lines_passed passed ++ p.lines
lines_more [] p = append-nil p.lines
lines_more (q ∷ passed) p = ap (λ (ls : List (List ℕ)). q.lines ++ ls) (lines_more passed p) ∙ sym (append_assoc q.lines (lines_passed passed) p.lines)

-- a log behind a checkpoint, without a batch
next_started : (keeps : Bool) (start : Start) (sends : ℕ) (view : LogView) (silo : History) (begun : StartedLog) (n : ℕ) → begun.number ≡ spelled n → begun.place ≡ place_of (head_words start sends) begun.number
    → (view.acts ≡ Some [] → view.begun ≡ Some (head_text (head_words start sends) begun.number)) → silo.setup ≡ start.setup → silo.whole ≡ opening start.setup → AllIdle silo.whole.entries
    → IsStarted keeps start sends (since view view) begun silo
next_started keeps start sends view silo begun n spelt is headed same there idle =
    let numbered : IsNumber begun.number = subst IsNumber (sym spelt) (spelled_number n) in
    record {
      was = record {
        found = Some (head_text (head_words start sends) begun.number ++ []);
        was = λ e. ap Some (append-nil (head_text (head_words start sends) begun.number)) ∙ sym (headed e);
        all = silo;
        has = left_self keeps silo;
        starts = record {
          number = begun.number;
          bytes = [];
          numbered = numbered;
          behind = refl;
          leads = record { setup = same; whole = there; idle = idle; own = λ tenant. ap (λ (w : Whole). shown_to tenant w) there };
        };
      };
      number = refl;
      named = ap (λ (p : LogPlace). p.name) is;
      none = λ no. refl;
      goes_on = subst (λ (p : LogPlace). GoesOn start.version.logic sends (opening start.setup) (first_sum (head_words start sends) begun.number) p (restarted (data_log start sends begun.number) []) silo.whole) (sym is) (record {
        plain = plain_name begun.number numbered;
        settled = starts_settled (data_log start sends begun.number) [] (plain_name begun.number numbered);
        leads = ap untold there;
      });
      fresh = λ e. e;
      kept = λ e. headed e ∙ ap Some (sym (append-nil (head_text (head_words start sends) begun.number)));
      past = refl;
    }

-- ---- so far

module _ (keeps : Bool) (version : Version) (setup : Setup) (sends : ℕ) (synced : Bool) (old : LogView) (first : History) (from before : Option (List ℕ)) where
  abbrev start : Start
  start = started version setup

  abbrev Known : Type 0
  Known = is_known synced old.acts ≡ true

  -- Some logs were passed, and another one was begun behind them.
  pub record LastLog : Type 0 where
    pub passed : List Passed
    pub opened : Setup
    pub words : head_words (started version opened) sends ≡ head_words start sends
    pub view : LogView
    pub mid : LogView
    pub begun : StartedLog
    pub silo : History
    pub st : IsStarted keeps (started version opened) sends (since view mid) begun silo
    pub passes : Known → PassesAll sends start old passed (started version opened) view × (view.acts ≡ Some [])
    pub there : Option (List ℕ)
    pub during : Option (List ℕ)
    pub done : IfSome from (λ input. AnswersPart keeps version.logic sends input (lines_passed passed) first silo there before during)

  -- What was answered since is in that one.
  pub record Segments (left : Option (List ℕ)) (now : History) (after : Option (List ℕ)) (count : ℕ) (number : List ℕ) (place : LogPlace) (log : LogView) : Type 0 where
    pub last : LastLog
    pub open last use *
    pub number_is : begun.number ≡ number
    pub begins : Option (List Act)
    pub same : Known → begins ≡ mid.acts
    pub standing : Known → log.begun ≡ mid.begun
    pub past : Known → log.past ≡ mid.past
    pub taken : ℕ
    pub run : RunsOn keeps version.logic sends begun.place place there left taken silo now during after begins log.acts
    pub counted : count ≡ length (lines_passed passed) + taken

  -- the log was started
  pub begins_so : (mid log : LogView) (begun : StartedLog) (st : IsStarted keeps start sends (since old mid) begun first) → AllIdle first.whole.entries
      → (Known → log.acts ≡ mid.acts) → (Known → log.begun ≡ mid.begun) → (Known → log.past ≡ mid.past) → Segments from first before 0 begun.number begun.place log
  begins_so mid log begun st idle same standing past = record {
    last = record {
      passed = [];
      opened = setup;
      words = refl;
      view = old;
      mid = mid;
      begun = begun;
      silo = first;
      st = st;
      passes = λ k. ((refl, refl), knows_acts synced old.acts k);
      there = from;
      during = before;
      done = if_none keeps version.logic sends first before idle from;
    };
    number_is = refl;
    begins = log.acts;
    same = same;
    standing = standing;
    past = past;
    taken = 0;
    run = runs_none keeps version.logic sends begun.place from first before log.acts idle;
    counted = refl;
  }

  module _ (left : Option (List ℕ)) (now : History) (after : Option (List ℕ)) (count : ℕ) (number : List ℕ) (place : LogPlace) (log : LogView) (s : Segments left now after count number place log) where
    -- more lines were answered
    pub answers_more : (here : Bool) → here ≡ keeps → (to : LogPlace) (rest : Option (List ℕ)) (more total : ℕ) (new : History) (later_out : Option (List ℕ)) (later : LogView)
        → RunsOn here version.logic sends place to left rest more now new after later_out log.acts later.acts → total ≡ count + more → later.begun ≡ log.begun → later.past ≡ log.past
        → Segments rest new later_out total number to later
    answers_more here is to rest more total new later_out later run sum begun past = record {
      last = s.last;
      number_is = s.number_is;
      begins = s.begins;
      same = s.same;
      standing = λ k. begun ∙ s.standing k;
      past = λ k. past ∙ s.past k;
      taken = s.taken + more;
      run = runs_then keeps version.logic sends s.begun.place place s.there left s.taken s.silo now s.during after s.begins log.acts s.run here is to rest more new later_out later.acts run;
      counted = omega (arith, sum, s.counted);
    }

    -- the silo let go of its history, and nothing else was done
    pub lets_go : (new : History) → MayDrop keeps now new → Segments left new after count number place log
    lets_go new gone = record {
      last = s.last;
      number_is = s.number_is;
      begins = s.begins;
      same = s.same;
      standing = s.standing;
      past = s.past;
      taken = s.taken;
      run = runs_gone keeps version.logic sends s.begun.place place s.there left s.taken s.silo now s.during after s.begins log.acts s.run new gone;
      counted = s.counted;
    }

    -- ---- what was answered

    pub whole : IfSome from (λ input. AnswersPart keeps version.logic sends input (lines_passed s.passed ++ s.run.lines) first now left before after)
    whole =
        if_parts keeps keeps version.logic sends (lines_passed s.passed) s.run.lines first s.silo now s.there left before s.during after refl from s.done s.run.answered

    all_counted : count ≡ length (lines_passed s.passed ++ s.run.lines)
    all_counted = omega (arith, s.counted, s.run.counted, length-append (lines_passed s.passed) s.run.lines)

    -- and then it stopped
    pub stops : (rest later_out : Option (List ℕ)) (reading : Reading) (failed : Bool) (why : LogFault) → IfSome left (λ bytes. StopsLogged version.logic sends count bytes reading rest failed now.whole after later_out why)
        → IfSome from (λ bytes. StopsLogged version.logic sends 0 bytes reading rest failed first.whole before later_out why)
    stops rest later_out reading failed why h =
        if_stops keeps version.logic sends count (lines_passed s.passed ++ s.run.lines) first now left rest before after later_out all_counted reading failed why from whole h

    -- ---- the last log

    abbrev own : Start
    own = started version s.opened

    abbrev digits : List ℕ
    digits = s.st.was.starts.number

    abbrev bytes : List ℕ
    bytes = s.st.was.starts.bytes

    abbrev first_of : ℕ
    first_of = first_sum (head_words own sends) digits

    module _ (k : Known) where
      -- it lasted, and the silo is where its lines lead
      pub goes : GoesFrom version.logic sends (opening s.opened) (name_of digits) first_of (restarted (data_log own sends digits) bytes) s.run.lines now.whole place.sum [] log.acts
      goes =
          subst (λ (name : List ℕ). GoesFrom version.logic sends (opening s.opened) name first_of (restarted (data_log own sends digits) bytes) s.run.lines now.whole place.sum [] log.acts) s.st.named
          (s.run.goes (opening s.opened) first_of (restarted (data_log own sends digits) bytes) [] (s.same k ∙ s.st.fresh (s.passes k).1) s.st.goes_on)

      pub stands : StandsAt own sends (since s.view log) digits bytes goes.more
      stands = record { begun = s.standing k ∙ s.st.kept (s.passes k).1; acts_are = goes.acts }

      -- whatever became of it since
      pub lasts_with : (later : LogView) → Stands own sends (since s.view later) digits bytes goes.more → LastsOn own sends (since s.view later)
      lasts_with later became = goes_with keeps own sends s.view s.mid later s.begun s.silo s.st (s.passes k).1 goes.more goes.always became

      pub has_with : (later : LogView) (became : Stands own sends (since s.view later) digits bytes goes.more) → HasLines own sends (since s.view later) s.run.lines
      unfolding lasts_with goes_with
      has_with later became =
          record { on = lasts_with later became; keeps = record { more = goes.more; acts = refl; sum = place.sum; settled = goes.settled; lines_then = goes.lines_then } }

      -- a checkpoint may take its place
      same_number : digits ≡ number
      same_number = s.st.number ∙ s.number_is

      pub may_be : (words : List ℕ) → words ≡ head_words start sends → MayBeReplaced own version sends words number (since s.view log) bytes goes.more now.whole
      may_be words worded = record {
        same = refl;
        worded = worded ∙ sym s.words;
        stands = subst (λ (n : List ℕ). StandsAt own sends (since s.view log) n bytes goes.more) same_number stands;
        past = s.past k ∙ s.st.past;
        told = subst (λ (n : List ℕ). IsTold own sends n bytes goes.more) same_number (record { sum = place.sum; settled = goes.settled });
        leads = goes.leads ∙ ap (λ (n : List ℕ). untold (led_by own sends n bytes goes.more)) same_number;
      }

      became_so : (later : LogView) → Stands own sends (since s.view later) number bytes goes.more → Stands own sends (since s.view later) digits bytes goes.more
      became_so later became = subst (λ (n : List ℕ). Stands own sends (since s.view later) n bytes goes.more) (sym same_number) became

      -- ---- what is said of the run, if this became of its last log

      pub at_last : (later : LogView) → Stands own sends (since s.view later) digits bytes goes.more → AtLast start sends (since old later) (λ lines one last. LastsOn one sends last)
      at_last later became = record { passed = s.passed; own = own; view = s.view; passes = (s.passes k).0; holds = lasts_with later became }

      -- more was done to it
      pub as_lasts : (later : LogView) → later.begun ≡ log.begun → later.past ≡ log.past
          → ((w : Whole) (sum : ℕ) (h : Held) (acts : List Act) → log.acts ≡ Some acts → GoesOn version.logic sends w sum place h now.whole → LastsFrom (silo_log version.logic sends w place.name sum) h acts later.acts)
          → AtLast start sends (since old later) (λ lines one last. LastsOn one sends last)
      as_lasts later kept past lasts =
          let h = restarted (data_log own sends digits) bytes in
          let l = subst (λ (name : List ℕ). LastsFrom (silo_log version.logic sends (opening s.opened) name first_of) h [] later.acts) s.st.named
          (lasts_here keeps version.logic sends s.begun.place place s.there left s.taken s.silo now s.during after s.begins log.acts s.run later.acts lasts (opening s.opened) first_of h [] (s.same k ∙ s.st.fresh (s.passes k).1) s.st.goes_on) in
          record {
            passed = s.passed;
            own = own;
            view = s.view;
            passes = (s.passes k).0;
            holds = goes_with keeps own sends s.view s.mid later s.begun s.silo s.st (s.passes k).1 l.more l.always
                (inl (record { begun = kept ∙ s.standing k ∙ s.st.kept (s.passes k).1; acts_are = l.acts }, past ∙ s.past k ∙ s.st.past));
          }

      has_all : (input : List ℕ) → lines_of input ≡ lines_passed s.passed ++ s.run.lines
          → AtLast start sends (since old log) (λ lines one last. (others : List (List ℕ)) × HasLines one sends last others × (lines_of input ≡ lines ++ others))
      has_all input same = record {
        passed = s.passed;
        own = own;
        view = s.view;
        passes = (s.passes k).0;
        holds = (s.run.lines, has_with log (inl (stands, s.past k ∙ s.st.past)), same);
      }

      -- the logs have all lines
      pub has_input : IsAtEnd left → IfSome from (λ input. AtLast start sends (since old log) (λ lines one last. (others : List (List ℕ)) × HasLines one sends last others × (lines_of input ≡ lines ++ others)))
      has_input end = by from whole
        where
          by : (o : Option (List ℕ)) → IfSome o (λ input. AnswersPart keeps version.logic sends input (lines_passed s.passed ++ s.run.lines) first now left before after)
              → IfSome o (λ input. AtLast start sends (since old log) (λ lines one last. (others : List (List ℕ)) × HasLines one sends last others × (lines_of input ≡ lines ++ others)))
          by None part = tt
          by (Some input) part =
              has_all input (part_ends keeps version.logic sends input (lines_passed s.passed ++ s.run.lines) first now left before after part (subst IsAtEnd part.left_is end))

      -- nothing became of it since
      pub as_it_is : AtLast start sends (since old log) (λ lines one last. LastsOn one sends last)
      as_it_is = at_last log (inl (stands, s.past k ∙ s.st.past))

      pub as_told : (words : List ℕ) → words ≡ head_words start sends → (later : LogView)
          → ((one : Start) (o : LogView) (bs : List ℕ) (acts : List Act) → MayBeReplaced one version sends words number (since o log) bs acts now.whole → Stands one sends (since o later) number bs acts)
          → AtLast start sends (since old later) (λ lines one last. LastsOn one sends last)
      as_told words worded later told = at_last later (became_so later (told own s.view bytes goes.more (may_be words worded)))

      -- it was passed
      pub passes_so : (later : LogView) (next : Start) (became : (r : IsReplaced own sends (since s.view later) digits bytes goes.more) × (next ≡ started version r.next))
          → Passes sends own s.view (record { lines = s.run.lines; next = next; view = later })
      unfolding lasts_with has_with goes_with
      passes_so later next became =
          record { on = lasts_with later (inr (inr became.0)); keeps = (has_with later (inr (inr became.0))).keeps; is = became.0; next_is = became.1 }

    -- ---- the next log

    pub goes_next : (words : List ℕ) → words ≡ head_words start sends → (later : LogView) (new : History) (next : StartedLog) (n : ℕ) → next.number ≡ spelled n → next.place ≡ place_of words next.number
        → MayDrop keeps now new → new.whole ≡ opening new.setup → AllIdle new.whole.entries → head_words (started version new.setup) sends ≡ head_words start sends
        → ((one : Start) (o : LogView) (bs : List ℕ) (acts : List Act) → MayBeReplaced one version sends words number (since o log) bs acts now.whole
        → IsNext one sends (since o later) number bs acts new.setup next)
        → Segments left new after count next.number next.place later
    goes_next words worded later new next n spelt placed gone opens idle same_words next_is = by (is_known synced old.acts) refl
      where
        then_own : Start
        then_own = started version new.setup

        placed_so : next.place ≡ place_of (head_words then_own sends) next.number
        placed_so = placed ∙ ap (λ (ws : List ℕ). place_of ws next.number) (worded ∙ sym same_words)

        passed_on : LogView → Passed
        passed_on view = record { lines = s.run.lines; next = then_own; view = view }

        -- the next log was begun, and this was known of it then
        next_at : (view : LogView) → (view.acts ≡ Some [] → view.begun ≡ Some (head_text (head_words then_own sends) next.number))
            → (Known → PassesAll sends start old (s.passed ++ passed_on view ∷ []) then_own view × (view.acts ≡ Some [])) → (Known → later ≡ view)
            → Segments left new after count next.number next.place later
        next_at view headed passes is = record {
          last = record {
            passed = s.passed ++ passed_on view ∷ [];
            opened = new.setup;
            words = same_words;
            view = view;
            mid = view;
            begun = next;
            silo = new;
            st = next_started keeps then_own sends view new next n spelt placed_so headed refl opens idle;
            passes = passes;
            there = left;
            during = after;
            done = subst (λ (ls : List (List ℕ)). IfSome from (λ input. AnswersPart keeps version.logic sends input ls first new left before after)) (sym (lines_more s.passed (passed_on view)))
                (if_parts keeps keeps version.logic sends (lines_passed s.passed) s.run.lines first s.silo new s.there left before s.during after refl from s.done
                (if_gone keeps version.logic sends s.run.lines s.silo now new left s.during after gone s.there s.run.answered));
          };
          number_is = refl;
          begins = later.acts;
          same = λ k. ap (λ (v : LogView). v.acts) (is k);
          standing = λ k. ap (λ (v : LogView). v.begun) (is k);
          past = λ k. ap (λ (v : LogView). v.past) (is k);
          taken = 0;
          run = runs_none keeps version.logic sends next.place left new after later.acts idle;
          counted = omega (arith, s.counted, s.run.counted, ap length (lines_more s.passed (passed_on view)), length-append (lines_passed s.passed) s.run.lines);
        }

        by : (k : Bool) → is_known synced old.acts ≡ k → Segments left new after count next.number next.place later
        by true k =
            let g = goes k in
            let nx = next_is own s.view bytes g.more (may_be k words worded) in
            let became : (r : IsReplaced own sends (since s.view later) digits bytes g.more) × (r.next ≡ new.setup) × (next.number ≡ spelled (sum_in r.point)) =
            subst (λ (m : List ℕ). (r : IsReplaced own sends (since s.view later) m bytes g.more) × (r.next ≡ new.setup) × (next.number ≡ spelled (sum_in r.point))) (sym (s.st.number ∙ s.number_is)) (nx.is, nx.setup, nx.number_is) in
            let headed : later.begun ≡ Some (head_text (head_words then_own sends) next.number) =
            became.0.at.1 ∙ (λ i. Some (head_text ((s.words ∙ sym same_words) i) ((sym became.2) i))) in
            let one : Passes sends own s.view (passed_on later) = passes_so k later then_own (became.0, ap (started version) (sym became.1)) in
            next_at later (λ e. headed) (λ j. (passes_more sends own s.view s.passed start old (passed_on later) (s.passes j).0 one, became.0.at.0)) (λ j. refl)
        by false k =
            let never : Known → ⊥ = λ j. true≢false (sym j ∙ k) in
            next_at unknown (λ e. absurd (never_known e)) (λ j. absurd (never j)) (λ j. absurd (never j))
