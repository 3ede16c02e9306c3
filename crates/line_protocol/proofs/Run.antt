-- One line more of a run.
use Rattle.std.proofs.Common.{◌≡◌, ◌≢◌, ℕ, ◌+◌, List, [], ◌∷◌, ◌++◌, length, Option, Some, None, IfSome, refl, sym, ap, ap₂, ◌∙◌, subst, inl, inr, arith, append_assoc, append-nil, length-append, ⊎_elim}
use Rattle.std.specs.Io.KnownBytes.{Appends, Keeps, IsAtEnd}
use Rattle.std.proofs.KnownBytes.{Appends-trans, Appends-kept, Appends-nil}
use Rattle.silo_event.specs.declared.step.Answer.{Answer}
use Rattle.silo_event.specs.declared.step.Step.{Step}
use Rattle.grain_logic.specs.Logic.{Logic}
use Rattle.silo_model.specs.Journal.{LeadsTo}
use Rattle.silo_model.specs.Whole.{Whole, whole_step}
use Rattle.silo_model.specs.Run.{run_by, whole_run}
use Rattle.silo_core.specs.History.{History}
use Rattle.silo_core.specs.Runs.{Takes}
use Rattle.silo_core.proofs.Runs.{taken_none, taken_one, taken_on}
use Rattle.line_text.specs.Calls.{HasCause, HasNothingAhead}
use Rattle.line_text.specs.Limits.{lines_limit}
use Rattle.line_text.specs.Lines.{lines_of}
use Rattle.line_parser.specs.Meaning.{meaning_of}
use Rattle.line_text.specs.LineTexts.{whole_stepper, said_lines, steps_said, as_taken, lines_text}
use Rattle.line_protocol.specs.LineRuns.{AnswersLine, AnswersSaid, AnswersLines, AnswersNext, AnswersAll, StopsBefore, StopsAt, StopsAfter, StopsBy, MayTake, LineStopsBy}
use Rattle.line_text.specs.Writing.{WrittenInPart}
use Rattle.line_text.specs.Reading.{Reading, IsFresh, left_of, LinesTaken, TakesLine, TakesPart, AreTakenButOne}
use Rattle.line_text.specs.declared.written.WriterCalls.{WriterCalls}
use Rattle.line_text.specs.declared.fault.LineFault.{LineFault}
use Rattle.line_text.specs.declared.fault.LineFault.TheVariants as fault
use Rattle.line_parser.specs.declared.line.Line.{Line}
use Rattle.line_parser.specs.declared.line.Line.TheVariants as line
use Rattle.line_text.proofs.Saids.{said_lines-more, steps_said-more, as_taken-append, steps_said-taken, lines_text-append}
use Rattle.line_protocol.proofs.OwnLines.{lines_own}
use Rattle.line_text.proofs.LinesOfBytes.{LinesTaken-trans, LinesTaken-kept}
use Rattle.line_text.proofs.ReadLines.{all_taken_here, lines_ahead}
use Rattle.line_text.proofs.TakenLines.{Took, Took-kept, Took-more, TakesLine-lines, taken_here, none_beyond, one_beyond}

-- ---- one line more

said_none : (logic : Logic) (old : History) → AnswersSaid logic old [] [] old []
said_none logic old = record { silo = taken_none logic old; text_is = refl }

-- what was said before, and one line more, with the answers to it
pub record AnswersMore (logic : Logic) (old : History) (saids : List Line) (said : Line) (given : List Answer) (new : History) (text last : List ℕ) : Type 0 where
  pub more : List Answer
  pub all : AnswersSaid logic old (saids ++ said ∷ []) (given ++ more) new (text ++ last)

module _ (logic : Logic) (old mid : History) (saids : List Line) (given : List Answer) (text : List ℕ) (p : AnswersSaid logic old saids given mid text) where
  reached : run_by (whole_step logic) old.whole (steps_said (as_taken saids given)) ≡ mid.whole
  reached = ap (whole_run logic old.whole) (steps_said-taken saids given p.silo.each_answered) ∙ sym p.silo.whole

  text_more : (said : Line) (more : List Answer) (last : List ℕ) → last ≡ lines_text (whole_stepper logic) mid.whole (as_taken (said ∷ []) more)
      → text ++ last ≡ lines_text (whole_stepper logic) old.whole (as_taken (saids ++ said ∷ []) (given ++ more))
  text_more said more last e =
      ap₂ (λ (t u : List ℕ). t ++ u) p.text_is (e ∙ ap (λ (w : Whole). lines_text (whole_stepper logic) w (as_taken (said ∷ []) more)) (sym reached))
      ∙ sym (lines_text-append (whole_stepper logic) old.whole (as_taken saids given) (as_taken (said ∷ []) more))
      ∙ ap (lines_text (whole_stepper logic) old.whole) (sym (as_taken-append saids (said ∷ []) given more p.silo.each_answered))

  -- a line that says no step
  takes_no_step : (said : Line) (new : History) → steps_said (said ∷ []) ≡ [] → new ≡ mid → Takes logic old (steps_said (saids ++ said ∷ [])) (given ++ []) new
  takes_no_step said new none same =
      let steps : steps_said (saids ++ said ∷ []) ≡ steps_said saids = steps_said-more saids said ∙ ap (λ (ss : List Step). steps_said saids ++ ss) (sym (append-nil _) ∙ none) ∙ append-nil (steps_said saids) in
      subst (λ (ss : List Step). Takes logic old ss (given ++ []) new) (sym steps)
      (subst (λ (as' : List Answer). Takes logic old (steps_said saids) as' new) (sym (append-nil given))
      (subst (λ (h : History). Takes logic old (steps_said saids) given h) (sym same) p.silo))

  pub one_more : (said : Line) (new : History) (last : List ℕ) → AnswersLine logic mid said new last → AnswersMore logic old saids said given new text last
  one_more line.Nothing new last h = record {
    more = [];
    all = record { silo = takes_no_step line.Nothing new refl h.0; text_is = text_more line.Nothing [] last h.1 };
  }
  one_more (line.Refusal r) new last h = record {
    more = [];
    all = record { silo = takes_no_step (line.Refusal r) new refl h.0; text_is = text_more (line.Refusal r) [] last (h.1 ∙ sym (append-nil _)) };
  }
  one_more (line.Step s) new last h = record {
    more = h.0 ∷ [];
    all = record {
      silo = subst (λ (ss : List Step). Takes logic old ss (given ++ h.0 ∷ []) new) (sym (steps_said-more saids (line.Step s))) (taken_on logic old mid new (steps_said saids) given (s ∷ []) (h.0 ∷ []) p.silo (taken_one logic mid new s h.0 h.1));
      text_is = text_more (line.Step s) (h.0 ∷ []) last (h.2 ∙ sym (append-nil _));
    };
  }

-- ---- a run, so far: these lines were taken, answered and written

pub record LinesDone (logic : Logic) (count : ℕ) (from left : Option (List ℕ)) (old new : History) (before after : Option (List ℕ)) : Type 0 where
  pub leads : LeadsTo logic old.setup old.journal old.whole
  pub done : List (List ℕ)
  pub counted : length done ≡ count
  pub taken : LinesTaken from left done
  pub took : Took from left done
  pub given : List Answer
  pub text : List ℕ
  pub answers : AnswersSaid logic old (said_lines done) given new text
  pub written : Appends before after text

pub LinesDone-none : (logic : Logic) (from left : Option (List ℕ)) (old : History) (before : Option (List ℕ)) → LeadsTo logic old.setup old.journal old.whole → LinesTaken from left [] → Took from left [] → LinesDone logic 0 from left old old before before
LinesDone-none logic from left old before leads h t = record {
  leads = leads;
  done = [];
  counted = refl;
  taken = h;
  took = t;
  given = [];
  text = [];
  answers = said_none logic old;
  written = Appends-nil before;
}

-- the lines before, and one more
line_more : (logic : Logic) (old mid new : History) (done : List (List ℕ)) (l : List ℕ) (given : List Answer) (text last : List ℕ) → AnswersSaid logic old (said_lines done) given mid text → AnswersLine logic mid (meaning_of l) new last
    → (more : List Answer) × AnswersSaid logic old (said_lines (done ++ l ∷ [])) (given ++ more) new (text ++ last)
line_more logic old mid new done l given text last p h =
    let next = one_more logic old mid (said_lines done) given text p (meaning_of l) new last h in
    (next.more, subst (λ (saids : List Line). AnswersSaid logic old saids (given ++ next.more) new (text ++ last)) (sym (said_lines-more done l)) next.all)

pub LinesDone-more : (logic : Logic) (count : ℕ) (from left next : Option (List ℕ)) (old mid new : History) (before during after : Option (List ℕ)) (l : List ℕ) (said : Line) (last : List ℕ)
    → LinesDone logic count from left old mid before during → TakesLine left next l → said ≡ meaning_of l
    → AnswersLine logic mid said new last → Appends during after last
    → LinesDone logic (count + 1) from next old new before after
LinesDone-more logic count from left next old mid new before during after l said last p took e answers wrote =
    let all = line_more logic old mid new p.done l p.given p.text last p.answers (subst (λ (s : Line). AnswersLine logic mid s new last) e answers) in
    record {
      leads = p.leads;
      done = p.done ++ l ∷ [];
      counted = omega (arith, p.counted, length-append p.done (l ∷ []));
      taken = LinesTaken-trans from left next p.done (l ∷ []) p.taken (TakesLine-lines left next l took);
      took = Took-more from left next p.done l p.took took;
      given = p.given ++ all.0;
      text = p.text ++ last;
      answers = all.1;
      written = Appends-trans before during after _ _ p.written wrote;
    }

-- the same is left to read
pub LinesDone-kept : (logic : Logic) (count : ℕ) (from left next : Option (List ℕ)) (old new : History) (before after : Option (List ℕ)) → LinesDone logic count from left old new before after → Keeps left next → LinesDone logic count from next old new before after
LinesDone-kept logic count from left next old new before after p h =
    record { leads = p.leads; done = p.done; counted = p.counted; taken = LinesTaken-kept from left next p.done p.taken h; took = Took-kept from left next p.done p.took h; given = p.given; text = p.text; answers = p.answers; written = p.written }

-- what was written went out
pub LinesDone-flushed : (logic : Logic) (count : ℕ) (from left : Option (List ℕ)) (old new : History) (before during after : Option (List ℕ)) → LinesDone logic count from left old new before during → Keeps during after
    → LinesDone logic count from left old new before after
LinesDone-flushed logic count from left old new before during after p h =
    record { leads = p.leads; done = p.done; counted = p.counted; taken = p.taken; took = p.took; given = p.given; text = p.text; answers = p.answers; written = Appends-kept before during after _ p.written h }

-- what was taken and answered, for all and for each tenant
lines_answered : (logic : Logic) (count : ℕ) (from left : Option (List ℕ)) (old new : History) (before after : Option (List ℕ)) (p : LinesDone logic count from left old new before after) → AnswersLines logic old p.done p.given new p.text
lines_answered logic count from left old new before after p = lines_own logic old new p.done p.given p.text p.leads p.answers

-- ---- the end of the input

pub LinesDone-all : (logic : Logic) (count n : ℕ) (from : Option (List ℕ)) (reading : Reading) (rest : Option (List ℕ)) (old new : History) (before after : Option (List ℕ))
    → n ≡ count → IsFresh reading → IsAtEnd rest
    → LinesDone logic count from (left_of reading rest) old new before after → IfSome from (λ input. AnswersAll logic input n old new rest before after)
LinesDone-all logic count n None reading rest old new before after same none end p = tt
LinesDone-all logic count n (Some input) reading rest old new before after same none end p =
    let whole = all_taken_here input reading rest p.done none end p.taken in record {
      read = whole.0;
      count = same ∙ sym p.counted ∙ ap length (sym whole.1);
      given = p.given;
      text = p.text;
      answers = subst (λ ls. AnswersLines logic old ls p.given new p.text) (sym whole.1) (lines_answered logic count (Some input) (left_of reading rest) old new before after p);
      written = p.written;
    }

-- ---- a fault

stops_before : (logic : Logic) (count : ℕ) (input bytes : List ℕ) (old new : History) (before after : Option (List ℕ)) → LinesDone logic count (Some input) (Some bytes) old new before after → StopsBefore logic (lines_of input) old new before after
stops_before logic count input bytes old new before after p = record {
  done = p.done;
  rest = lines_of bytes;
  parts = p.taken;
  given = p.given;
  text = p.text;
  answers = lines_answered logic count (Some input) (Some bytes) old new before after p;
  written = p.written;
}

stops_at : (logic : Logic) (count : ℕ) (input bytes : List ℕ) (old new : History) (before after : Option (List ℕ)) → LinesDone logic count (Some input) (Some bytes) old new before after → StopsAt logic (lines_of input) old new before after
stops_at logic count input bytes old new before after p = record {
  done = p.done;
  rest = lines_of bytes;
  parts = p.taken;
  given = p.given;
  text = p.text;
  mid = new;
  answers = lines_answered logic count (Some input) (Some bytes) old new before after p;
  next = inl refl;
  written = p.written;
}

-- for a reason beside it
for_reason : (from : Option (List ℕ)) (P Q : List ℕ → Type 0) → ((input : List ℕ) → P input → Q input) → IfSome from P → IfSome from Q
for_reason None P Q f h = tt
for_reason (Some input) P Q f h = f input h

-- the writer failed before a read
stops_flushing : (logic : Logic) (count : ℕ) (from left : Option (List ℕ)) (old new : History) (before after : Option (List ℕ)) → LinesDone logic count from left old new before after
    → IfSome from (λ input. StopsAfter logic (lines_of input) old new before after)
stops_flushing logic count None left old new before after p = tt
stops_flushing logic count (Some input) None old new before after p = absurd p.taken
stops_flushing logic count (Some input) (Some bytes) old new before after p =
    let answered = lines_answered logic count (Some input) (Some bytes) old new before after p in record {
      done = p.done;
      last = [];
      rest = lines_of bytes;
      at_most_one = omega arith;
      parts = p.taken ∙ ap (λ ls. ls ++ lines_of bytes) (sym (append-nil p.done));
      given = p.given;
      more = [];
      text = p.text;
      last_text = [];
      mid = new;
      before_it = answered;
      answers = subst (λ (ls : List (List ℕ)). AnswersLines logic old ls (p.given ++ []) new (p.text ++ [])) (sym (append-nil p.done))
          (subst (λ (as' : List Answer). AnswersLines logic old p.done as' new (p.text ++ [])) (sym (append-nil p.given))
          (subst (λ (t : List ℕ). AnswersLines logic old p.done p.given new t) (sym (append-nil p.text)) answered));
      during = after;
      written = p.written;
      part = record { front = []; back = []; parts = refl; written = Appends-nil after };
    }

-- while the next line is read, or memory is refused before
pub stops_reading : (logic : Logic) (e : LineFault) (reading : Reading) (rest : Option (List ℕ)) (writing : WriterCalls) (count : ℕ) (from left : Option (List ℕ)) (old new : History) (before after : Option (List ℕ))
    → HasCause e reading.calls writing → HasNothingAhead e reading.ahead → TakesPart left (left_of reading rest) → LinesDone logic count from left old new before after
    → IfSome from (λ input. StopsBy logic input reading rest writing old new before after e)
unfolding stops_before stops_at
stops_reading logic e reading rest writing count None left old new before after cause none part p = tt
stops_reading logic e reading rest writing count (Some input) None old new before after cause none part p = absurd p.taken
stops_reading logic fault.Read reading rest writing count (Some input) (Some bytes) old new before after cause none part p =
    (stops_before logic count input bytes old new before after p, cause, taken_here input (Some bytes) p.done reading rest none p.took part)
stops_reading logic fault.TooMuch reading rest writing count (Some input) (Some bytes) old new before after cause none part p =
    (stops_before logic count input bytes old new before after p, inr (cause, taken_here input (Some bytes) p.done reading rest none p.took part))
stops_reading logic fault.Memory reading rest writing count (Some input) (Some bytes) old new before after cause none part p =
    (stops_at logic count input bytes old new before after p, none_beyond input (Some bytes) _ p.done p.took part)
stops_reading logic fault.Write reading rest writing count (Some input) (Some bytes) old new before after cause none part p =
    (stops_flushing logic count (Some input) (Some bytes) old new before after p, cause)

-- there are more lines than an input may have
pub stops_full : (logic : Logic) (reading : Reading) (rest : Option (List ℕ)) (writing : WriterCalls) (count : ℕ) (from : Option (List ℕ)) (old new : History) (before after : Option (List ℕ))
    → count ≡ lines_limit → reading.ahead ≢ [] → LinesDone logic count from (left_of reading rest) old new before after
    → IfSome from (λ input. StopsBy logic input reading rest writing old new before after fault.TooMuch)
stops_full logic reading rest writing count None old new before after full some p = tt
stops_full logic reading None writing count (Some input) old new before after full some p = absurd p.taken
stops_full logic reading (Some bytes) writing count (Some input) old new before after full some p = (
  record {
    done = p.done;
    rest = lines_of (reading.ahead ++ bytes);
    parts = p.taken;
    given = p.given;
    text = p.text;
    answers = lines_answered logic count (Some input) (Some (reading.ahead ++ bytes)) old new before after p;
    written = p.written;
  },
  inl (p.counted ∙ full, lines_ahead reading bytes some),
)

-- while a line is answered
stops_in_writing : (logic : Logic) (count : ℕ) (from left next : Option (List ℕ)) (old mid new : History) (before during after : Option (List ℕ)) (l last : List ℕ)
    → LinesDone logic count from left old mid before during → LinesTaken left next (l ∷ []) → AnswersLine logic mid (meaning_of l) new last → WrittenInPart during after last
    → IfSome from (λ input. StopsAfter logic (lines_of input) old new before after)
stops_in_writing logic count None left next old mid new before during after l last p took answers part = tt
stops_in_writing logic count (Some input) None next old mid new before during after l last p took answers part = absurd p.taken
stops_in_writing logic count (Some input) (Some bytes) None old mid new before during after l last p took answers part = absurd took
stops_in_writing logic count (Some input) (Some bytes) (Some others) old mid new before during after l last p took answers part =
    let all = line_more logic old mid new p.done l p.given p.text last p.answers answers in record {
      done = p.done;
      last = l ∷ [];
      rest = lines_of others;
      at_most_one = omega arith;
      parts = p.taken ∙ ap (λ ls. p.done ++ ls) took ∙ sym (append_assoc p.done (l ∷ []) (lines_of others));
      given = p.given;
      more = all.0;
      text = p.text;
      last_text = last;
      mid = mid;
      before_it = lines_answered logic count (Some input) (Some bytes) old mid before during p;
      answers = lines_own logic old new (p.done ++ l ∷ []) (p.given ++ all.0) (p.text ++ last) p.leads all.1;
      during = during;
      written = p.written;
      part = part;
    }

stops_for_memory : (logic : Logic) (count : ℕ) (input bytes others : List ℕ) (old mid new : History) (before after : Option (List ℕ)) (l : List ℕ)
    → LinesDone logic count (Some input) (Some bytes) old mid before after → LinesTaken (Some bytes) (Some others) (l ∷ []) → MayTake logic mid (meaning_of l) new
    → StopsAt logic (lines_of input) old new before after
stops_for_memory logic count input bytes others old mid new before after l p took may = record {
  done = p.done;
  rest = l ∷ lines_of others;
  parts = p.taken ∙ ap (λ ls. p.done ++ ls) took;
  given = p.given;
  text = p.text;
  mid = mid;
  answers = lines_answered logic count (Some input) (Some bytes) old mid before after p;
  next = ⊎_elim (λ same. inl same) (λ took_it. inr (next_line took_it)) may;
  written = p.written;
}
  where
    next_line : (text : List ℕ) × AnswersLine logic mid (meaning_of l) new text → AnswersNext logic old p.done (l ∷ lines_of others) p.given new p.text
    next_line took_it =
        let all = line_more logic old mid new p.done l p.given p.text took_it.0 p.answers took_it.1 in
        (all.0, took_it.0, lines_own logic old new (p.done ++ l ∷ []) (p.given ++ all.0) (p.text ++ took_it.0) p.leads all.1)

stopped_for_memory : (logic : Logic) (reading : Reading) (rest : Option (List ℕ)) (writing : WriterCalls) (count : ℕ) (from left next : Option (List ℕ)) (old mid new : History) (before after : Option (List ℕ)) (l : List ℕ)
    → next ≡ left_of reading rest → LinesDone logic count from left old mid before after → TakesLine left next l → MayTake logic mid (meaning_of l) new
    → IfSome from (λ input. StopsBy logic input reading rest writing old new before after fault.Memory)
unfolding stops_for_memory
stopped_for_memory logic reading rest writing count None left next old mid new before after l is p took may = tt
stopped_for_memory logic reading rest writing count (Some input) None next old mid new before after l is p took may = absurd p.taken
stopped_for_memory logic reading rest writing count (Some input) (Some bytes) None old mid new before after l is p took may = absurd (TakesLine-lines (Some bytes) None l took)
stopped_for_memory logic reading rest writing count (Some input) (Some bytes) (Some others) old mid new before after l is p took may = (
  stops_for_memory logic count input bytes others old mid new before after l p (TakesLine-lines (Some bytes) (Some others) l took) may,
  subst (λ (o : Option (List ℕ)). AreTakenButOne input o p.done) is (one_beyond input (Some bytes) (Some others) p.done l p.took took),
)

pub stops_answering : (logic : Logic) (e : LineFault) (reading : Reading) (rest : Option (List ℕ)) (writing : WriterCalls) (count : ℕ) (from left : Option (List ℕ)) (old mid new : History) (before during after : Option (List ℕ)) (l : List ℕ) (said : Line)
    → LinesDone logic count from left old mid before during → TakesLine left (left_of reading rest) l → said ≡ meaning_of l → LineStopsBy logic e said writing mid new during after
    → IfSome from (λ input. StopsBy logic input reading rest writing old new before after e)
stops_answering logic fault.Read reading rest writing count from left old mid new before during after l said p took e h = absurd h
stops_answering logic fault.TooMuch reading rest writing count from left old mid new before during after l said p took e h = absurd h
stops_answering logic fault.Memory reading rest writing count from left old mid new before during after l said p took e h =
    stopped_for_memory logic reading rest writing count from left _ old mid new before after l refl (LinesDone-flushed logic count from left old mid before during after p h.1) took (subst (λ (s : Line). MayTake logic mid s new) e h.0)
stops_answering logic fault.Write reading rest writing count from left old mid new before during after l said p took e h =
    for_reason from _ _ (λ input stops. (stops, h.1)) (stops_in_writing logic count from left _ old mid new before during after l h.0.0 p (TakesLine-lines left _ l took) (subst (λ (s : Line). AnswersLine logic mid s new h.0.0) e h.0.1) h.0.2)
