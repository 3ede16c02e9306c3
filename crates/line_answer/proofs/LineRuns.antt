-- A run over lines that are answered at once, and how it ends.
use Rattle.std.proofs.Common.{◌≡◌, ◌≢◌, ℕ, ◌+◌, Bool, true, false, List, [], ◌∷◌, ◌++◌, length, Option, Some, None, IfSome, refl, sym, ap, ◌∙◌, subst, inl, inr, arith, length-append}
use Rattle.std.specs.Io.KnownBytes.{Appends, Keeps, IsAtEnd}
use Rattle.std.proofs.KnownBytes.{Appends-trans, Appends-kept, Appends-nil}
use Rattle.grain_logic.specs.Logic.{Logic}
use Rattle.silo_model.specs.Journal.{LeadsTo}
use Rattle.silo_core.specs.History.{History}
use Rattle.line_parser.specs.Meaning.{meaning_of}
use Rattle.line_parser.specs.declared.line.Line.{Line}
use Rattle.line_text.specs.Calls.{HasCause, HasNothingAhead}
use Rattle.line_text.specs.Lines.{lines_of}
use Rattle.line_text.specs.Writing.{WrittenInPart}
use Rattle.line_text.specs.Reading.{Reading, IsFresh, left_of, LinesTaken, TakesLine, TakesPart, AreTakenButOne}
use Rattle.line_text.specs.declared.written.WriterCalls.{WriterCalls}
use Rattle.line_text.specs.declared.fault.LineFault.{LineFault}
use Rattle.line_text.specs.declared.fault.LineFault.TheVariants as fault
use Rattle.line_text.proofs.LinesOfBytes.{LinesTaken-trans, LinesTaken-kept}
use Rattle.line_text.proofs.TakenLines.{taken_here}
use Rattle.line_text.proofs.ReadLines.{all_taken_here, lines_ahead}
use Rattle.line_text.proofs.TakenLines.{Took, Took-kept, Took-more, TakesLine-lines, none_beyond, one_beyond}
use Rattle.answer_model.specs.Idle.{AllIdle}
use Rattle.line_answer.specs.Dropped.{Leaves, MayDrop}
use Rattle.line_answer.specs.Limits.{answered_limit}
use Rattle.line_answer.specs.Runs.{AnswersLine, AnswersLines, AnswersOn, AnswersBefore, LeavesBy, StopsOn, LineStopsBy, MayStop, KeepsSetup}
use Rattle.line_answer.proofs.Asked.{Hears, hears_none, hears_more, hears_own}
use Rattle.line_answer.proofs.Dropped.{leaves_dropped, leaves_line, leaves_self, leaves_setup}

pub Keeps-same : (a : Option (List ℕ)) → Keeps a a
Keeps-same None = tt
Keeps-same (Some bytes) = refl

pub may_stop : (e : LineFault) (stopped : Bool) → stopped ≡ false → MayStop e stopped
may_stop fault.Memory stopped is = tt
may_stop _ stopped is = is

pub setup_kept : (e : LineFault) (old new : History) → new.setup ≡ old.setup → KeepsSetup e old new
setup_kept fault.Memory old new is = tt
setup_kept _ old new is = is

-- what stops one line keeps the setup, too
pub line_setup_kept : (keeps : Bool) (logic : Logic) (n : ℕ) (e : LineFault) (said : Line) (writing : WriterCalls) (old all mid new : History) (before after : Option (List ℕ)) → Leaves keeps all mid → all.setup ≡ old.setup
    → keeps ≡ true → LineStopsBy logic n e said writing mid new before after → KeepsSetup e old new
line_setup_kept keeps logic n fault.Write said writing old all mid new before after leaves is kept h = h.0.1.1.setup ∙ leaves_setup keeps all mid leaves kept ∙ is
line_setup_kept keeps logic n fault.Memory said writing old all mid new before after leaves is kept h = tt
line_setup_kept keeps logic n _ said writing old all mid new before after leaves is kept h = absurd h

-- so far: these lines were taken, answered and written
pub record LinesDone (keeps : Bool) (logic : Logic) (n count : ℕ) (from left : Option (List ℕ)) (old new : History) (before after : Option (List ℕ)) : Type 0 where
  pub leads : LeadsTo logic old.setup old.journal old.whole
  pub done : List (List ℕ)
  pub counted : length done ≡ count
  pub taken : LinesTaken from left done
  pub took : Took from left done
  pub text : List ℕ
  pub all : History
  pub leaves : Leaves keeps all new
  pub hears : Hears logic n old done all text
  pub written : Appends before after text

module _ (keeps : Bool) (logic : Logic) (n : ℕ) where
  pub done_none : (from left : Option (List ℕ)) (old : History) (before : Option (List ℕ)) → LeadsTo logic old.setup old.journal old.whole → AllIdle old.whole.entries
      → LinesTaken from left [] → Took from left [] → LinesDone keeps logic n 0 from left old old before before
  done_none from left old before leads idle h t = record {
    leads = leads;
    done = [];
    counted = refl;
    taken = h;
    took = t;
    text = [];
    all = old;
    leaves = leaves_self keeps old;
    hears = hears_none logic n old idle;
    written = Appends-nil before;
  }

  pub done_more : (count : ℕ) (from left next : Option (List ℕ)) (old mid new : History) (before during after : Option (List ℕ)) (l : List ℕ) (said : Line) (last : List ℕ)
      → LinesDone keeps logic n count from left old mid before during → TakesLine left next l → said ≡ meaning_of l
      → AnswersLine logic n mid said new last → Appends during after last
      → LinesDone keeps logic n (count + 1) from next old new before after
  done_more count from left next old mid new before during after l said last p took e answers wrote =
      let on = leaves_line logic n keeps p.all mid new said last p.leaves answers in
      record {
        leads = p.leads;
        done = p.done ++ l ∷ [];
        counted = omega (arith, p.counted, length-append p.done (l ∷ []));
        taken = LinesTaken-trans from left next p.done (l ∷ []) p.taken (TakesLine-lines left next l took);
        took = Took-more from left next p.done l p.took took;
        text = p.text ++ last;
        all = on.0;
        leaves = on.2;
        hears = hears_more logic n old p.all on.0 p.done l p.text last p.hears (subst (λ (s : Line). AnswersLine logic n p.all s on.0 last) e on.1);
        written = Appends-trans before during after _ _ p.written wrote;
      }

  -- the history may have been dropped
  pub done_dropped : (count : ℕ) (from left : Option (List ℕ)) (old mid new : History) (before after : Option (List ℕ)) → LinesDone keeps logic n count from left old mid before after
      → MayDrop keeps mid new → LinesDone keeps logic n count from left old new before after
  done_dropped count from left old mid new before after p gone = record {
    leads = p.leads;
    done = p.done;
    counted = p.counted;
    taken = p.taken;
    took = p.took;
    text = p.text;
    all = p.all;
    leaves = leaves_dropped keeps p.all mid new p.leaves gone;
    hears = p.hears;
    written = p.written;
  }

  -- of a silo that keeps all the setup is as it was
  pub done_setup : (count : ℕ) (from left : Option (List ℕ)) (old new : History) (before after : Option (List ℕ)) → LinesDone keeps logic n count from left old new before after
      → keeps ≡ true → new.setup ≡ old.setup
  done_setup count from left old new before after p kept = leaves_setup keeps p.all new p.leaves kept ∙ p.hears.tries.setup

  -- the same is left to read, and what was written went out
  done_kept : (count : ℕ) (from left next : Option (List ℕ)) (old new : History) (before during after : Option (List ℕ)) → LinesDone keeps logic n count from left old new before during
      → Keeps left next → Keeps during after → LinesDone keeps logic n count from next old new before after
  done_kept count from left next old new before during after p h k = record {
    leads = p.leads;
    done = p.done;
    counted = p.counted;
    taken = LinesTaken-kept from left next p.done p.taken h;
    took = Took-kept from left next p.done p.took h;
    text = p.text;
    all = p.all;
    leaves = p.leaves;
    hears = p.hears;
    written = Appends-kept before during after _ p.written k;
  }

  pub done_flushed : (count : ℕ) (from left : Option (List ℕ)) (old new : History) (before during after : Option (List ℕ)) → LinesDone keeps logic n count from left old new before during
      → Keeps during after → LinesDone keeps logic n count from left old new before after
  done_flushed count from left old new before during after p k = done_kept count from left left old new before during after p (Keeps-same left) k

  pub done_left : (count : ℕ) (from left next : Option (List ℕ)) (old new : History) (before after : Option (List ℕ)) → LinesDone keeps logic n count from left old new before after
      → Keeps left next → LinesDone keeps logic n count from next old new before after
  done_left count from left next old new before after p h = done_kept count from left next old new before after after p h (Keeps-same after)

  answers_of : (count : ℕ) (from left : Option (List ℕ)) (old new : History) (before after : Option (List ℕ)) (p : LinesDone keeps logic n count from left old new before after)
      → AnswersLines logic n old p.done p.all p.text
  answers_of count from left old new before after p = hears_own logic n old p.all p.done p.text p.leads p.hears

  -- ---- the end of the input

  pub done_all : (count total : ℕ) (from : Option (List ℕ)) (reading : Reading) (rest : Option (List ℕ)) (old new : History) (before after : Option (List ℕ))
      → total ≡ count → IsFresh reading → IsAtEnd rest
      → LinesDone keeps logic n count from (left_of reading rest) old new before after → IfSome from (λ input. AnswersOn keeps logic n input total old new rest before after)
  done_all count total None reading rest old new before after same none end p = tt
  done_all count total (Some input) reading rest old new before after same none end p =
      let whole = all_taken_here input reading rest p.done none end p.taken in
      record {
        all = p.all;
        leaves = p.leaves;
        answers = record {
          read = whole.0;
          counted = same ∙ sym p.counted ∙ ap length (sym whole.1);
          text = p.text;
          answers = subst (λ ls. AnswersLines logic n old ls p.all p.text) (sym whole.1) (answers_of count (Some input) (left_of reading rest) old new before after p);
          written = p.written;
        };
      }

  -- ---- a fault

  stops_before : (count : ℕ) (input bytes : List ℕ) (old new : History) (before after : Option (List ℕ)) (p : LinesDone keeps logic n count (Some input) (Some bytes) old new before after)
      → AnswersBefore logic n (lines_of input) old p.all before after
  stops_before count input bytes old new before after p = record {
    done = p.done;
    rest = lines_of bytes;
    parts = p.taken;
    text = p.text;
    answers = answers_of count (Some input) (Some bytes) old new before after p;
    written = p.written;
  }

  -- while the next line is read, or memory is refused before
  pub stops_reading : (e : LineFault) (reading : Reading) (rest : Option (List ℕ)) (writing : WriterCalls) (count : ℕ) (from left : Option (List ℕ)) (old new : History) (before after : Option (List ℕ))
      → HasCause e reading.calls writing → HasNothingAhead e reading.ahead → TakesPart left (left_of reading rest) → LinesDone keeps logic n count from left old new before after
      → Keeps after after → IfSome from (λ input. StopsOn keeps logic n input reading rest writing old new before after e)
  unfolding stops_before
  stops_reading e reading rest writing count None left old new before after cause none part p kept = tt
  stops_reading e reading rest writing count (Some input) None old new before after cause none part p kept = absurd p.taken
  stops_reading fault.Read reading rest writing count (Some input) (Some bytes) old new before after cause none part p kept = record {
    all = p.all;
    leaves = p.leaves;
    stops = (stops_before count input bytes old new before after p, cause, taken_here input (Some bytes) p.done reading rest none p.took part);
  }
  stops_reading fault.TooMuch reading rest writing count (Some input) (Some bytes) old new before after cause none part p kept = record {
    all = p.all;
    leaves = p.leaves;
    stops = (stops_before count input bytes old new before after p, inr (cause, taken_here input (Some bytes) p.done reading rest none p.took part));
  }
  stops_reading fault.Memory reading rest writing count (Some input) (Some bytes) old new before after cause none part p kept = record {
    all = p.all;
    leaves = tt;
    stops = (p.all, stops_before count input bytes old new before after p, none_beyond input (Some bytes) _ p.done p.took part);
  }
  stops_reading fault.Write reading rest writing count (Some input) (Some bytes) old new before after cause none part p kept = record {
    all = p.all;
    leaves = p.leaves;
    stops = (p.all, after, stops_before count input bytes old new before after p, inl (refl, kept), cause);
  }

  -- there are more lines than an input may have
  pub stops_full : (reading : Reading) (rest : Option (List ℕ)) (writing : WriterCalls) (count : ℕ) (from : Option (List ℕ)) (old new : History) (before after : Option (List ℕ))
      → count ≡ answered_limit → reading.ahead ≢ [] → LinesDone keeps logic n count from (left_of reading rest) old new before after
      → IfSome from (λ input. StopsOn keeps logic n input reading rest writing old new before after fault.TooMuch)
  unfolding stops_before
  stops_full reading rest writing count None old new before after full some p = tt
  stops_full reading None writing count (Some input) old new before after full some p = absurd p.taken
  stops_full reading (Some bytes) writing count (Some input) old new before after full some p = record {
    all = p.all;
    leaves = p.leaves;
    stops = (stops_before count input (reading.ahead ++ bytes) old new before after p, inl (p.counted ∙ full, lines_ahead reading bytes some));
  }

  -- while a line is answered
  stops_memory : (reading : Reading) (rest : Option (List ℕ)) (writing : WriterCalls) (count : ℕ) (from left next : Option (List ℕ)) (old mid new : History) (before after : Option (List ℕ)) (l : List ℕ)
      → next ≡ left_of reading rest → LinesDone keeps logic n count from left old mid before after → TakesLine left next l
      → IfSome from (λ input. StopsOn keeps logic n input reading rest writing old new before after fault.Memory)
  unfolding stops_before
  stops_memory reading rest writing count None left next old mid new before after l is p took = tt
  stops_memory reading rest writing count (Some input) None next old mid new before after l is p took = absurd p.taken
  stops_memory reading rest writing count (Some input) (Some bytes) next old mid new before after l is p took = record {
    all = p.all;
    leaves = tt;
    stops = (
      p.all,
      stops_before count input bytes old mid before after p,
      subst (λ (o : Option (List ℕ)). AreTakenButOne input o p.done) is (one_beyond input (Some bytes) next p.done l p.took took),
    );
  }

  stops_writing : (reading : Reading) (rest : Option (List ℕ)) (writing : WriterCalls) (count : ℕ) (from left next : Option (List ℕ)) (old mid new : History) (before during after : Option (List ℕ)) (l last : List ℕ)
      → LinesDone keeps logic n count from left old mid before during → LinesTaken left next (l ∷ []) → AnswersLine logic n mid (meaning_of l) new last → WrittenInPart during after last
      → writing.failed ≡ true → IfSome from (λ input. StopsOn keeps logic n input reading rest writing old new before after fault.Write)
  unfolding stops_before
  stops_writing reading rest writing count None left next old mid new before during after l last p took answers part failed = tt
  stops_writing reading rest writing count (Some input) None next old mid new before during after l last p took answers part failed = absurd p.taken
  stops_writing reading rest writing count (Some input) (Some bytes) None old mid new before during after l last p took answers part failed = absurd took
  stops_writing reading rest writing count (Some input) (Some bytes) (Some others) old mid new before during after l last p took answers part failed =
      let on = leaves_line logic n keeps p.all mid new (meaning_of l) last p.leaves answers in
      record {
        all = on.0;
        leaves = on.2;
        stops = (p.all, during, stops_before count input bytes old mid before during p, inr (l, lines_of others, last, took, on.1, part), failed);
      }

  pub stops_answering : (e : LineFault) (reading : Reading) (rest : Option (List ℕ)) (writing : WriterCalls) (count : ℕ) (from left : Option (List ℕ)) (old mid new : History) (before during after : Option (List ℕ)) (l : List ℕ) (said : Line)
      → LinesDone keeps logic n count from left old mid before during → TakesLine left (left_of reading rest) l → said ≡ meaning_of l → LineStopsBy logic n e said writing mid new during after
      → IfSome from (λ input. StopsOn keeps logic n input reading rest writing old new before after e)
  stops_answering fault.Read reading rest writing count from left old mid new before during after l said p took e h = absurd h
  stops_answering fault.TooMuch reading rest writing count from left old mid new before during after l said p took e h = absurd h
  stops_answering fault.Memory reading rest writing count from left old mid new before during after l said p took e h =
      stops_memory reading rest writing count from left _ old mid new before after l refl (done_flushed count from left old mid before during after p h) took
  stops_answering fault.Write reading rest writing count from left old mid new before during after l said p took e h =
      stops_writing reading rest writing count from left _ old mid new before during after l h.0.0 p (TakesLine-lines left _ l took)
      (subst (λ (s : Line). AnswersLine logic n mid s new h.0.0) e h.0.1) h.0.2 h.1
