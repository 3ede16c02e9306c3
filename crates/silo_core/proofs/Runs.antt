-- Runs, one after another.
use Rattle.std.proofs.Common.{◌≡◌, ◌≢◌, ℕ, zero, suc, ◌+◌, cond, List, [], ◌∷◌, ◌++◌, length, take, drop, Option, Some, None, unwrap_or, refl, ap, sym, ◌∙◌, subst, arith, length-append}
use Rattle.std.specs.Prelude.{Ok}
use Rattle.std.proofs.lemmas.List.{append-nil, append_assoc}
use Rattle.std.proofs.lemmas.List.Sums.{sum_by-append}
use Rattle.std.proofs.lemmas.Option.{none-some}
use Rattle.silo_event.specs.Failed.{as_failed, marked_step}
use Rattle.silo_event.specs.declared.step.Step.{Step}
use Rattle.silo_event.specs.declared.step.Answer.{Answer}
use Rattle.silo_event.specs.declared.step.Answer.TheVariants.{Done, Failed, NotNow}
use Rattle.grain_logic.specs.Logic.{Logic}
use Rattle.silo_model.specs.Whole.{Whole, whole_step}
use Rattle.silo_model.specs.Run.{run_by, if_possible, done_by, whole_run, marked}
use Rattle.silo_model.specs.Answers.{AreAnswersBy, AreAnswers}
use Rattle.silo_model.proofs.Runs.{run_by-append, done_by-append}
use Rattle.silo_core.specs.History.{History, Failures, Answered, failed_since}
use Rattle.silo_core.specs.Runs.{is_failed, failed_in, Takes}

-- ---- lists of steps and of answers, as long as each other

pub marked-append : (ss : List Step) (given : List Answer) (ts : List Step) (more : List Answer) → length given ≡ length ss → marked (ss ++ ts) (given ++ more) ≡ marked ss given ++ marked ts more
marked-append [] [] ts more same = refl
marked-append [] (a ∷ given) ts more same = absurd (cc (same))
marked-append (s ∷ ss) [] ts more same = absurd (cc (same))
marked-append (s ∷ ss) (a ∷ given) ts more same = ap (λ (rest : List Step). marked_step s a ∷ rest) (marked-append ss given ts more (cc (same)))

-- the steps that are done in a list, and then those in another
done_on : (logic : Logic) (old mid : Whole) (ss : List Step) (given : List Answer) (ts : List Step) (more : List Answer) → length given ≡ length ss → mid ≡ whole_run logic old (marked ss given)
    → done_by (whole_step logic) old (marked ss given) ++ done_by (whole_step logic) mid (marked ts more) ≡ done_by (whole_step logic) old (marked (ss ++ ts) (given ++ more))
done_on logic old mid ss given ts more same led =
    ap (λ (w : Whole). done_by (whole_step logic) old (marked ss given) ++ done_by (whole_step logic) w (marked ts more)) led
    ∙ sym (done_by-append (whole_step logic) old (marked ss given) (marked ts more))
    ∙ ap (λ (steps : List Step). done_by (whole_step logic) old steps) (sym (marked-append ss given ts more same))

pub failed_in-append : (given more : List Answer) → failed_in (given ++ more) ≡ failed_in given + failed_in more
failed_in-append given more = sum_by-append (λ (a : Answer). cond (is_failed a) 1 0) given more

answers-append : {M : Type 0} (step : M → Step → Option M) (m : M) (ss : List Step) (given : List Answer) (ts : List Step) (more : List Answer) → length given ≡ length ss
    → AreAnswersBy step m ss given → AreAnswersBy step (run_by step m (marked ss given)) ts more → AreAnswersBy step m (ss ++ ts) (given ++ more)
answers-append step m [] [] ts more same are later = later
answers-append step m [] (a ∷ given) ts more same are later = absurd (cc (same))
answers-append step m (s ∷ ss) [] ts more same are later = absurd (cc (same))
answers-append step m (s ∷ ss) (a ∷ given) ts more same are later = (are.0, answers-append step (unwrap_or (step m (marked_step s a)) m) ss given ts more (cc (same)) are.1 later)

since_none : (f : Failures) → failed_since 0 f ≡ f
since_none f = λ i. record { at_opening = f.at_opening; now = nothing i }
  where
    nothing : f.now + 0 ≡ f.now
    nothing = omega arith

since_more : (f : Failures) (n m : ℕ) → failed_since m (failed_since n f) ≡ failed_since (n + m) f
since_more f n m = λ i. record { at_opening = f.at_opening; now = sums i }
  where
    sums : f.now + n + m ≡ f.now + (n + m)
    sums = omega arith

-- ---- runs

pub taken_none : (logic : Logic) (old : History) → Takes logic old [] [] old
taken_none logic old = record {
  each_answered = refl;
  answers = tt;
  whole = refl;
  journal = sym (append-nil old.journal);
  setup = refl;
  failures = sym (since_none old.failures);
}

possible : {A : Type 0} (o : Option A) (x : A) → o ≡ Some x → o ≢ None
possible o x e none = none-some x (sym none ∙ e)

-- what is done of one step, by what becomes of it
done_one : (logic : Logic) (old : Whole) (s : Step) (o : Option Whole) → whole_step logic old s ≡ o → done_by (whole_step logic) old (s ∷ []) ≡ if_possible s o ++ []
done_one logic old s o is = ap (λ (found : Option Whole). if_possible s found ++ []) is

-- one step is a run of itself
pub taken_one : (logic : Logic) (old new : History) (s : Step) (a : Answer) → Answered logic old s (Ok a) new → Takes logic old (s ∷ []) (a ∷ []) new
taken_one logic old new s Done h = record {
  each_answered = refl;
  answers = (possible (whole_step logic old.whole s) new.whole h.whole, tt);
  whole = sym (ap (λ o. unwrap_or o old.whole) h.whole);
  journal = h.journal ∙ ap (λ (j : List Step). old.journal ++ j) (sym (done_one logic old.whole s (Some new.whole) h.whole));
  setup = h.setup;
  failures = h.failures;
}
taken_one logic old new s Failed h = record {
  each_answered = refl;
  answers = ((h.calls, possible (whole_step logic old.whole (as_failed s)) new.whole h.advances.whole), tt);
  whole = sym (ap (λ o. unwrap_or o old.whole) h.advances.whole);
  journal = h.advances.journal ∙ ap (λ (j : List Step). old.journal ++ j) (sym (done_one logic old.whole (as_failed s) (Some new.whole) h.advances.whole));
  setup = h.advances.setup;
  failures = h.advances.failures;
}
taken_one logic old new s NotNow h = record {
  each_answered = refl;
  answers = (h.impossible, tt);
  whole = ap (λ (k : History). k.whole) h.unchanged ∙ sym (ap (λ o. unwrap_or o old.whole) h.impossible);
  journal = ap (λ (k : History). k.journal) h.unchanged ∙ sym (append-nil old.journal) ∙ ap (λ (j : List Step). old.journal ++ j) (sym (done_one logic old.whole s None h.impossible));
  setup = ap (λ (k : History). k.setup) h.unchanged;
  failures = ap (λ (k : History). k.failures) h.unchanged ∙ sym (since_none old.failures);
}

pub taken_on : (logic : Logic) (old mid new : History) (ss : List Step) (given : List Answer) (ts : List Step) (more : List Answer)
    → Takes logic old ss given mid → Takes logic mid ts more new → Takes logic old (ss ++ ts) (given ++ more) new
taken_on logic old mid new ss given ts more t u = record {
  each_answered = length-append given more ∙ (λ i. t.each_answered i + u.each_answered i) ∙ sym (length-append ss ts);
  answers = answers-append (whole_step logic) old.whole ss given ts more t.each_answered t.answers (subst (λ w. AreAnswers logic w ts more) t.whole u.answers);
  whole =
      u.whole
      ∙ ap (λ w. whole_run logic w (marked ts more)) t.whole
      ∙ sym (run_by-append (whole_step logic) old.whole (marked ss given) (marked ts more))
      ∙ ap (whole_run logic old.whole) (sym (marked-append ss given ts more t.each_answered));
  journal =
      u.journal
      ∙ ap (λ (j : List Step). j ++ done_by (whole_step logic) mid.whole (marked ts more)) t.journal
      ∙ append_assoc old.journal (done_by (whole_step logic) old.whole (marked ss given)) (done_by (whole_step logic) mid.whole (marked ts more))
      ∙ ap (λ (j : List Step). old.journal ++ j) (done_on logic old.whole mid.whole ss given ts more t.each_answered t.whole);
  setup = u.setup ∙ t.setup;
  failures =
      u.failures
      ∙ ap (failed_since (failed_in more)) t.failures
      ∙ since_more old.failures (failed_in given) (failed_in more)
      ∙ ap (λ n. failed_since n old.failures) (sym (failed_in-append given more));
}

-- the next of what is left goes to the end of what was taken
pub next_of : (n : ℕ) (ss : List Step) (s : Step) (rest : List Step) → drop n ss ≡ s ∷ rest → (take (suc n) ss ≡ take n ss ++ s ∷ []) × (drop (suc n) ss ≡ rest)
next_of zero [] s rest e = absurd (cc (e))
next_of zero (x ∷ ss) s rest e = let first : x ≡ s = cc (e) in let others : ss ≡ rest = cc (e) in (ap (λ (y : Step). y ∷ []) first, others)
next_of (suc n) [] s rest e = absurd (cc (e))
next_of (suc n) (x ∷ ss) s rest e = let r = next_of n ss s rest e in (ap (λ (ys : List Step). x ∷ ys) r.0, r.1)
