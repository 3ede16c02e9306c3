use Rattle.std.proofs.Common.{◌≡◌, ℕ, List, [], vec_len, take, ap, sym, subst, ◌∙◌, arith}
use Rattle.std.proofs.lemmas.List.{length-take}
use Rattle.std.proofs.lemmas.Option.{same_Some}
use Rattle.silo_event.specs.declared.step.Step.{Step}
use Rattle.silo_model.specs.Answers.{AreAnswers}
use Rattle.silo_model.specs.Journal.{LeadsTo}
use Rattle.silo_model.specs.Opening.{opening}
use Rattle.silo_model.specs.Parts.{AnsweredAlone}
use Rattle.silo_model.specs.Run.{whole_run, restricted_to, marked}
use Rattle.silo_model.specs.Settled.{Settled}
use Rattle.silo_model.specs.Whole.{Whole, shown_to}
use Rattle.silo_model.proofs.AnswersInParts.{answered_in_parts}
use Rattle.silo_model.proofs.ExclusiveRuns.{runs_are_exclusive}
use Rattle.silo_model.proofs.FairRuns.{runs_settle}
use Rattle.silo_model.proofs.Journals.{runs_on}
use Rattle.silo_model.proofs.Lawful.{lawful_readers}
use Rattle.silo_model.proofs.Opening.{replay_is_run}
use Rattle.silo_core.specs.History.{History}
use Rattle.silo_core.proofs.Alone.{alone}
use Rattle.silo_core.proofs.silo.Silo.run.Given as given
use Rattle.silo_core.proofs.silo.Silo.run.Goals as goal

module _ (g : given.Over) (c : goal.After-take_each g) where
  abbrev answered : List Step
  answered = take (vec_len c.take_each.result.answers) c.args.steps.items

  abbrev taken : List Step
  taken = marked answered c.take_each.result.answers.items

  leads : LeadsTo g.L.GrainLogic.logic c.args.self.now.setup c.args.self.now.journal c.args.self.now.whole
  leads = subst (λ (h : History). LeadsTo g.L.GrainLogic.logic h.setup h.journal h.whole) c.self.view_is c.self.invariant.0

  own_answers : (tenant : List ℕ) → AnsweredAlone g.L.GrainLogic.logic tenant c.args.self.now.whole answered c.take_each.result.answers.items
  own_answers tenant =
      let old = c.args.self.now in
      answered_in_parts g.L.GrainLogic.logic old.setup old.journal old.whole tenant answered c.take_each.result.answers.items leads c.take_each.ensures.taken.answers

  -- a silo whose journal is empty stands at its opening
  opens : c.args.self.now.journal ≡ [] → opening c.args.self.now.setup ≡ c.args.self.now.whole
  opens new =
      let old = c.args.self.now in
      same_Some (opening old.setup) old.whole (subst (λ (j : List Step). LeadsTo g.L.GrainLogic.logic old.setup j old.whole) new leads)

  runs : c.args.self.now.journal ≡ [] → c.take_each.new.self.whole ≡ whole_run g.L.GrainLogic.logic (opening c.args.self.now.setup) taken
  runs new = c.take_each.ensures.taken.whole ∙ ap (λ (w : Whole). whole_run g.L.GrainLogic.logic w taken) (sym (opens new))

pub returns-clause-parts : goal.returns-clause-parts
returns-clause-parts g c = λ tenant.
    let old = c.args.self.now in
    ap (shown_to tenant) c.take_each.ensures.taken.whole ∙ runs_on g.L.GrainLogic.logic old.setup old.journal old.whole tenant (taken g c) (leads g c)

pub returns-clause-own_answers : goal.returns-clause-own_answers
returns-clause-own_answers g c = λ tenant. (own_answers g c tenant).answers_are

pub returns-clause-alone : goal.returns-clause-alone
returns-clause-alone g c = λ tenant concern.
    let given = c.take_each.result.answers.items in
    alone g.L.GrainLogic.logic tenant (shown_to tenant c.args.self.now.whole) (vec_len c.take_each.result.answers) c.args.steps.items given c.take_each.ensures.taken.each_answered concern
    (own_answers g c tenant).answers_are

pub returns-clause-from_start : goal.returns-clause-from_start
returns-clause-from_start g c = λ new tenant.
    ap (shown_to tenant) (runs g c new) ∙ replay_is_run g.L.GrainLogic.logic c.args.self.now.setup tenant (taken g c)

pub returns-clause-exclusive : goal.returns-clause-exclusive
returns-clause-exclusive g c = λ new.
    let logic = g.L.GrainLogic.logic in
    let given = c.take_each.result.answers.items in
    runs_are_exclusive logic (lawful_readers logic g.met.L.GrainLogic.lawful) c.args.self.now.setup (answered g c) given
    (subst (λ (w : Whole). AreAnswers logic w (answered g c) given) (sym (opens g c new)) c.take_each.ensures.taken.answers)

pub returns-clause-settled : goal.returns-clause-settled
returns-clause-settled g c = λ new tenant.
    let logic = g.L.GrainLogic.logic in
    subst (λ (w : Whole). Settled (restricted_to tenant (taken g c)) (shown_to tenant w)) (sym (runs g c new))
    (runs_settle logic (lawful_readers logic g.met.L.GrainLogic.lawful) c.args.self.now.setup tenant (taken g c))

pub returns-clause-one_each : goal.returns-clause-one_each
returns-clause-one_each g c = omega (arith, c.take_each.ensures.taken.each_answered, length-take (vec_len c.take_each.result.answers) c.args.steps.items)
