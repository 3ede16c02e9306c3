-- Lines of others change nothing of what a tenant is shown.
use Rattle.std.proofs.Common.{◌≡◌, ℕ, Bool, true, false, List, [], ◌∷◌, ◌++◌, length, append-nil, refl, ap, sym, ◌∙◌, subst}
use Rattle.std.specs.Prelude.{map as map_list, drop}
use Rattle.silo_event.specs.declared.step.Step.{Step}
use Rattle.grain_logic.specs.Logic.{Logic}
use Rattle.silo_model.specs.Opening.{Setup}
use Rattle.silo_model.specs.Whole.{Whole, shown_to, whole_step}
use Rattle.silo_model.specs.Run.{done_by, whole_run}
use Rattle.line_parser.specs.declared.line.Line.{Line}
use Rattle.line_parser.specs.declared.line.Line.TheVariants as line
use Rattle.line_text.specs.LineTexts.{said_lines, texts_of}
use Rattle.answer_model.specs.Answering.{Luck, Stepper, Asked, all_have_memory, taken, is_asked, whole_stepper, machine_stepper, answering, answered, all_answered}
use Rattle.answer_model.specs.Certain.{AllStored, AllWell}
use Rattle.answer_model.specs.Idle.{AllIdle}
use Rattle.answer_model.proofs.Apart.{tenants_apart}
use Rattle.answer_model.proofs.Certain.{AllWell-split, parts_well, answered_certainly, answered_surely}
use Rattle.answer_model.proofs.Reached.{IsReached, run_reached}
use Rattle.answer_model.proofs.Idle.{answered_at_once}
use Rattle.line_answer.specs.Texts.{Heard, asked_if, asks_by, asks_of, text_if, all_steps, asked_text, step_text, line_text, lines_text}
use Rattle.line_answer.specs.Laws.{heard_well, LinesApart, LinesCertain, LinesAlone}
use Rattle.line_answer.proofs.Asked.{all_answered-append, run_all}

-- ---- with the same luck

pub lines_apart : LinesApart
lines_apart logic n tenant lines others old new before after text other here there start same =
    here.own tenant ∙ (λ i. all_answered (machine_stepper logic) n (start i) (same i)) ∙ sym (there.own tenant)

-- ---- where all went well

abbrev head_of : Step → List Step → Step
head_of s [] = s
head_of s (first ∷ others) = first

module _ (logic : Logic) (setup : Setup) (n : ℕ) where
  abbrev of_whole : Stepper Whole
  of_whole = whole_stepper logic

  abbrev Well : Whole → List Asked → Type 0
  Well w asks = AllWell (done_by (whole_step logic) w (all_steps of_whole n w asks))

  -- what is asked by one line
  module _ (w : Whole) (reached : IsReached logic setup w) (idle : AllIdle w.entries) (s : Step) (lucks : List Luck) (asked : is_asked s ≡ true) where
    abbrev one : Asked
    one = record { step = s; lucks = lucks }

    abbrev plain : Asked
    plain = record { step = s; lucks = [] }

    -- if the steps are those of good luck
    module _ (same_steps : answering of_whole n w one ≡ answering of_whole n w plain) where
      same_after : answered of_whole n w one ≡ answered of_whole n w plain
      same_after = ap (whole_run logic w) same_steps

      same_taken : taken one ≡ taken plain
      same_taken = ap (head_of s) same_steps

      same_text : asked_text of_whole n w one ≡ asked_text of_whole n w plain
      same_text =
          (λ i. text_if (whole_step logic w (same_taken i)) (texts_of (drop (length w.replies) (same_after i).replies)))

    well_steps : AllWell (done_by (whole_step logic) w (answering of_whole n w one)) → answering of_whole n w one ≡ answering of_whole n w plain
    well_steps all = answered_certainly logic setup reached.0 w n one reached.1 idle asked all

    sure_steps : all_have_memory lucks ≡ true → AllStored (done_by (whole_step logic) w (answering of_whole n w one)) → answering of_whole n w one ≡ answering of_whole n w plain
    sure_steps memory all = answered_surely logic setup reached.0 w n one reached.1 idle asked memory all

    idle_then : AllIdle (answered of_whole n w one).entries
    idle_then = (answered_at_once logic setup reached.0 w n one reached.1 idle asked).0

  reached_then : (w : Whole) (asked : Asked) → IsReached logic setup w → IsReached logic setup (answered of_whole n w asked)
  reached_then w asked reached = run_reached logic setup (answering of_whole n w asked) w reached

  -- what one line leaves: all is idle, and it is as with good luck
  record LineWell (w : Whole) (said : Line) (lucks : List Luck) (others : List Asked) : Type 0 where
    pub after : all_answered of_whole n w (asks_by said lucks) ≡ all_answered of_whole n w (asks_by said [])
    pub text : line_text of_whole n w said lucks ≡ line_text of_whole n w said []
    pub reached : IsReached logic setup (all_answered of_whole n w (asks_by said lucks))
    pub idle : AllIdle (all_answered of_whole n w (asks_by said lucks)).entries
    pub later : Well (all_answered of_whole n w (asks_by said lucks)) others

  nothing_well : (w : Whole) (said : Line) (lucks : List Luck) (others : List Asked) → asks_by said lucks ≡ asks_by said [] → line_text of_whole n w said lucks ≡ line_text of_whole n w said []
      → asks_by said lucks ≡ [] → IsReached logic setup w → AllIdle w.entries → Well w (asks_by said lucks ++ others) → LineWell w said lucks others
  nothing_well w said lucks others same text none reached idle all = record {
    after = ap (all_answered of_whole n w) same;
    text = text;
    reached = subst (λ asks. IsReached logic setup (all_answered of_whole n w asks)) (sym none) reached;
    idle = subst (λ asks. AllIdle (all_answered of_whole n w asks).entries) (sym none) idle;
    later = subst (λ asks. Well (all_answered of_whole n w asks) others) (sym none) (subst (λ asks. Well w (asks ++ others)) none all);
  }

  line_well : (w : Whole) (said : Line) (lucks : List Luck) (others : List Asked) → IsReached logic setup w → AllIdle w.entries → Well w (asks_by said lucks ++ others)
      → LineWell w said lucks others
  line_well w line.Nothing lucks others reached idle all = nothing_well w line.Nothing lucks others refl refl refl reached idle all
  line_well w (line.Refusal r) lucks others reached idle all = nothing_well w (line.Refusal r) lucks others refl refl refl reached idle all
  line_well w (line.Step s) lucks others reached idle all = by_test (is_asked s) refl
    where
      step_well : is_asked s ≡ true → LineWell w (line.Step s) lucks others
      step_well is =
          let asked : Asked = record { step = s; lucks = lucks } in
          let all_asked : (lucks : List Luck) → asks_by (line.Step s) lucks ≡ record { step = s; lucks = lucks } ∷ [] = λ lucks. ap (λ b. asked_if b s lucks) is in
          let tried = subst (λ asks. Well w (asks ++ others)) (all_asked lucks) all in
          let parts = parts_well logic w (answering of_whole n w asked) (all_steps of_whole n (answered of_whole n w asked) others) tried in
          let same = well_steps w reached idle s lucks is parts.0 in
          record {
            after = ap (all_answered of_whole n w) (all_asked lucks) ∙ same_after w reached idle s lucks is same ∙ ap (all_answered of_whole n w) (sym (all_asked []));
            text =
                ap (λ b. step_text of_whole n b w s lucks) is ∙ same_text w reached idle s lucks is same
                ∙ ap (λ b. step_text of_whole n b w s []) (sym is);
            reached = subst (λ asks. IsReached logic setup (all_answered of_whole n w asks)) (sym (all_asked lucks)) (reached_then w asked reached);
            idle = subst (λ asks. AllIdle (all_answered of_whole n w asks).entries) (sym (all_asked lucks)) (idle_then w reached idle s lucks is);
            later = subst (λ asks. Well (all_answered of_whole n w asks) others) (sym (all_asked lucks)) parts.1;
          }

      by_test : (b : Bool) → is_asked s ≡ b → LineWell w (line.Step s) lucks others
      by_test true is = step_well is
      by_test false is =
          let none : (lucks : List Luck) → asks_by (line.Step s) lucks ≡ [] = λ lucks. ap (λ b. asked_if b s lucks) is in
          nothing_well w (line.Step s) lucks others (none lucks ∙ sym (none []))
          (ap (λ b. step_text of_whole n b w s lucks) is ∙ ap (λ b. step_text of_whole n b w s []) (sym is)) (none lucks) reached idle all

  -- ---- one line, if the storage didn't fail and there was memory for the turns that came of it

  abbrev AsWithGoodLuck : Whole → Line → List Luck → Type 0
  AsWithGoodLuck w said lucks =
      (all_answered of_whole n w (asks_by said lucks) ≡ all_answered of_whole n w (asks_by said []))
      × (line_text of_whole n w said lucks ≡ line_text of_whole n w said [])

  pub line_surely : (w : Whole) (said : Line) (lucks : List Luck) → IsReached logic setup w → AllIdle w.entries → all_have_memory lucks ≡ true
      → AllStored (done_by (whole_step logic) w (all_steps of_whole n w (asks_by said lucks))) → AsWithGoodLuck w said lucks
  line_surely w line.Nothing lucks reached idle memory all = (refl, refl)
  line_surely w (line.Refusal r) lucks reached idle memory all = (refl, refl)
  line_surely w (line.Step s) lucks reached idle memory all = by_test (is_asked s) refl
    where
      by_test : (b : Bool) → is_asked s ≡ b → AsWithGoodLuck w (line.Step s) lucks
      by_test true is =
          let asked : Asked = record { step = s; lucks = lucks } in
          let all_asked : (lucks : List Luck) → asks_by (line.Step s) lucks ≡ record { step = s; lucks = lucks } ∷ [] = λ lucks. ap (λ b. asked_if b s lucks) is in
          let tried = subst (λ asks. AllStored (done_by (whole_step logic) w (all_steps of_whole n w asks))) (all_asked lucks) all in
          let same =
          sure_steps w reached idle s lucks is memory (subst (λ steps. AllStored (done_by (whole_step logic) w steps)) (append-nil (answering of_whole n w asked)) tried)
          in (
            ap (all_answered of_whole n w) (all_asked lucks) ∙ same_after w reached idle s lucks is same ∙ ap (all_answered of_whole n w) (sym (all_asked [])),
            ap (λ b. step_text of_whole n b w s lucks) is ∙ same_text w reached idle s lucks is same ∙ ap (λ b. step_text of_whole n b w s []) (sym is),
          )
      by_test false is =
          let none : (lucks : List Luck) → asks_by (line.Step s) lucks ≡ [] = λ lucks. ap (λ b. asked_if b s lucks) is in (
            ap (all_answered of_whole n w) (none lucks ∙ sym (none [])),
            ap (λ b. step_text of_whole n b w s lucks) is ∙ ap (λ b. step_text of_whole n b w s []) (sym is),
          )

  -- all lines
  pub all_well : (heard : List Heard) (w : Whole) → IsReached logic setup w → AllIdle w.entries → Well w (asks_of heard)
      → (all_answered of_whole n w (asks_of heard) ≡ all_answered of_whole n w (asks_of (heard_well (map_list (λ h. h.said) heard))))
      × (lines_text of_whole n w heard ≡ lines_text of_whole n w (heard_well (map_list (λ h. h.said) heard)))
  all_well [] w reached idle all = (refl, refl)
  all_well (h ∷ heard) w reached idle all =
      let first = line_well w h.said h.lucks (asks_of heard) reached idle all in
      let next = all_answered of_whole n w (asks_by h.said h.lucks) in
      let later = all_well heard next first.reached first.idle first.later in
      let well = heard_well (map_list (λ h. h.said) heard) in (
        all_answered-append of_whole n w (asks_by h.said h.lucks) (asks_of heard)
            ∙ later.0
            ∙ ap (λ x. all_answered of_whole n x (asks_of well)) first.after
            ∙ sym (all_answered-append of_whole n w (asks_by h.said []) (asks_of well)),
        (λ i. first.text i ++ (later.1 ∙ ap (λ x. lines_text of_whole n x well) first.after) i),
      )

pub lines_certain : LinesCertain
lines_certain logic n lines old new text p =
    let by = whole_stepper logic in
    let a = p.answers in
    let tried : AllWell (done_by (whole_step logic) old.whole (all_steps by n old.whole (asks_of a.heard))) = (AllWell-split old.journal _ (subst AllWell a.tries.journal p.well)).1 in
    let same = all_well logic old.setup n a.heard old.whole (old.journal, p.leads) p.idle tried in
    let well = heard_well (said_lines lines) in
    let said : heard_well (map_list (λ h. h.said) a.heard) ≡ well = ap heard_well a.said in (
      a.text_is ∙ same.1 ∙ ap (lines_text by n old.whole) said,
      λ tenant.
          ap (shown_to tenant) (a.tries.whole ∙ run_all by n old.whole (asks_of a.heard) ∙ same.0 ∙ ap (λ heard. all_answered by n old.whole (asks_of heard)) said)
          ∙ tenants_apart logic old.setup old.journal old.whole n tenant (asks_of well) p.leads,
    )

pub lines_alone : LinesAlone
lines_alone logic n tenant lines others old new before after text other here there start same =
    (lines_certain logic n lines old new text here).1 tenant
    ∙ (λ i. all_answered (machine_stepper logic) n (start i) (same i))
    ∙ sym ((lines_certain logic n others before after other there).1 tenant)
