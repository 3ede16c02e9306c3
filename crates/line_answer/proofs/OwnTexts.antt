-- What is written for the lines of one tenant, among those of many that are answered at once.
use Rattle.std.proofs.Common.{◌≡◌, ℕ, Bool, true, false, cond, List, [], ◌∷◌, ◌++◌, length, drop, Option, Some, None, unwrap_or, refl, sym, ap, ap₂, ◌∙◌, subst, append_assoc}
use Rattle.std.specs.Prelude.{map as map_list}
use Rattle.std.proofs.lemmas.List.{append-nil}
use Rattle.std.proofs.Math.Seq.{drop-append_seam}
use Rattle.silo_event.specs.Owner.{owner_of}
use Rattle.silo_event.specs.declared.reply.Reply.{Reply}
use Rattle.silo_event.specs.declared.reply.Party.TheVariants as party
use Rattle.silo_event.specs.declared.step.Step.{Step}
use Rattle.silo_event.specs.declared.step.Step.TheVariants.{Call, Tick, Sweep}
use Rattle.silo_model.proofs.Common.{AllByRecursion, Grain, Logic, Machine, Setup, Whole, concerns, concerns_by, machine_step, none-some, same_text_decides, shown_to, whole_run, whole_step}
use Rattle.silo_model.proofs.Contexts.{same_text-itself}
use Rattle.silo_model.proofs.EffectKinds.{role_of}
use Rattle.silo_model.proofs.Isolation.{place_in}
use Rattle.silo_model.proofs.Journals.{journals_grow, not_now, own_part}
use Rattle.silo_model.proofs.Tests.{on_found}
use Rattle.silo_core.proofs.Steps.{done_parts}
use Rattle.finite_maps.proofs.Lists.{all_append}
use Rattle.line_parser.specs.declared.line.Line.{Line}
use Rattle.line_parser.specs.declared.line.Line.TheVariants as line
use Rattle.line_text.specs.LineTexts.{line_concerns, texts_of, texts_to}
use Rattle.answer_model.specs.Answering.{Asked, Luck, Stepper, all_answered, answered, answering, bringing, called_grain, deliveries_of, first_luck, is_asked, later_luck, machine_stepper, taken, taken_by, whole_stepper, delivered_bytes}
use Rattle.answer_model.specs.Apart.{asked_by}
use Rattle.answer_model.proofs.Apart.{asked_done, owner_failed, taken_call, tenants_apart}
use Rattle.answer_model.proofs.Owned.{AllOwned}
use Rattle.answer_model.proofs.Reached.{IsReached, run_reached}
use Rattle.answer_model.proofs.Served.{IsOwnIfAccepted, own_if_accepted, same_bringing, same_deliveries}
use Rattle.line_answer.specs.Texts.{Heard, asked_if, asks_by, asked_text, heard_to, line_text, line_texts, step_text, text_if}

module _ (logic : Logic) (setup : Setup) (n : ℕ) (tenant : List ℕ) where
  abbrev of_whole : Stepper Whole
  of_whole = whole_stepper logic

  abbrev of_machine : Stepper Machine
  of_machine = machine_stepper logic

  abbrev AllConcern : List Step → Type 0
  AllConcern steps = AllByRecursion (λ s. concerns tenant s ≡ true) steps

  -- ---- the replies that steps add

  -- they stand last among all, and last among those of a tenant that the steps concern
  adds : (steps : List Step) (w : Whole) → IsReached logic setup w → AllConcern steps
      → (added : List Reply) × ((whole_run logic w steps).replies ≡ w.replies ++ added)
      × ((shown_to tenant (whole_run logic w steps)).replies ≡ (shown_to tenant w).replies ++ added)
  adds [] w reached own = ([], sym (append-nil w.replies), sym (append-nil (shown_to tenant w).replies))
  adds (s ∷ steps) w reached own =
      on_found
      (λ r. (added : List Reply) × ((whole_run logic (unwrap_or r w) steps).replies ≡ w.replies ++ added)
      × ((shown_to tenant (whole_run logic (unwrap_or r w) steps)).replies ≡ (shown_to tenant w).replies ++ added))
      (whole_step logic w s) (λ _. adds steps w reached own.1)
      (λ after e.
      let parts = done_parts logic setup reached.0 w after s reached.1 e in
      let rest = adds steps after (reached.0 ++ s ∷ [], journals_grow logic setup reached.0 w after s reached.1 e) own.1 in (
        parts.added ++ rest.0,
        rest.1 ∙ ap (λ rs. rs ++ rest.0) parts.replies ∙ append_assoc w.replies parts.added rest.0,
        rest.2 ∙ ap (λ rs. rs ++ rest.0) (parts.own_replies tenant own.0) ∙ append_assoc (shown_to tenant w).replies parts.added rest.0,
      ))

  -- ---- the steps by which what concerns the tenant is answered

  concern_owned : (steps : List Step) → AllOwned tenant steps → AllConcern steps
  concern_owned [] own = tt
  concern_owned (s ∷ steps) own = (ap (concerns_by tenant) own.0 ∙ same_text-itself tenant, concern_owned steps own.1)

  module _ (w : Whole) (reached : IsReached logic setup w) where
    -- a call that is accepted is of a grain of its own tenant
    call_own : (s : Step) (luck : Luck) (is : owner_of (taken_by luck.asking_failed s) ≡ Some tenant)
        → IsOwnIfAccepted logic setup tenant w (taken_by luck.asking_failed s) luck reached is (called_grain s)
    call_own (Call caller id grain message) luck is =
        let same = taken_call luck.asking_failed caller id grain message in
        own_if_accepted logic setup tenant w (taken_by luck.asking_failed (Call caller id grain message)) luck reached is (party.Client caller id) (Some grain)
        (ap role_of same) (ap (place_in w tenant) same) (asked_done logic w luck.asking_failed (Call caller id grain message) (caller, id) refl)
    call_own _ luck is = λ (g : Grain) at accepted. absurd (none-some g at)

    all_owned : (asked : Asked) → owner_of asked.step ≡ Some tenant → AllOwned tenant (answering of_whole n w asked)
    all_owned asked own =
        let luck = first_luck asked.lucks in
        let is = owner_failed luck.asking_failed asked.step ∙ own in
        let steps = bringing of_whole w (taken asked) (called_grain asked.step) luck in
        let next = whole_run logic w steps in
        let rest = same_deliveries logic setup tenant n delivered_bytes next (later_luck asked.lucks) (run_reached logic setup steps w reached) in
        all_append (λ s. owner_of s ≡ Some tenant) steps (deliveries_of of_whole n next (owner_of asked.step) (later_luck asked.lucks))
        (same_bringing logic setup tenant w (taken asked) luck reached is (called_grain asked.step) (call_own asked.step luck is)).1
        (subst (λ o. AllOwned tenant (deliveries_of of_whole n next o (later_luck asked.lucks))) (sym own) rest.1)

    nobodys_concern : (s : Step) (lucks : List Luck) → owner_of s ≡ None → AllConcern (answering of_whole n w (record { step = s; lucks = lucks }))
    nobodys_concern (Tick now) lucks is = (ap (concerns_by tenant) (owner_failed (first_luck lucks).asking_failed (Tick now)), tt)
    nobodys_concern Sweep lucks is = (ap (concerns_by tenant) (owner_failed (first_luck lucks).asking_failed Sweep), tt)
    nobodys_concern _ lucks is = absurd (let e = is in cc)

    all_concern : (s : Step) (lucks : List Luck) → concerns tenant s ≡ true → AllConcern (answering of_whole n w (record { step = s; lucks = lucks }))
    all_concern s lucks =
        on_found (λ o. concerns_by tenant o ≡ true → AllConcern (answering of_whole n w (record { step = s; lucks = lucks }))) (owner_of s)
        (λ none _. nobodys_concern s lucks none)
        (λ owner is concerned.
        concern_owned (answering of_whole n w (record { step = s; lucks = lucks }))
        (all_owned (record { step = s; lucks = lucks }) (is ∙ ap Some ((same_text_decides owner tenant).0 concerned))))

    -- ---- one line

    possible_alike : (s : Step) (text : List ℕ) → concerns tenant s ≡ true → text_if (whole_step logic w s) text ≡ text_if (machine_step logic (shown_to tenant w) s) text
    possible_alike s text concerned =
        on_found (λ (r : Option Whole). text_if r text ≡ text_if (machine_step logic (shown_to tenant w) s) text) (whole_step logic w s)
        (λ none. sym (ap (λ (r : Option Machine). text_if r text) (not_now logic w s tenant concerned none)))
        (λ after e. sym (ap (λ (r : Option Machine). text_if r text) (own_part logic setup reached.0 w after s tenant reached.1 concerned e)))

    asked_alike : (s : Step) (lucks : List Luck) → concerns tenant s ≡ true
        → asked_text of_whole n w (record { step = s; lucks = lucks }) ≡ asked_text of_machine n (shown_to tenant w) (record { step = s; lucks = lucks })
    asked_alike s lucks concerned =
        let one : Asked = record { step = s; lucks = lucks } in
        let m : Machine = shown_to tenant w in
        let after = answered of_whole n w one in
        let its = answered of_machine n m one in
        let added = adds (answering of_whole n w one) w reached (all_concern s lucks concerned) in
        let shown : shown_to tenant after ≡ its =
        tenants_apart logic setup reached.0 w n tenant (one ∷ []) reached.1
        ∙ ap (λ b. all_answered of_machine n m (cond b (one ∷ []) [])) concerned in
        let same : drop (length w.replies) after.replies ≡ drop (length m.replies) its.replies =
        ap (drop (length w.replies)) added.1 ∙ drop-append_seam w.replies added.0
        ∙ sym (ap (drop (length m.replies)) (ap (λ (k : Machine). k.replies) (sym shown) ∙ added.2) ∙ drop-append_seam m.replies added.0) in
        ap (λ rs. text_if (whole_step logic w (taken one)) (texts_of rs)) same
        ∙ possible_alike (taken one) (texts_of (drop (length m.replies) its.replies)) (ap (concerns_by tenant) (owner_failed (first_luck lucks).asking_failed s) ∙ concerned)

    line_alike : (said : Line) (lucks : List Luck) → line_concerns tenant said ≡ true → line_text of_whole n w said lucks ≡ line_text of_machine n (shown_to tenant w) said lucks
    line_alike line.Nothing lucks concerned = refl
    line_alike (line.Refusal r) lucks concerned = refl
    line_alike (line.Step s) lucks concerned = if_asked (is_asked s)
      where
        if_asked : (b : Bool) → step_text of_whole n b w s lucks ≡ step_text of_machine n b (shown_to tenant w) s lucks
        if_asked true = asked_alike s lucks concerned
        if_asked false = refl

    shown_behind : (said : Line) (lucks : List Luck) (b : Bool) → line_concerns tenant said ≡ b
        → shown_to tenant (all_answered of_whole n w (asks_by said lucks)) ≡ cond b (all_answered of_machine n (shown_to tenant w) (asks_by said lucks)) (shown_to tenant w)
    shown_behind line.Nothing lucks b is = ap (λ c. cond c (shown_to tenant w) (shown_to tenant w)) is
    shown_behind (line.Refusal r) lucks b is = ap (λ c. cond c (shown_to tenant w) (shown_to tenant w)) is
    shown_behind (line.Step s) lucks b is = tenants_apart logic setup reached.0 w n tenant (asks_by (line.Step s) lucks) reached.1 ∙ if_asked (is_asked s)
      where
        m : Machine
        m = shown_to tenant w

        one : Asked
        one = record { step = s; lucks = lucks }

        either : (b : Bool) (asks : List Asked) → all_answered of_machine n m (cond b asks []) ≡ cond b (all_answered of_machine n m asks) m
        either true asks = refl
        either false asks = refl

        same : (b : Bool) → m ≡ cond b m m
        same true = refl
        same false = refl

        if_asked : (a : Bool) → all_answered of_machine n m (asked_by tenant (asked_if a s lucks)) ≡ cond b (all_answered of_machine n m (asked_if a s lucks)) m
        if_asked true = ap (λ c. all_answered of_machine n m (cond c (one ∷ []) [])) is ∙ either b (one ∷ [])
        if_asked false = same b

  -- ---- all lines

  all_reached : (asks : List Asked) (w : Whole) → IsReached logic setup w → IsReached logic setup (all_answered of_whole n w asks)
  all_reached [] w reached = reached
  all_reached (asked ∷ asks) w reached = all_reached asks (answered of_whole n w asked) (run_reached logic setup (answering of_whole n w asked) w reached)

  pub own_texts : (heard : List Heard) (w : Whole) → IsReached logic setup w
      → texts_to tenant (map_list (λ h. h.said) heard) (line_texts of_whole n w heard) ≡ line_texts of_machine n (shown_to tenant w) (heard_to tenant heard)
  own_texts [] w reached = refl
  own_texts (h ∷ heard) w reached =
      by_concern (line_concerns tenant h.said) refl (own_texts heard next (all_reached (asks_by h.said h.lucks) w reached))
    where
      next : Whole
      next = all_answered of_whole n w (asks_by h.said h.lucks)

      text : List ℕ
      text = line_text of_whole n w h.said h.lucks

      texts : List (List ℕ)
      texts = texts_to tenant (map_list (λ x. x.said) heard) (line_texts of_whole n next heard)

      own : List Heard
      own = heard_to tenant heard

      written : Machine → List (List ℕ)
      written m = line_texts of_machine n m own

      by_concern : (b : Bool) → line_concerns tenant h.said ≡ b → texts ≡ written (shown_to tenant next)
          → cond b (text ∷ texts) texts ≡ line_texts of_machine n (shown_to tenant w) (cond b (h ∷ own) own)
      by_concern true is rest =
          ap₂ (λ (t : List ℕ) (ts : List (List ℕ)). t ∷ ts) (line_alike w reached h.said h.lucks is) (rest ∙ ap written (shown_behind w reached h.said h.lucks true is))
      by_concern false is rest = rest ∙ ap written (shown_behind w reached h.said h.lucks false is)
