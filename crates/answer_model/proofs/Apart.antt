-- What each tenant is shown by an answering silo is what its own machine is.
use Rattle.silo_model.proofs.Common.{◌++◌, ◌∙◌, ◌∷◌, ◌≡◌, Bool, Call, Client, Grain, List, Logic, Machine, None, Poke, Refuse, Setup, Some}
use Rattle.silo_model.proofs.Common.{Status, Step, Sweep, Tick, Whole, [], ap, asking_of, concerns, concerns_by, cond, effect_of, false}
use Rattle.silo_model.proofs.Common.{machine_run, none-some, owner_of, refl, same_text, same_text_decides, shown_to, subst, sym, true}
use Rattle.silo_model.proofs.Common.{true≢false, whole_run, whole_step, ℕ}
use Rattle.request_codec.specs.Call as codec
use Rattle.silo_event.specs.declared.reply.Party.TheVariants as party
use Rattle.silo_model.proofs.EffectKinds.{role_of}
use Rattle.silo_model.proofs.Isolation.{place_in}
use Rattle.silo_model.proofs.Journals.{runs_on}
use Rattle.answer_model.specs.Answering.{Asked, Luck, Stepper, all_answered, answered, answering, bringing, called_grain, delivered_bytes}
use Rattle.answer_model.specs.Answering.{deliveries, deliveries_of, first_luck, later_luck, machine_stepper, taken, taken_by, whole_stepper}
use Rattle.answer_model.specs.Apart.{TenantsApart, asked_by}
use Rattle.answer_model.proofs.Owned.{AllOwned, other_run, own_run}
use Rattle.answer_model.proofs.Reached.{IsReached, run_reached}
use Rattle.answer_model.proofs.Served.{IsOwnIfAccepted, own_if_accepted, same_bringing, same_deliveries}
use Rattle.finite_maps.proofs.Lists.{all_append}
use Rattle.silo_model.proofs.Tests.{on_found, on_test}

pub owner_failed : (b : Bool) (s : Step) → owner_of (taken_by b s) ≡ owner_of s
owner_failed false s = refl
owner_failed true Sweep = refl
owner_failed true _ = refl

pub asking_taken : (b : Bool) (s : Step) → asking_of (taken_by b s) ≡ asking_of s
asking_taken false s = refl
asking_taken true Sweep = refl
asking_taken true _ = refl

pub taken_call : (b : Bool) (caller : Client) (id : ℕ) (g : Grain) (message : codec.Call) → taken_by b (Call caller id g message) ≡ Call caller id g message
taken_call true caller id g message = refl
taken_call false caller id g message = refl

-- what a client asks is always answered in some way
pub always_answered : (logic : Logic) (w : Whole) (s : Step) → whole_step logic w s ≡ None → asking_of s ≡ None
unfolding whole_step effect_of
always_answered logic w (Refuse caller id code) e = absurd (none-some _ (sym e))
always_answered logic w (Call caller id grain message) e = absurd (none-some _ (sym e))
always_answered logic w (Poke failed caller id grain state) e = absurd (none-some _ (sym e))
always_answered logic w (Status caller id) e = absurd (none-some _ (sym e))
always_answered logic w _ e = refl

pub asked_done : (logic : Logic) (w : Whole) (b : Bool) (s : Step) (asking : Client × ℕ) → asking_of s ≡ Some asking
    → whole_step logic w (taken_by b s) ≡ None → ⊥
asked_done logic w b s asking is none =
    none-some asking (sym (sym (asking_taken b s) ∙ always_answered logic w (taken_by b s) none) ∙ is)

module _ (logic : Logic) (setup : Setup) (n : ℕ) where
  abbrev of_whole : Stepper Whole
  of_whole = whole_stepper logic

  abbrev of_machine : Stepper Machine
  of_machine = machine_stepper logic

  module _ (w : Whole) (reached : IsReached logic setup w) (tenant : List ℕ) where
    -- a call that is accepted is of a grain of its own tenant
    call_own : (s : Step) (luck : Luck) (is : owner_of (taken_by luck.asking_failed s) ≡ Some tenant)
        → IsOwnIfAccepted logic setup tenant w (taken_by luck.asking_failed s) luck reached is (called_grain s)
    call_own (Call caller id grain message) luck is =
        let same = taken_call luck.asking_failed caller id grain message in
        own_if_accepted logic setup tenant w (taken_by luck.asking_failed (Call caller id grain message)) luck reached is (party.Client caller id) (Some grain)
        (ap role_of same) (ap (place_in w tenant) same) (asked_done logic w luck.asking_failed (Call caller id grain message) (caller, id) refl)
    call_own _ luck is = λ g at accepted. absurd (none-some g at)

    -- what the tenant asks
    same_answering : (asked : Asked) → owner_of asked.step ≡ Some tenant
        → (answering of_whole n w asked ≡ answering of_machine n (shown_to tenant w) asked) × AllOwned tenant (answering of_whole n w asked)
    same_answering asked own =
        let luck = first_luck asked.lucks in
        let s = taken asked in
        let is : owner_of s ≡ Some tenant = owner_failed luck.asking_failed asked.step ∙ own in
        let grain = called_grain asked.step in
        let steps = bringing of_whole w s grain luck in
        let first = same_bringing logic setup tenant w s luck reached is grain (call_own asked.step luck is) in
        let next = whole_run logic w steps in
        let rest = same_deliveries logic setup tenant n delivered_bytes next (later_luck asked.lucks) (run_reached logic setup steps w reached) in
        let shown : shown_to tenant next ≡ machine_run logic (shown_to tenant w) (bringing of_machine (shown_to tenant w) s grain luck) = own_run logic setup w reached tenant steps first.1 ∙ ap (machine_run logic (shown_to tenant w)) first.0 in (
          ap (λ o. steps ++ deliveries_of of_whole n next o (later_luck asked.lucks)) own
              ∙ (λ i. first.0 i ++ (rest.0 ∙ ap (λ m. deliveries of_machine n delivered_bytes m tenant (later_luck asked.lucks)) shown) i)
              ∙ ap (λ o. bringing of_machine (shown_to tenant w) s grain luck ++ deliveries_of of_machine n (machine_run logic (shown_to tenant w) (bringing of_machine (shown_to tenant w) s grain luck)) o (later_luck asked.lucks)) (sym own),
          all_append (λ s. owner_of s ≡ Some tenant) steps _ first.1 (subst (λ o. AllOwned tenant (deliveries_of of_whole n next o (later_luck asked.lucks))) (sym own) rest.1),
        )

    own_asked : (asked : Asked) → owner_of asked.step ≡ Some tenant → shown_to tenant (answered of_whole n w asked) ≡ answered of_machine n (shown_to tenant w) asked
    own_asked asked own =
        let same = same_answering asked own in
        own_run logic setup w reached tenant (answering of_whole n w asked) same.1 ∙ ap (machine_run logic (shown_to tenant w)) same.0

    -- what nobody asks
    shared : (b : Bool) (s : Step) → owner_of s ≡ None → shown_to tenant (whole_run logic w (taken_by b s ∷ [])) ≡ machine_run logic (shown_to tenant w) (taken_by b s ∷ [])
    shared b s is =
        runs_on logic setup reached.0 w tenant (taken_by b s ∷ []) reached.1
        ∙ ap (λ c. machine_run logic (shown_to tenant w) (cond c (taken_by b s ∷ []) [])) (ap (concerns_by tenant) (owner_failed b s ∙ is))

    shared_asked : (s : Step) (lucks : List Luck) → owner_of s ≡ None
        → shown_to tenant (answered of_whole n w (record { step = s; lucks = lucks })) ≡ answered of_machine n (shown_to tenant w) (record { step = s; lucks = lucks })
    shared_asked (Tick now) lucks is = shared (first_luck lucks).asking_failed (Tick now) refl
    shared_asked Sweep lucks is = shared (first_luck lucks).asking_failed Sweep refl
    shared_asked _ lucks is = absurd (let e = is in cc)

  -- ---- whoever asks

  one_asked : (w : Whole) (tenant : List ℕ) (asked : Asked) → IsReached logic setup w
      → shown_to tenant (answered of_whole n w asked) ≡ cond (concerns tenant asked.step) (answered of_machine n (shown_to tenant w) asked) (shown_to tenant w)
  one_asked w tenant asked reached =
      let m : Machine = shown_to tenant w in
      let So : Bool → Type 0 = λ b. shown_to tenant (answered of_whole n w asked) ≡ cond b (answered of_machine n m asked) m in
      on_found (λ o. So (concerns_by tenant o)) (owner_of asked.step) (shared_asked w reached tenant asked.step asked.lucks)
      (λ owner is.
      on_test So (same_text owner tenant) (λ same. own_asked w reached tenant asked (is ∙ ap Some ((same_text_decides owner tenant).0 same)))
      (λ apart.
      other_run logic setup w reached owner (answering of_whole n w asked) (same_answering w reached owner asked is).1 tenant
      (λ e. true≢false (sym ((same_text_decides owner tenant).1 (sym e)) ∙ apart))))

  all_of_cond : (b : Bool) (m : Machine) (asked : Asked) (rest : List Asked)
      → all_answered of_machine n (cond b (answered of_machine n m asked) m) rest ≡ all_answered of_machine n m (cond b (asked ∷ rest) rest)
  all_of_cond true m asked rest = refl
  all_of_cond false m asked rest = refl

  all_apart : (tenant : List ℕ) (all : List Asked) (w : Whole) → IsReached logic setup w
      → shown_to tenant (all_answered of_whole n w all) ≡ all_answered of_machine n (shown_to tenant w) (asked_by tenant all)
  all_apart tenant [] w reached = refl
  all_apart tenant (asked ∷ others) w reached =
      all_apart tenant others (answered of_whole n w asked) (run_reached logic setup (answering of_whole n w asked) w reached)
      ∙ ap (λ m. all_answered of_machine n m (asked_by tenant others)) (one_asked w tenant asked reached)
      ∙ all_of_cond (concerns tenant asked.step) (shown_to tenant w) asked (asked_by tenant others)

pub tenants_apart : TenantsApart
tenants_apart logic setup journal w n tenant all leads = all_apart logic setup n tenant all w (journal, leads)
