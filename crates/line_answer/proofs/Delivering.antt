-- Deliveries of what a tenant's grains sent, one after another.
use Rattle.std.proofs.Common.{◌≡◌, ℕ, zero, suc, ◌+◌, ◌-◌, ◌&&◌, Bool, true, false, List, [], ◌∷◌, ◌++◌, Option, Some, None, refl, ap, sym, ◌∙◌, subst, arith, append_assoc}
use Rattle.std.specs.FinMap as map
use Rattle.std.proofs.lemmas.List.{append-nil}
use Rattle.std.proofs.lemmas.Option.{none-some}
use Rattle.grain_id.specs.Names.{Grain}
use Rattle.silo_event.specs.declared.step.Step.{Step}
use Rattle.silo_event.specs.declared.step.Step.TheVariants.{Deliver}
use Rattle.grain_logic.specs.Logic.{Logic}
use Rattle.silo_model.specs.Machine.{Send}
use Rattle.silo_model.specs.Pending.{sends_of}
use Rattle.silo_model.specs.Whole.{Whole}
use Rattle.silo_model.specs.Run.{whole_run}
use Rattle.tenant_accounts.specs.Sends.{first_source}
use Rattle.silo_core.specs.History.{History}
use Rattle.answer_model.specs.Answering.{Luck, Stepper, whole_stepper, bringing, delivering, deliveries, good, given_up_if, all_have_memory, delivered_bytes, oldest_bytes}
use Rattle.line_answer.specs.Delivering.{Delivers, HasDelivered, IsOldest}
use Rattle.line_answer.specs.Trying.{Tries, Brings}
use Rattle.line_answer.specs.declared.bringing.OldestCall.{OldestCall}
use Rattle.line_answer.proofs.Trying.{last_has, plain, tries_none, tries_on}

none_by : (sends : List Send) → first_source sends ≡ None → sends ≡ []
none_by [] is = refl
none_by (oldest ∷ others) is = absurd (none-some oldest.source (sym is))

module _ (logic : Logic) (old new : History) (tenant : List ℕ) where
  pub delivered : (found : OldestCall) (done memory : Bool) → IsOldest (sends_of (map.get old.whole.accounts tenant)) (Some found)
      → Brings logic old (Deliver found.source) (Some found.target) found.gives_up done memory new → Delivers logic old tenant found.bytes memory new
  delivered found done memory (oldest, others, is, of) brings =
      let by = whole_stepper logic in
      let luck = brings.0 in (
        luck,
        subst (λ sends. Tries logic old (delivering by old.whole sends luck) new) (sym is)
            (subst (λ b. Tries logic old (bringing by old.whole (Deliver oldest.source) (Some oldest.message.target) (given_up_if b luck)) new) (sym of.gives_up)
            (subst (λ (g : Grain). Tries logic old (bringing by old.whole (Deliver g) (Some oldest.message.target) (given_up_if found.gives_up luck)) new) (sym of.source)
            (subst (λ (g : Grain). Tries logic old (bringing by old.whole (Deliver found.source) (Some g) (given_up_if found.gives_up luck)) new) (sym of.target)
            (subst (λ s. Tries logic old (bringing by old.whole s (Some found.target) (given_up_if found.gives_up luck)) new)
            (plain luck.asking_failed (Deliver found.source) refl) brings.1)))),
        ap oldest_bytes is ∙ of.bytes,
        brings.3,
      )

-- so many deliveries are left, and room for so many bytes
pub record Goes (logic : Logic) (n : ℕ) (tenant : List ℕ) (old : History) (left room : ℕ) (memory : Bool) (now : History) : Type 0 where
  pub done : List Step
  pub lucks : List Luck
  pub tries : Tries logic old done now
  pub rest : (more : List Luck) → deliveries (whole_stepper logic) n delivered_bytes old.whole tenant (lucks ++ more)
      ≡ done ++ deliveries (whole_stepper logic) left room now.whole tenant more
  pub kept : memory ≡ true → all_have_memory lucks ≡ true

module _ (logic : Logic) (n : ℕ) (tenant : List ℕ) (old : History) where
  abbrev by : Stepper Whole
  by = whole_stepper logic

  goes_none : Goes logic n tenant old n delivered_bytes true old
  goes_none = record { done = []; lucks = []; tries = tries_none logic old; rest = λ more. refl; kept = λ _. refl }

  pub goes_start : (left room : ℕ) → n ≡ left → delivered_bytes ≡ room → Goes logic n tenant old left room true old
  goes_start left room is there = subst (λ k. Goes logic n tenant old k room true old) is (subst (λ k. Goes logic n tenant old n k true old) there goes_none)

  -- the next of them is delivered, if there is room
  next_is : (left room bytes : ℕ) (w : Whole) (luck : Luck) (more : List Luck) → (room ≡ 0 → ⊥) → oldest_bytes (sends_of (map.get w.accounts tenant)) ≡ bytes
      → deliveries by (suc left) room w tenant (luck ∷ more)
      ≡ delivering by w (sends_of (map.get w.accounts tenant)) luck
      ++ deliveries by left (room - bytes) (whole_run logic w (delivering by w (sends_of (map.get w.accounts tenant)) luck)) tenant more
  next_is left zero bytes w luck more some is = absurd (some refl)
  next_is left (suc room) bytes w luck more some is =
      let steps = delivering by w (sends_of (map.get w.accounts tenant)) luck in
      ap (λ b. steps ++ deliveries by left (suc room - b) (whole_run logic w steps) tenant more) is

  goes_on : (left room bytes : ℕ) (memory had : Bool) (mid new : History) → (room ≡ 0 → ⊥) → Goes logic n tenant old (suc left) room memory mid
      → Delivers logic mid tenant bytes had new → Goes logic n tenant old left (room - bytes) (had && memory) new
  goes_on left room bytes memory had mid new some p (luck, tries, is, all) =
      let steps = delivering by mid.whole (sends_of (map.get mid.whole.accounts tenant)) luck in
      record {
        done = p.done ++ steps;
        lucks = p.lucks ++ luck ∷ [];
        tries = tries_on logic old mid new p.done steps p.tries tries;
        rest = λ more.
            ap (λ lucks. deliveries by n delivered_bytes old.whole tenant lucks) (append_assoc p.lucks (luck ∷ []) more)
            ∙ p.rest (luck ∷ more)
            ∙ ap (λ next. p.done ++ next) (next_is left room bytes mid.whole luck more some is)
            ∙ ap (λ w. p.done ++ (steps ++ deliveries by left (room - bytes) w tenant more)) (sym tries.whole)
            ∙ sym (append_assoc p.done steps (deliveries by left (room - bytes) new.whole tenant more));
        kept = last_has p.lucks luck had memory all p.kept;
      }

  pub goes_more : (left next room after bytes : ℕ) (memory had now : Bool) (mid new : History) → left ≡ next + 1 → after ≡ room - bytes → now ≡ (had && memory)
      → (room ≡ 0 → ⊥) → Goes logic n tenant old left room memory mid → Delivers logic mid tenant bytes had new → Goes logic n tenant old next after now new
  goes_more left next room after bytes memory had now mid new is rest both some p delivers =
      subst (λ k. Goes logic n tenant old next k now new) (sym rest)
      (subst (λ b. Goes logic n tenant old next (room - bytes) b new) (sym both)
      (goes_on next room bytes memory had mid new some (subst (λ k. Goes logic n tenant old k room memory mid) (is ∙ more_is next) p) delivers))
    where
      more_is : (k : ℕ) → k + 1 ≡ suc k
      more_is k = omega arith

  -- nothing more is delivered where nothing is left, or no room
  no_more : (k room : ℕ) (w : Whole) → sends_of (map.get w.accounts tenant) ≡ [] → deliveries by k room w tenant [] ≡ []
  no_more zero room w none = refl
  no_more (suc k) zero w none = refl
  no_more (suc k) (suc room) w none =
      ap (λ sends. delivering by w sends good ++ deliveries by k (suc room - oldest_bytes sends) (whole_run logic w (delivering by w sends good)) tenant []) none
      ∙ no_more k (suc room - 0) w none

  no_room : (k : ℕ) (w : Whole) → deliveries by k 0 w tenant [] ≡ []
  no_room zero w = refl
  no_room (suc k) w = refl

  ends : (left room : ℕ) (memory : Bool) (new : History) → Goes logic n tenant old left room memory new → deliveries by left room new.whole tenant [] ≡ []
      → HasDelivered logic n tenant old memory new
  ends left room memory new p none = (
    p.lucks,
    subst (λ steps. Tries logic old steps new)
        (sym (ap (λ lucks. deliveries by n delivered_bytes old.whole tenant lucks) (sym (append-nil p.lucks)) ∙ p.rest [] ∙ ap (λ ss. p.done ++ ss) none ∙ append-nil p.done))
        p.tries,
    p.kept,
  )

  pub goes_nowhere : first_source (sends_of (map.get old.whole.accounts tenant)) ≡ None → HasDelivered logic n tenant old true old
  goes_nowhere none = ends n delivered_bytes true old goes_none (no_more n delivered_bytes old.whole (none_by _ none))

  pub goes_out : (left room : ℕ) (memory : Bool) (new : History) → Goes logic n tenant old left room memory new → IsOldest (sends_of (map.get new.whole.accounts tenant)) None
      → HasDelivered logic n tenant old memory new
  goes_out left room memory new p none = ends left room memory new p (no_more left room new.whole none)

  pub goes_full : (left room : ℕ) (memory : Bool) (new : History) → room ≡ 0 → Goes logic n tenant old left room memory new → HasDelivered logic n tenant old memory new
  goes_full left room memory new full p = ends left room memory new p (ap (λ k. deliveries by left k new.whole tenant []) full ∙ no_room left new.whole)

  pub goes_all : (left room : ℕ) (memory : Bool) (new : History) → left ≡ 0 → Goes logic n tenant old left room memory new → HasDelivered logic n tenant old memory new
  goes_all left room memory new none p = ends left room memory new p (ap (λ k. deliveries by k room new.whole tenant []) none)
