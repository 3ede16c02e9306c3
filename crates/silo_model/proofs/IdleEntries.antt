-- Which entries a sweep takes.
use Rattle.silo_model.proofs.Common.{◌&&◌, ◌<◌, ◌==◌, ◌∙◌, ◌≡◌, ◌≤◌, Bool, Entry, Grain, IsIdle, None, Option, Phase, Some, Whole, []}
use Rattle.silo_model.proofs.Common.{and_from, and_parts, ap, arith, cond, due_moment, eq-eqb, false, is_idle, is_kept, is_ready}
use Rattle.silo_model.proofs.Common.{kept_entries, kind_age, length, nat_le, not, ready, refl, sym, true, true≢false, whole_swept, ℕ}
use Rattle.std.specs.FinMap as map
use Rattle.std.proofs.lemmas.Bool.{le-leb, leb-true}
use Rattle.silo_model.specs.Idle.{is_due}
use Rattle.silo_model.specs.Collected.{IdleGoes}
use Rattle.silo_model.proofs.SharedSteps.{get-kept}
use Rattle.silo_model.proofs.ClockSteps.{sweep_is}
use Rattle.silo_model.proofs.Leaving.{idle_parts}

-- ---- one entry

pub idle_is : (e : Entry) → IsIdle e → is_idle e ≡ true
idle_is e idle = λ i. is_ready (idle.phase i) && (length (idle.nothing_waits i) == 0) && eq-eqb (map.len e.turns) 0 idle.none_open i

pub idle_from : (e : Entry) → is_idle e ≡ true → IsIdle e
idle_from e idle = by_phase e.phase refl parts.0
  where
    parts : (is_ready e.phase ≡ true) × (e.queue ≡ []) × (map.len e.turns ≡ 0)
    parts = idle_parts e idle

    by_phase : (p : Phase) → e.phase ≡ p → is_ready p ≡ true → IsIdle e
    by_phase (ready state version) is h = record { state = state; version = version; phase = is; nothing_waits = parts.1; none_open = parts.2 }
    by_phase _ is h = absurd (true≢false (sym h))

module _ (clock age : ℕ) (e : Entry) where
  idle_is_due : IsIdle e → due_moment age e ≤ clock → is_due clock age e ≡ true
  idle_is_due idle come = and_from (is_idle e) (nat_le (due_moment age e) clock) (idle_is e idle) (le-leb (due_moment age e) clock come)

  due_is_idle : is_due clock age e ≡ true → IsIdle e × (due_moment age e ≤ clock)
  due_is_idle due =
      let both = and_parts (is_idle e) (nat_le (due_moment age e) clock) due in
      (idle_from e both.0, leb-true (due_moment age e) clock both.1)

-- ---- the sweep

module _ (w : Whole) (g : Grain) (e : Entry) (found : map.get w.entries g ≡ Some e) where
  abbrev age : ℕ
  age = kind_age w.ages w.age g.kind

  abbrev left : Option Entry
  left = map.get (kept_entries w.clock (kind_age w.ages w.age) w.entries) g

  left_by : (due : Bool) → is_due w.clock age e ≡ due → left ≡ cond (not due) (Some e) None
  left_by due is = get-kept w.clock (kind_age w.ages w.age) w.entries g ∙ ap (λ o. cond (is_kept w.clock age o) o None) found ∙ ap (λ b. cond (not b) (Some e) None) is

  pub due_goes : IsIdle e → due_moment age e ≤ w.clock → left ≡ None
  due_goes idle come = left_by true (idle_is_due w.clock age e idle come)

  stays_by : (IsIdle e → w.clock < due_moment age e) → (due : Bool) → is_due w.clock age e ≡ due → left ≡ Some e
  stays_by later true is =
      let both = due_is_idle w.clock age e is in
      absurd (never (later both.0) both.1)
    where
      never : w.clock < due_moment age e → due_moment age e ≤ w.clock → ⊥
      never a b = omega arith
  stays_by later false is = left_by false is

  pub used_stays : (IsIdle e → w.clock < due_moment age e) → left ≡ Some e
  used_stays later = stays_by later (is_due w.clock age e) refl

pub idle_goes : IdleGoes
idle_goes logic w = (
  whole_swept w,
  sweep_is logic w,
  record { goes = due_goes w; stays = used_stays w; rows = refl },
)
