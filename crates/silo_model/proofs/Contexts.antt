-- What a step's owner sees at its own grain is what the whole has there.
use Rattle.silo_model.proofs.Common.{◌∙◌, ◌≡◌, ◌≢◌, Effect, FinMap, Grain, List, Logic, None, Option, Some, Step, Whole, ap, cond}
use Rattle.silo_model.proofs.Common.{context_at, effect_of, false, false_from_ne_true, get-part, grain_cmp, grain_of, is_of, option_map}
use Rattle.silo_model.proofs.Common.{owner_of, refl, same_text, same_text_decides, shown_to, spread, true, whole_step, ℕ}
use Rattle.std.specs.FinMap as map
pub use Rattle.silo_model.specs.Contexts.{active_of, context_of}
use Rattle.silo_model.specs.Whole.{whole_owned_step, whole_step_by}

pub same_text-itself : (t : List ℕ) → same_text t t ≡ true
same_text-itself t = (same_text_decides t t).1 refl

pub same_text-apart : (s t : List ℕ) → s ≢ t → same_text s t ≡ false
same_text-apart s t apart = false_from_ne_true (same_text s t) (λ e. apart ((same_text_decides s t).0 e))

-- the tenant's part has at its own grain what the whole has
pub get-own : {X : Type 0} (m : FinMap grain_cmp X) (tenant : List ℕ) (g : Grain) → g.tenant ≡ tenant → map.get (map.retain_keys m (is_of tenant)) g ≡ map.get m g
get-own m tenant g own = get-part m (is_of tenant) g ∙ ap (λ b. cond b (map.get m g) None) ((same_text_decides g.tenant tenant).1 own)

-- so of its entry, as its owner sees it, and as it is shown
pub seen_own : (w : Whole) (owner : List ℕ) (g : Grain) → g.tenant ≡ owner → (context_at (shown_to owner w) (Some g)).entry ≡ map.get w.entries g
unfolding context_at shown_to
seen_own w owner g own = get-own w.entries owner g own

pub shown_own : (w : Whole) (owner : List ℕ) (g : Grain) → g.tenant ≡ owner → map.get (shown_to owner w).entries g ≡ map.get w.entries g
unfolding shown_to
shown_own w owner g own = get-own w.entries owner g own

pub own_context : (w : Whole) (tenant : List ℕ) (g : Grain) → g.tenant ≡ tenant → context_at (shown_to tenant w) (Some g) ≡ context_of w tenant g
unfolding context_at shown_to
own_context w tenant g own = λ i. record { tenant = tenant; account = map.get w.accounts tenant; clock = w.clock; active = active_of w tenant; entry = get-own w.entries tenant g own i; row = get-own w.rows tenant g own i }

pub shown_account : (w : Whole) (tenant : List ℕ) → (shown_to tenant w).account ≡ map.get w.accounts tenant
unfolding shown_to
shown_account w tenant = refl

-- a step by what it does where its owner looks
pub step_by_context : (logic : Logic) (w : Whole) (s : Step) (owner : List ℕ) (grain : Option Grain) (e : Option Effect)
    → owner_of s ≡ Some owner → grain_of (map.get w.accounts owner) s ≡ grain → effect_of logic (context_at (shown_to owner w) grain) s ≡ e → whole_step logic w s ≡ option_map (spread w owner grain) e
unfolding whole_step
step_by_context logic w s owner grain e is place does =
    ap (whole_step_by logic w s) is ∙ ap (whole_owned_step logic w s owner) place ∙ ap (λ x. option_map (spread w owner grain) x) does

-- a step at a grain of its owner, by what it does to what the whole has there
pub step_at_own : (logic : Logic) (w : Whole) (s : Step) (owner : List ℕ) (g : Grain) (e : Option Effect)
    → owner_of s ≡ Some owner → grain_of (map.get w.accounts owner) s ≡ Some g → g.tenant ≡ owner → effect_of logic (context_of w owner g) s ≡ e → whole_step logic w s ≡ option_map (spread w owner (Some g)) e
step_at_own logic w s owner g e is place own does = step_by_context logic w s owner (Some g) e is place (ap (λ x. effect_of logic x s) (own_context w owner g own) ∙ does)
