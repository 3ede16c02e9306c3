-- Which steps leave a grain's row, and so that a saved state comes back.
use Rattle.silo_model.proofs.Common.{if◌then◌else◌, ◌∙◌, ◌∷◌, ◌≡◌, ◌⊎◌, Change, Context, Effect, Entry, Err, Grain, List, Load, Logic, None}
use Rattle.silo_model.proofs.Common.{Ok, Option, Row, Rows, Some, Step, Store, Tree, Whole, [], all_done, ap, changed_at, closed}
use Rattle.silo_model.proofs.Common.{content_or, context_at, eq_by_cmp, eq_by_cmp-Decides, false, false_from_ne_true, get-insert_same}
use Rattle.silo_model.proofs.Common.{grain_cmp, grain_cmp_exact, grain_cmp_total, grain_eq, grain_eq_decides, inl, inr, keep, list_any}
use Rattle.silo_model.proofs.Common.{loading, or_parts, put, ready, refl, row_changed, same, same_Some, shown_to, some_from_and_then, spent}
use Rattle.silo_model.proofs.Common.{spread, stale, stored_by, sym, true≢false, version_of, version_value, whole_step, writes_row, ℕ}
use Rattle.std.proofs.Common.{⊎_elim}
use Rattle.std.specs.FinMap as map
use Rattle.grain_storage.specs.Rows.{changed, is_spent, is_stale, next_version}
use Rattle.silo_model.specs.Stores.{next_row}
use Rattle.silo_model.specs.Saved.{IsSaving, SavedComesBack, touches_row}
use Rattle.silo_model.specs.Resting.{ComesBack}
use Rattle.silo_model.proofs.Changes.{get-change_other}
use Rattle.silo_model.proofs.EffectKinds.{Does, Role, closes, pokes}
use Rattle.silo_model.proofs.SharedSteps.{shared_leaves}
use Rattle.silo_model.proofs.Isolation.{by_owner, did_does, place_in}
use Rattle.silo_model.proofs.EntrySteps.{load_loading}
use Rattle.silo_model.proofs.TurnSteps.{seen_at, store_done}

-- ---- effects that leave the row

-- the effect leaves the row, or is at another grain
abbrev Misses : Option Grain → Grain → Effect → Type 0
Misses grain g e = (e.row ≡ keep) ⊎ ((q : Grain) × (grain ≡ Some q) × (grain_eq q g ≡ false))

-- a step that may not change the grain's row leaves it
does_miss : (logic : Logic) (s : Context) (step : Step) (g : Grain) → touches_row g step ≡ false
    → {role : Role} {grain : Option Grain} {e : Effect} → Does logic s step role grain e → Misses grain g e
does_miss logic s step g apart (pokes p q row outcome own touches) = inr (q, refl, sym (touches g) ∙ apart)
does_miss logic s step g apart (closes q turn e request left sends row outcome found open_turn is_left by_sends by_row) =
    ⊎_elim (λ keeps. inl keeps) (λ touches. inr (q, refl, sym (touches g) ∙ apart)) by_row
does_miss logic s step g apart _ = inl refl

-- ---- rows of the whole

another_key : (g q : Grain) → grain_eq q g ≡ false → eq_by_cmp grain_cmp g q ≡ false
another_key g q apart = false_from_ne_true (eq_by_cmp grain_cmp g q)
    (λ tied. true≢false (sym ((grain_eq_decides q g).1 (sym ((eq_by_cmp-Decides grain_cmp_total grain_cmp_exact g q).0 tied))) ∙ apart))

missed_at : (rows : Rows) (grain : Option Grain) (g : Grain) (e : Effect) → Misses grain g e
    → map.get (changed_at rows grain e.row) g ≡ map.get rows g
missed_at rows None g e misses = refl
missed_at rows (Some q) g e (inl keeps) = ap (λ c. map.get (changed_at rows (Some q) c) g) keeps
missed_at rows (Some q) g e (inr other) =
    ap (λ p. map.get (changed_at rows p e.row) g) other.1
    ∙ get-change_other grain_cmp_total grain_cmp_exact rows other.0 g e.row (another_key g other.0 other.2)

-- a step that may not change the grain's row leaves it
pub row_stays : (logic : Logic) (w after : Whole) (s : Step) (g : Grain) → whole_step logic w s ≡ Some after → touches_row g s ≡ false → map.get after.rows g ≡ map.get w.rows g
unfolding spread
row_stays logic w after s g step apart =
    by_owner logic w after s (map.get after.rows g ≡ map.get w.rows g) step
    (λ _ nobodys. ap (λ (r : Rows). map.get r g) (shared_leaves w after s nobodys).rows)
    (λ owner is d.
    let place = place_in w owner s in
    let misses = does_miss logic (context_at (shown_to owner w) place) s g apart (did_does logic w after s owner d) in
    sym (ap (λ (x : Whole). map.get x.rows g) d.leaves) ∙ missed_at w.rows place g d.what misses)

rows_stay : (logic : Logic) (w after : Whole) (steps : List Step) (g : Grain) → all_done logic w steps ≡ Some after → list_any (touches_row g) steps ≡ false → map.get after.rows g ≡ map.get w.rows g
rows_stay logic w after [] g e apart = ap (λ (x : Whole). map.get x.rows g) (sym (same_Some w after e))
rows_stay logic w after (s ∷ steps) g e apart =
    let next = some_from_and_then (λ x. all_done logic x steps) (whole_step logic w s) after e in
    let tests = or_parts (touches_row g s) (list_any (touches_row g) steps) apart in
    rows_stay logic next.0 after steps g next.2 tests.1 ∙ row_stays logic w next.0 s g next.1 tests.0

-- ---- a grain that is loaded

abbrev pub entry_with : Logic → Grain → Entry → Option Row → Entry
entry_with logic g e row = record e { phase = ready (content_or (logic.empty g.kind) row) (version_of row); until = 0; resting = false }

-- it has what its row held, where no step since may have changed the row
pub loads_row : (logic : Logic) (w : Whole) (g : Grain) → ComesBack logic g (map.get w.rows g) w
loads_row logic w g steps later e done apart found is = (
  record later { entries = map.insert later.entries g (entry_with logic g e (map.get later.rows g)) },
  load_loading logic later g e found is,
  get-insert_same grain_cmp_total grain_cmp_exact later.entries g (entry_with logic g e (map.get later.rows g))
      ∙ ap (λ row. Some (entry_with logic g e row)) (rows_stay logic w later steps g done apart),
)

-- ---- the law

may_change : (expected : Option ℕ) (found : Option Row) (done : Option ℕ × Change Row) → is_stale expected found ≡ false → is_spent found ≡ false → changed expected found done ≡ Ok done
may_change expected found done current unspent = λ i. if current i then Err (stale (version_of found)) else if unspent i then Err spent else Ok done

module _ (logic : Logic) (w : Whole) (g : Grain) (turn : ℕ) (state : Tree) (saves : IsSaving logic w g turn state) where
  abbrev new_version : ℕ
  new_version = next_version (map.get w.rows g)

  abbrev new_row : Row
  new_row = next_row (map.get w.rows g) (Some state)

  abbrev answer : Effect
  answer = closed (seen_at w g) saves.entry saves.request state (Some new_version) same (put new_row) (Ok (version_value (Some new_version)))

  answer_is : stored_by logic (seen_at w g) g saves.entry saves.request state saves.version writes_row ≡ Some answer
  answer_is = ap (λ r. Some (row_changed (seen_at w g) g saves.entry saves.request state saves.version state r)) (may_change saves.version (map.get w.rows g) (Some new_version, put new_row) saves.current saves.unspent)

  abbrev saved : Whole
  saved = spread w g.tenant (Some g) answer

  store_is : whole_step logic w (Store g turn false) ≡ Some saved
  store_is = store_done logic w g turn saves.entry saves.found saves.request saves.open_turn state saves.version saves.phase _ refl writes_row answer saves.asks answer_is

  row_is : map.get saved.rows g ≡ Some new_row
  unfolding spread
  row_is = get-insert_same grain_cmp_total grain_cmp_exact w.rows g new_row

  comes_back : (steps : List Step) (later : Whole) (e : Entry) → all_done logic saved steps ≡ Some later → list_any (touches_row g) steps ≡ false → map.get later.entries g ≡ Some e → e.phase ≡ loading
      → (after : Whole) × (whole_step logic later (Load g false) ≡ Some after) × (map.get after.entries g ≡ Some (record e { phase = ready state (Some new_version); until = 0; resting = false }))
  comes_back steps later e done apart found is =
      let loaded = loads_row logic saved g steps later e done apart found is in
      (loaded.0, loaded.1, loaded.2 ∙ ap (λ row. Some (entry_with logic g e row)) row_is)

pub saved_comes_back : SavedComesBack
saved_comes_back logic w g turn state saves = (saved logic w g turn state saves, new_version logic w g turn state saves, store_is logic w g turn state saves, comes_back logic w g turn state saves)
