-- The note of the latest grain, beside the others.
use Rattle.std.proofs.Common.{◌≡◌, ℕ, Bool, true, false, cond, List, [], ◌∷◌, ◌++◌, Option, Some, None, refl, ap, sym, ◌∙◌, subst, true≢false}
use Rattle.std.proofs.lemmas.List.{append-nil}
use Rattle.std.specs.Prelude.{IfSome, ◌||◌}
use Rattle.std.specs.FinMap as map
use Rattle.finite_maps.proofs.Choices.{cond-apart}
use Rattle.finite_maps.proofs.Entries.{get-remove_key}
use Rattle.finite_maps.proofs.Maps as maps
use Rattle.grain_id.proofs.Keys.{grains}
use Rattle.grain_id.specs.Names.{Grain, grain_eq}
use Rattle.grain_id.proofs.Order.{grain_cmp_total, grain_cmp_exact, grain_eq_decides}
use Rattle.idle_collector.specs.declared.latest.Latest.{Latest}
use Rattle.idle_collector.specs.declared.latest.Latest.TheVariants.{Nobody, Left, Expected, Noted}
use Rattle.idle_collector.specs.inside.Aside.{is_of, left, with_latest, expected_of, held_with, IsApart, due_of}
use Rattle.idle_collector.specs.Notes.{Notes, Collection, noted, forgotten, HoldsDue}
use Rattle.idle_collector.proofs.Due.{get-noted, due-behind}
use Rattle.std.specs.List.{IsDistinct}

-- ---- a note that is dropped

-- the latest one
pub latest-forgotten : (latest : Latest) (n : Notes) (id : Grain) → IsApart latest n → is_of id latest ≡ true
    → held_with (left latest) n ≡ record { notes = forgotten (with_latest latest n) id; expected = expected_of latest }
latest-forgotten Nobody n id apart e = absurd (true≢false (sym e))
latest-forgotten (Left other) n id apart e = absurd (true≢false (sym e))
latest-forgotten (Expected other) n id apart e = absurd (true≢false (sym e))
latest-forgotten (Noted other moment) n id apart e =
    let same = sym (maps.taken_back grain_cmp_total grain_cmp_exact n other moment apart) ∙ ap (forgotten (noted n other moment)) ((grain_eq_decides other id).0 e) in
    ap (held_with Nobody) same

none_either : (b : Bool) → ◌≡◌ {A = Option ℕ} (cond b None None) None
none_either true = refl
none_either false = refl

pub apart-forgotten : (latest : Latest) (n : Notes) (id : Grain) → IsApart latest n → IsApart latest (forgotten n id)
apart-forgotten Nobody n id apart = tt
apart-forgotten (Left other) n id apart = tt
apart-forgotten (Expected other) n id apart = tt
apart-forgotten (Noted other moment) n id apart = get-remove_key grains n id other ∙ ap (cond (grain_eq id other) None) apart ∙ none_either (grain_eq id other)

-- another one
others-forgotten : (latest : Latest) (n : Notes) (id : Grain) → is_of id latest ≡ false → with_latest latest (forgotten n id) ≡ forgotten (with_latest latest n) id
others-forgotten Nobody n id e = refl
others-forgotten (Left other) n id e = refl
others-forgotten (Expected other) n id e = refl
others-forgotten (Noted other moment) n id e = maps.alike grain_cmp_total grain_cmp_exact _ _ (λ q.
    get-noted (forgotten n id) other moment q
    ∙ ap (cond (grain_eq other q) (Some moment)) (get-remove_key grains n id q)
    ∙ cond-apart (grain_eq other q) (grain_eq id q) (Some moment) None (map.get n q)
    (λ a b. true≢false (sym ((grain_eq_decides other id).1 ((grain_eq_decides other q).0 a ∙ sym ((grain_eq_decides id q).0 b))) ∙ e))
    ∙ ap (cond (grain_eq id q) None) (sym (get-noted n other moment q))
    ∙ sym (get-remove_key grains (noted n other moment) id q))

pub latest-stays : (latest : Latest) (n m : Notes) (id : Grain) → is_of id latest ≡ false → m ≡ forgotten n id → held_with latest m ≡ record { notes = forgotten (with_latest latest n) id; expected = expected_of latest }
latest-stays latest n m id e same = ap (held_with latest) same ∙ ap (λ notes. record { notes = notes; expected = expected_of latest }) (others-forgotten latest n id e)

-- another one is filed with the moment with which it is noted
pub filed_at : (latest : Latest) (n : Notes) (id : Grain) (moment : ℕ) → is_of id latest ≡ false → IfSome (map.get (with_latest latest n) id) (λ noted. noted ≡ moment) → IfSome (map.get n id) (λ noted. noted ≡ moment)
filed_at Nobody n id moment e own = own
filed_at (Left other) n id moment e own = own
filed_at (Expected other) n id moment e own = own
filed_at (Noted other last) n id moment e own = subst (λ o. IfSome o (λ noted. noted ≡ moment)) (get-noted n other last id ∙ ap (λ b. cond b (Some last) (map.get n id)) e) own

-- ---- what is due

pub latest-due : (latest : Latest) (n : Notes) (now : ℕ) (held : List Grain) → IsApart latest n → HoldsDue n now held → HoldsDue (with_latest latest n) now (held ++ due_of now latest)
unfolding IsDistinct
latest-due Nobody n now held apart holds = subst (HoldsDue n now) (sym (append-nil held)) holds
latest-due (Left id) n now held apart holds = subst (HoldsDue n now) (sym (append-nil held)) holds
latest-due (Expected id) n now held apart holds = subst (HoldsDue n now) (sym (append-nil held)) holds
latest-due (Noted id moment) n now held apart holds = due-behind n (id ∷ []) moment now held (λ q here. by q (grain_eq q id) refl here) (tt, tt) holds
  where
    by : (q : Grain) (b : Bool) → grain_eq q id ≡ b → b || false ≡ true → map.get n q ≡ None
    by q true same here = ap (map.get n) ((grain_eq_decides q id).0 same) ∙ apart
    by q false same here = absurd (true≢false (sym here))

-- ---- a grain that is expected, and whose note was dropped

pub expected_then_forgotten : (old mid new : Collection) (id : Grain) → mid ≡ record old { expected = Some id } → new ≡ record mid { notes = forgotten mid.notes id }
    → new ≡ record { notes = forgotten old.notes id; expected = Some id }
expected_then_forgotten old mid new id m n = n ∙ ap (λ (held : Collection). record held { notes = forgotten held.notes id }) m
