-- The entries that are due go, and no other.
use Rattle.std.proofs.Common.{◌≡◌, ℕ, ◌≤◌, ◌<◌, Bool, true, false, ◌||◌, ◌&&◌, cond, List, [], ◌∷◌, Option, Some, None, refl, ap, sym, ◌∙◌, arith}
use Rattle.std.specs.Prelude.{nat_le, not, option_map}
use Rattle.std.specs.List.{list_any}
use Rattle.std.specs.Ordering.{eq_by_cmp}
use Rattle.std.specs.FinMap as map
use Rattle.std.specs.FinMap.{FinMap}
use Rattle.std.proofs.lemmas.Bool.Decides.{nat_tests}
use Rattle.grain_id.specs.Names.{Grain, grain_cmp}
use Rattle.grain_id.proofs.Order.{grain_cmp_total, grain_cmp_exact, grain_ties, eq_by_cmp-Decides}
use Rattle.grain_id.proofs.ByGrain.{alike, get-part}
use Rattle.activation_directory.specs.declared.activation.Activation.{Activation}
use Rattle.idle_collector.specs.Notes.{Notes, is_due, HoldsDue}
use Rattle.silo_model.specs.Machine.{Entry, Entries}
use Rattle.silo_model.specs.Idle.{is_idle, due_moment, is_kept, kept_entries}
use Rattle.silo_state.specs.Shown.{entry_of, entries_of}
use Rattle.silo_state.specs.inside.Notes.{IsInTime, AreNoted, noted_at}
use Rattle.silo_state.specs.inside.Sweeps.{without_one, without_due}
use Rattle.silo_state.proofs.Shows.{get-entries}

-- what is left of an entry, if it is looked at
abbrev left_of : ℕ → ℕ → Option Entry → Option Entry
left_of clock age o = cond (is_kept clock age o) o None

-- of one that was looked at before the same is left
left_again : (clock age : ℕ) (first again : Bool) (o : Option Entry)
    → cond again (left_of clock age (cond first (left_of clock age o) o)) (cond first (left_of clock age o) o) ≡ cond (first || again) (left_of clock age o) o
left_again clock age false again o = refl
left_again clock age true again o = by (is_kept clock age o) refl again
  where
    by : (kept : Bool) → is_kept clock age o ≡ kept → (again : Bool) → cond again (left_of clock age (cond kept o None)) (cond kept o None) ≡ cond kept o None
    by true is true = ap (λ b. cond b o None) is
    by true is false = refl
    by false is true = refl
    by false is false = refl

module _ (clock : ℕ) (age_of : List ℕ → ℕ) where
  get-one : (entries : Entries) (g q : Grain) → map.get (without_one clock age_of entries g) q ≡ cond (eq_by_cmp grain_cmp q g) (left_of clock (age_of q.kind) (map.get entries q)) (map.get entries q)
  get-one entries g q = by (is_kept clock (age_of g.kind) (map.get entries g)) refl (eq_by_cmp grain_cmp q g) refl
    where
      at_g : eq_by_cmp grain_cmp q g ≡ true → q ≡ g
      at_g tied = (eq_by_cmp-Decides grain_cmp_total grain_cmp_exact q g).0 tied

      by : (kept : Bool) → is_kept clock (age_of g.kind) (map.get entries g) ≡ kept → (tied : Bool) → eq_by_cmp grain_cmp q g ≡ tied
          → map.get (cond kept entries (map.remove entries g)) q ≡ cond tied (left_of clock (age_of q.kind) (map.get entries q)) (map.get entries q)
      by true is true tied = sym (ap (λ b. cond b (map.get entries q) None) (ap (λ (x : Grain). is_kept clock (age_of x.kind) (map.get entries x)) (at_g tied) ∙ is))
      by true is false tied = refl
      by false is true tied = map.get-remove grain_cmp_total entries g q ∙ ap (λ b. cond b None (map.get entries q)) tied
          ∙ sym (ap (λ b. cond b (map.get entries q) None) (ap (λ (x : Grain). is_kept clock (age_of x.kind) (map.get entries x)) (at_g tied) ∙ is))
      by false is false tied = map.get-remove grain_cmp_total entries g q ∙ ap (λ b. cond b None (map.get entries q)) tied

  get-left : (entries : Entries) (grains : List Grain) (q : Grain)
      → map.get (without_due clock age_of entries grains) q ≡ cond (list_any (eq_by_cmp grain_cmp q) grains) (left_of clock (age_of q.kind) (map.get entries q)) (map.get entries q)
  get-left entries [] q = refl
  get-left entries (g ∷ grains) q =
      get-left (without_one clock age_of entries g) grains q
      ∙ ap (λ o. cond (list_any (eq_by_cmp grain_cmp q) grains) (left_of clock (age_of q.kind) o) o) (get-one entries g q)
      ∙ left_again clock (age_of q.kind) (eq_by_cmp grain_cmp q g) (list_any (eq_by_cmp grain_cmp q) grains) (map.get entries q)

-- one whose note's moment hasn't come isn't due
kept_until : (clock age : ℕ) (a : Activation) → IsInTime clock age a → nat_le a.noted clock ≡ false → is_kept clock age (Some (entry_of a)) ≡ true
kept_until clock age a h later = by (is_idle (entry_of a)) refl
  where
    by : (idle : Bool) → is_idle (entry_of a) ≡ idle → not (idle && nat_le (due_moment age (entry_of a)) clock) ≡ true
    by true is =
        let before : a.noted ≤ due_moment age (entry_of a) = h.if_idle is in
        let not_yet : nat_le (due_moment age (entry_of a)) clock ≡ false = grind (arith, nat_tests, before, later) in
        ap not not_yet
    by false is = refl

-- so of each grain what isn't due is left, whether it was looked at or not
left_is : (clock age : ℕ) (found : Option Activation) → ((a : Activation) → found ≡ Some a → IsInTime clock age a) → (o : Option Entry) → o ≡ option_map entry_of found
    → cond (is_due clock (noted_at found)) (left_of clock age o) o ≡ left_of clock age o
left_is clock age None in_time o is = ap (λ (x : Option Entry). cond (is_due clock None) (left_of clock age x) x) is ∙ ap (left_of clock age) (sym is)
left_is clock age (Some a) in_time o is = by (nat_le a.noted clock) refl
  where
    kept : nat_le a.noted clock ≡ false → is_kept clock age o ≡ true
    kept later = ap (is_kept clock age) is ∙ kept_until clock age a (in_time a refl) later

    by : (come : Bool) → nat_le a.noted clock ≡ come → cond come (left_of clock age o) o ≡ left_of clock age o
    by true is_come = refl
    by false is_come = sym (ap (λ b. cond b o None) (kept is_come))

pub due_go : (clock : ℕ) (age_of : List ℕ → ℕ) (m : FinMap grain_cmp Activation) (notes : Notes) (noted : AreNoted clock age_of m notes) (grains : List Grain) → HoldsDue notes clock grains
    → without_due clock age_of (entries_of m) grains ≡ kept_entries clock age_of (entries_of m)
unfolding kept_entries
due_go clock age_of m notes noted grains holds = alike _ _ (λ q.
    let o = map.get (entries_of m) q in
    get-left clock age_of (entries_of m) grains q
    ∙ (λ i. cond (list_any (λ g. sym (grain_ties q g) i) grains) (left_of clock (age_of q.kind) o) o)
    ∙ ap (λ b. cond b (left_of clock (age_of q.kind) o) o) (holds.each q ∙ ap (is_due clock) (noted.notes q))
    ∙ left_is clock (age_of q.kind) (map.get m q) (λ a found. noted.in_time q a found) o (get-entries m q (map.get m q) refl)
    ∙ sym (get-part (entries_of m) (λ grain. is_kept clock (age_of grain.kind) (map.get (entries_of m) grain)) q))
