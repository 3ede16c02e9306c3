-- What a sweep leaves of the entries, and that the marks stay.
use Rattle.silo_model.proofs.Common.{◌∙◌, ◌≡◌, Bool, FinMap, Grain, List, Logic, None, Option, Some, ap, cond, false, get-part, grain_cmp, grain_cmp_exact, grain_cmp_total, if◌then◌else◌, is_kept, kept_entries, not, option_map, refl, sym, true, ℕ}
use Rattle.std.specs.FinMap as map
use Rattle.grain_id.proofs.ByGrain.{alike}
use Rattle.finite_maps.proofs.Mapped.{get-mapped}
use Rattle.activation_directory.specs.declared.activation.Activation.{Activation}
use Rattle.silo_model.specs.Idle.{is_due}
use Rattle.silo_state.specs.Marks.{AllMarked}
use Rattle.silo_state.specs.Shown.{entry_of, entries_of}
use Rattle.tenant_machine.specs.inside.Sweeps.{left_of}

left_entry : (clock age : ℕ) (o : Option Activation) → option_map entry_of (left_of clock age o) ≡ cond (is_kept clock age (option_map entry_of o)) (option_map entry_of o) None
left_entry clock age None = refl
left_entry clock age (Some a) = by (is_due clock age (entry_of a))
  where
    by : (due : Bool) → option_map entry_of (if due then None else Some a) ≡ cond (not due) (Some (entry_of a)) None
    by true = refl
    by false = refl

-- what is left was there
was_there : (clock age : ℕ) (o : Option Activation) (a : Activation) → left_of clock age o ≡ Some a → o ≡ Some a
was_there clock age None a is = absurd cc
was_there clock age (Some b) a is = by (is_due clock age (entry_of b)) is
  where
    by : (due : Bool) → (if due then None else Some b) ≡ Some a → Some b ≡ Some a
    by true e = absurd cc
    by false e = e

module _ (m n : FinMap grain_cmp Activation) (clock : ℕ) (age_of : List ℕ → ℕ) (left : (g : Grain) → map.get n g ≡ left_of clock (age_of g.kind) (map.get m g)) where
  seen : (x : FinMap grain_cmp Activation) (g : Grain) → map.get (entries_of x) g ≡ option_map entry_of (map.get x g)
  seen x g = get-mapped grain_cmp_total grain_cmp_exact entry_of x g

  pub swept_shows : entries_of n ≡ kept_entries clock age_of (entries_of m)
  unfolding kept_entries
  swept_shows = alike _ _ (λ g.
      seen n g
      ∙ ap (option_map entry_of) (left g)
      ∙ left_entry clock (age_of g.kind) (map.get m g)
      ∙ (λ i. cond (is_kept clock (age_of g.kind) (sym (seen m g) i)) (sym (seen m g) i) None)
      ∙ sym (get-part (entries_of m) (λ grain. is_kept clock (age_of grain.kind) (map.get (entries_of m) grain)) g))

  pub swept_marked : (logic : Logic) → AllMarked logic m → AllMarked logic n
  swept_marked logic all g a found = all g a (was_there clock (age_of g.kind) (map.get m g) a (sym (left g) ∙ found))
