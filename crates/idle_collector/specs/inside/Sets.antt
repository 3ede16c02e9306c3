-- The grains that are noted, in a set for each moment from which some of them are due.
use Rattle.std.specs.Prelude.{◌≡◌, ℕ, Bool, true, false, List, [], ◌∷◌, ◌++◌, nat_le, Option, Some, None, if◌then◌else◌}
use Rattle.std.specs.BTreeMap as tree
use Rattle.std.specs.BTreeMap.{BTreeMap}
use Rattle.std.specs.FinMap as map
use Rattle.std.specs.List.{list_any, IsDistinct}
use Rattle.std.specs.Ordering.{nat_cmp}
use Rattle.indexmap.specs.IndexSet.{IndexSet}
use Rattle.grain_id.specs.Names.{Grain, grain_eq}
use Rattle.idle_collector.specs.Notes.{Notes, noted}

-- each of the grains is due from then on
abbrev pub all_noted : Notes → List Grain → ℕ → Notes
all_noted notes [] moment = notes
all_noted notes (grain ∷ grains) moment = all_noted (noted notes grain moment) grains moment

module _ {S : Type 0} where
  -- the grains of each moment are due from then on
  abbrev pub notes_of : List (ℕ × IndexSet Grain S) → Notes
  notes_of [] = map.empty
  notes_of (e ∷ es) = all_noted (notes_of es) e.1.keys e.0

  -- the grain is in the set, if there is one
  abbrev pub has : Grain → Option (IndexSet Grain S) → Bool
  has grain None = false
  has grain (Some set) = list_any (grain_eq grain) set.keys

  -- the grain is in the set of that moment
  abbrev pub is_at : BTreeMap ℕ (IndexSet Grain S) → ℕ → Grain → Bool
  is_at sets moment grain = has grain (tree.get nat_cmp sets moment)

  -- The moments ascend, no set has a grain twice, and each grain of a set is noted with the set's moment: so no other set has it.
  pub record AreApart (sets : BTreeMap ℕ (IndexSet Grain S)) : Type 0 where
    pub ordered : tree.IsOrdered nat_cmp sets
    pub once : (moment : ℕ) (set : IndexSet Grain S) → tree.get nat_cmp sets moment ≡ Some set → IsDistinct grain_eq set.keys
    pub alone : (moment : ℕ) (grain : Grain) → is_at sets moment grain ≡ true → map.get (notes_of sets.entries) grain ≡ Some moment

  -- Each grain is noted as before, and no moment has a set that had none.
  pub record LeavesNotes (old new : BTreeMap ℕ (IndexSet Grain S)) : Type 0 where
    pub apart : AreApart new
    pub notes : notes_of new.entries ≡ notes_of old.entries
    pub none : (moment : ℕ) → tree.get nat_cmp old moment ≡ None → tree.get nat_cmp new moment ≡ None

  -- the grains of the first moments, as far as these have come
  abbrev pub first_due : ℕ → List (ℕ × IndexSet Grain S) → List Grain
  first_due now [] = []
  first_due now (e ∷ es) = if nat_le e.0 now then e.1.keys ++ first_due now es else []
