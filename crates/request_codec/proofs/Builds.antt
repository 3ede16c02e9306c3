-- The fields of a map, which ascend by name as they are read.
use Rattle.std.proofs.Common.{◌≡◌, ℕ, List, [], ◌∷◌, ◌++◌, Some, nat_cmp, Less, true, map}
use Rattle.std.proofs.lemmas.Cmp.{nat_list_cmp_total}
use Rattle.std.specs.Cmp.Lexicographic.{slice_cmp}
use Rattle.finite_maps.proofs.Ascending.{less_from_is_lt}
use Rattle.request_codec.specs.inside.Build.{Named, AreBelow}
use Rattle.request_codec.specs.Reading.{is_above}
use Rattle.request_codec.specs.Seen.{entry_of}
use Rattle.request_codec.proofs.Entries as entries
use Rattle.request_codec.proofs.Entries.{Entry}

below_push : (fs : List Named) (f : Named) (next : List ℕ) → AreBelow fs f.0 → slice_cmp nat_cmp f.0 next ≡ Less → AreBelow (fs ++ f ∷ []) next
below_push [] f next h lt = (lt, tt)
below_push (e ∷ fs) f next h lt = (nat_list_cmp_total.trans e.0 f.0 next h.0 lt, below_push fs f next h.1 lt)

-- what comes after a name comes after those before it
pub below_next : (fs : List Named) (f : Named) → AreBelow fs f.0 → (next : List ℕ) → is_above (Some f.0) next ≡ true → AreBelow (fs ++ f ∷ []) next
below_next fs f h next later = below_push fs f next h (less_from_is_lt (slice_cmp nat_cmp f.0 next) later)

-- the same of a map's entries
pub entries_below : (es : List Entry) (name : List ℕ) → AreBelow (map entry_of es) name → entries.AreBelow es name
entries_below [] name h = tt
entries_below (e ∷ es) name h = (h.0, entries_below es name h.1)
