-- The members of an object ascend by name, so each goes last into the map.
use Rattle.std.proofs.Common.{◌≡◌, ℕ, List, [], ◌∷◌, ◌++◌, String, Global, Less, string_bytes, string_cmp, nat_cmp, ap, subst, ◌∙◌}
use Rattle.std.specs.Cmp.Lexicographic.{slice_cmp}
use Rattle.std.specs.List.Sorted.{IsStrictlySortedBy}
use Rattle.std.specs.Map.{keys_of}
use Rattle.request_codec.specs.declared.datum.Datum.{Datum}
use Rattle.request_codec.proofs.Entries.{Entry, AreBelow, AreBelow-later, AreBelow-push}
use Rattle.request_codec.proofs.JsonParts.{JsonEntry}

-- each name of the map is below the first name that is left
abbrev pub AreBelowKeys : List Entry → List JsonEntry → Type 0
AreBelowKeys done [] = Unit {0}
AreBelowKeys done (e ∷ es) = AreBelow done (string_bytes e.0)

pub below_first : (done : List Entry) (left : List JsonEntry) (e : JsonEntry) (es : List JsonEntry) → left ≡ e ∷ es → AreBelowKeys done left → AreBelow done (string_bytes e.0)
below_first done left e es is h = subst (λ (l : List JsonEntry). AreBelowKeys done l) is h

pub below_others : (done : List Entry) (k : String Global) (d : Datum) (e : JsonEntry) (es : List JsonEntry) → string_bytes k ≡ string_bytes e.0 → IsStrictlySortedBy string_cmp (keys_of (e ∷ es)) → AreBelow done (string_bytes e.0)
    → AreBelowKeys (done ++ (k, d) ∷ []) es
unfolding IsStrictlySortedBy
below_others done k d e [] copied ordered h = tt
below_others done k d e (f ∷ es) copied ordered h =
    let lt : slice_cmp nat_cmp (string_bytes e.0) (string_bytes f.0) ≡ Less = ordered.0.0 in
    AreBelow-push done (k, d) (string_bytes f.0) (AreBelow-later done (string_bytes e.0) (string_bytes f.0) h lt) (ap (λ (s : List ℕ). slice_cmp nat_cmp s (string_bytes f.0)) copied ∙ lt)
