-- The value of a `Datum`, level by level.
use Rattle.std.proofs.Common.{◌≡◌, ℕ, String, Global, Vec, BTreeMap, List as Listed, [], ◌∷◌, map as each, refl, ap, ◌∙◌, rules}
use Rattle.request_codec.specs.Tree.{Tree, list, map, members_of, fields_of}
use Rattle.request_codec.specs.Seen.{value_of, named, entry_of}
use Rattle.request_codec.specs.declared.datum.Datum.{Datum, List, Map, the_lemmas}

pub value_of-List : (v : Vec Datum Global) → value_of (List v) ≡ list (members_of (each value_of v.items))
value_of-List v = search (rules, the_lemmas)

abbrev inside : String Global × Datum → String Global × Tree
inside e = (e.0, value_of e.1)

fused : (es : Listed (String Global × Datum)) → each named (each inside es) ≡ each entry_of es
fused [] = refl
fused (e ∷ es) = ap (λ (r : Listed (Listed ℕ × Tree)). entry_of e ∷ r) (fused es)

one_level : (m : BTreeMap (String Global) Datum) → value_of (Map m) ≡ map (fields_of (each named (each inside m.entries)))
one_level m = search (rules, the_lemmas)

pub value_of-Map : (m : BTreeMap (String Global) Datum) → value_of (Map m) ≡ map (fields_of (each entry_of m.entries))
value_of-Map m = one_level m ∙ ap (λ (es : Listed (Listed ℕ × Tree)). map (fields_of es)) (fused m.entries)

pub ruleset datum_levels = (value_of-List, value_of-Map)
