-- What is read as a value spells that value.
use Rattle.std.proofs.Common.{◌≡◌, ℕ, zero, suc, ◌+◌, ◌^◌, ◌%◌, add-zero, mod-eq_of_lt, ◌<◌, ◌≤◌, true, false, List, [], ◌∷◌, ◌++◌, Option, Some, None, refl, sym, ap, subst, ◌∙◌, append_assoc, arith}
use Rattle.std.specs.Prelude.{FitsSigned, if◌then◌else◌}
use Rattle.std.specs.Int.{w32, w64, to_be_bytes, cast_signed}
use Rattle.std.proofs.Math.Nat.{max-le}
use Rattle.std.proofs.lemmas.Int.{of_z-to_z, wrapping_add-bits, SFits-int_wrap}
use Rattle.std.proofs.lemmas.Option.{some_pair_parts, same_Some}
use Rattle.finite_maps.proofs.Options.{some_if_passes}
use Rattle.request_codec.specs.Tree as tree
use Rattle.request_codec.specs.Tree.{Tree, null, truth, integer, text, list, map, Members, no_members, member, Fields, no_fields, field, members_count, fields_count, depth, members_depth, fields_depth}
use Rattle.request_codec.specs.Spelling.{SpellsText, Spells, SpellEach, SpellFields, IsBelowFirst}
use Rattle.request_codec.specs.Reading.{Parse, number_at, bytes_at, text_at, members_at, is_above, fields_at, node_at, value_at}
use Rattle.request_codec.proofs.Steps.{bound}
use Rattle.hex.specs.Hex.{IsBytes}
use Rattle.request_codec.proofs.Numbers.{IsBytes-rest, Found, wide32, wide64, number_found, bytes_found, text_found}
use Rattle.request_codec.proofs.SpellingsRead.{AreAbove}

-- ---- members, where what `read` gives is spelled and no deeper than d
abbrev pub IsRead : Parse Tree → ℕ → Type 0
IsRead read d = (bytes : List ℕ) (v : Tree) (rest : List ℕ) → IsBytes bytes → read bytes ≡ Some (v, rest) → Found (Spells v) bytes rest × (depth v ≤ d)

one_more : (v : Tree) (vs : Members) (first others : List ℕ) → Spells v first → SpellEach vs others → SpellEach (member v vs) (first ++ others)
one_more v vs first others h k = (first, others, h, k, refl)

one_more_field : (n : List ℕ) (v : Tree) (fs : Fields) (name first others : List ℕ) → SpellsText n name → Spells v first → SpellFields fs others → IsBelowFirst n fs → SpellFields (field n v fs) (name ++ first ++ others)
one_more_field n v fs name first others named h k below = (name, first, others, named, h, k, below, refl)

two_parts : (bytes first middle second rest : List ℕ) → bytes ≡ first ++ middle → middle ≡ second ++ rest → bytes ≡ (first ++ second) ++ rest
two_parts bytes first middle second rest one two = one ∙ ap (λ (m : List ℕ). first ++ m) two ∙ sym (append_assoc first second rest)

members_found : (read : Parse Tree) (d : ℕ) → IsRead read d → (n : ℕ) (bytes : List ℕ) (vs : Members) (rest : List ℕ) → IsBytes bytes → members_at read n bytes ≡ Some (vs, rest) → Found (SpellEach vs) bytes rest × (members_depth vs ≤ d) × (members_count vs ≡ n)
unfolding members_at
members_found read d reads zero bytes vs rest fits e =
    let is = some_pair_parts _ _ _ _ e in
    let result : Found (SpellEach no_members) bytes bytes × (members_depth no_members ≤ d) × (members_count no_members ≡ 0) = (record { used = []; wanted = refl; parts = refl; rest_fits = fits }, omega arith, refl) in
    subst (λ (p : Members × List ℕ). Found (SpellEach p.0) bytes p.1 × (members_depth p.0 ≤ d) × (members_count p.0 ≡ 0)) (same_Some _ _ e) result
members_found read d reads (suc n) bytes vs rest fits e =
    let b = bound (read bytes) _ (vs, rest) e in
    let first = reads bytes b.0.0 b.0.1 fits b.1 in
    let c = bound (members_at read n b.0.1) _ (vs, rest) b.2 in
    let others = members_found read d reads n b.0.1 c.0.0 c.0.1 first.0.rest_fits c.1 in
    let result : Found (SpellEach (member b.0.0 c.0.0)) bytes c.0.1 × (members_depth (member b.0.0 c.0.0) ≤ d) × (members_count (member b.0.0 c.0.0) ≡ suc n) = (
      record {
        used = first.0.used ++ others.0.used;
        wanted = one_more b.0.0 c.0.0 first.0.used others.0.used first.0.wanted others.0.wanted;
        parts = two_parts bytes first.0.used b.0.1 others.0.used c.0.1 first.0.parts others.0.parts;
        rest_fits = others.0.rest_fits;
      },
      max-le first.1 others.1,
      ap (λ (k : ℕ). suc k) others.2,
    ) in
    subst (λ (p : Members × List ℕ). Found (SpellEach p.0) bytes p.1 × (members_depth p.0 ≤ d) × (members_count p.0 ≡ suc n)) (same_Some _ _ c.2) result

below_first : (n : List ℕ) (fs : Fields) → AreAbove (Some n) fs → IsBelowFirst n fs
below_first n no_fields h = tt
below_first n (field m v fs) h = h

fields_found : (read : Parse Tree) (d : ℕ) → IsRead read d → (n : ℕ) (last : Option (List ℕ)) (bytes : List ℕ) (fs : Fields) (rest : List ℕ) → IsBytes bytes → fields_at read n last bytes ≡ Some (fs, rest) → Found (SpellFields fs) bytes rest × (fields_depth fs ≤ d) × (fields_count fs ≡ n) × AreAbove last fs
unfolding fields_at
fields_found read d reads zero last bytes fs rest fits e =
    let result : Found (SpellFields no_fields) bytes bytes × (fields_depth no_fields ≤ d) × (fields_count no_fields ≡ 0) × AreAbove last no_fields = (record { used = []; wanted = refl; parts = refl; rest_fits = fits }, omega arith, refl, tt) in
    subst (λ (p : Fields × List ℕ). Found (SpellFields p.0) bytes p.1 × (fields_depth p.0 ≤ d) × (fields_count p.0 ≡ 0) × AreAbove last p.0) (same_Some _ _ e) result
fields_found read d reads (suc n) last bytes fs rest fits e =
    let a = bound (text_at bytes) _ (fs, rest) e in
    let name = text_found bytes a.0.0 a.0.1 fits a.1 in
    let b = bound (if is_above last a.0.0 then read a.0.1 else None) _ (fs, rest) a.2 in
    let above = some_if_passes (is_above last a.0.0) (read a.0.1) b.0 b.1 in
    let first = reads a.0.1 b.0.0 b.0.1 name.rest_fits above.1 in
    let c = bound (fields_at read n (Some a.0.0) b.0.1) _ (fs, rest) b.2 in
    let others = fields_found read d reads n (Some a.0.0) b.0.1 c.0.0 c.0.1 first.0.rest_fits c.1 in
    let result : Found (SpellFields (field a.0.0 b.0.0 c.0.0)) bytes c.0.1 × (fields_depth (field a.0.0 b.0.0 c.0.0) ≤ d) × (fields_count (field a.0.0 b.0.0 c.0.0) ≡ suc n) × AreAbove last (field a.0.0 b.0.0 c.0.0) = (
      record {
        used = name.used ++ first.0.used ++ others.0.used;
        wanted = one_more_field a.0.0 b.0.0 c.0.0 name.used first.0.used others.0.used name.wanted first.0.wanted others.0.wanted (below_first a.0.0 c.0.0 others.3);
        parts = two_parts bytes (name.used ++ first.0.used) b.0.1 others.0.used c.0.1 (two_parts bytes name.used a.0.1 first.0.used b.0.1 name.parts first.0.parts) others.0.parts;
        rest_fits = others.0.rest_fits;
      },
      max-le first.1 others.1,
      ap (λ (k : ℕ). suc k) others.2,
      above.0,
    ) in
    subst (λ (p : Fields × List ℕ). Found (SpellFields p.0) bytes p.1 × (fields_depth p.0 ≤ d) × (fields_count p.0 ≡ suc n) × AreAbove last p.0) (same_Some _ _ c.2) result

SFits-cast_signed : (n : ℕ) → n < 2 ^ 64 → FitsSigned w64 (cast_signed w64 n)
SFits-cast_signed n lt =
    let same : (n + 0) % 2 ^ 64 ≡ n = rw (add-zero, mod-eq_of_lt lt) refl in
    subst (λ (k : ℕ). FitsSigned w64 (cast_signed w64 k)) same (rw (wrapping_add-bits w64 n 0 lt (omega arith)) (SFits-int_wrap w64 _))

-- a count in front of the members' bytes
behind : (count n : ℕ) (bytes m used rest : List ℕ) → count ≡ n → bytes ≡ to_be_bytes w32 n ++ m → m ≡ used ++ rest → bytes ≡ (to_be_bytes w32 count ++ used) ++ rest
behind count n bytes m used rest same front parts = front ∙ ap (λ (x : List ℕ). to_be_bytes w32 n ++ x) parts ∙ sym (append_assoc (to_be_bytes w32 n) used rest) ∙ ap (λ (k : ℕ). (to_be_bytes w32 k ++ used) ++ rest) (sym same)

node_found : (read : Parse Tree) (d : ℕ) → IsRead read d → (b : ℕ) (bytes : List ℕ) (v : Tree) (rest : List ℕ) → IsBytes bytes → node_at read b bytes ≡ Some (v, rest) → Found (Spells v) (b ∷ bytes) rest × (depth v ≤ suc d)
unfolding node_at
node_found read d reads zero bytes v rest fits e =
    let result : Found (Spells null) (0 ∷ bytes) bytes × (depth null ≤ suc d) = (record { used = 0 ∷ []; wanted = refl; parts = refl; rest_fits = fits }, omega arith) in
    subst (λ (p : Tree × List ℕ). Found (Spells p.0) (0 ∷ bytes) p.1 × (depth p.0 ≤ suc d)) (same_Some _ _ e) result
node_found read d reads (suc zero) bytes v rest fits e =
    let result : Found (Spells (truth false)) (1 ∷ bytes) bytes × (depth (truth false) ≤ suc d) = (record { used = 1 ∷ []; wanted = refl; parts = refl; rest_fits = fits }, omega arith) in
    subst (λ (p : Tree × List ℕ). Found (Spells p.0) (1 ∷ bytes) p.1 × (depth p.0 ≤ suc d)) (same_Some _ _ e) result
node_found read d reads (suc (suc zero)) bytes v rest fits e =
    let result : Found (Spells (truth true)) (2 ∷ bytes) bytes × (depth (truth true) ≤ suc d) = (record { used = 2 ∷ []; wanted = refl; parts = refl; rest_fits = fits }, omega arith) in
    subst (λ (p : Tree × List ℕ). Found (Spells p.0) (2 ∷ bytes) p.1 × (depth p.0 ≤ suc d)) (same_Some _ _ e) result
node_found read d reads (suc (suc (suc zero))) bytes v rest fits e =
    let b = bound (number_at w64 bytes) _ (v, rest) e in
    let t = number_found w64 (2 ^ 64) wide64 bytes b.0.0 b.0.1 fits b.1 in
    let result : Found (Spells (integer (cast_signed w64 b.0.0))) (3 ∷ bytes) b.0.1 × (depth (integer (cast_signed w64 b.0.0)) ≤ suc d) = (
      record {
        used = 3 ∷ to_be_bytes w64 b.0.0;
        wanted = (SFits-cast_signed b.0.0 t.1, ap (λ (k : ℕ). 3 ∷ to_be_bytes w64 k) (sym (of_z-to_z w64 b.0.0 t.1)));
        parts = ap (λ (m : List ℕ). 3 ∷ m) t.0;
        rest_fits = t.2;
      },
      omega arith,
    ) in
    subst (λ (p : Tree × List ℕ). Found (Spells p.0) (3 ∷ bytes) p.1 × (depth p.0 ≤ suc d)) (same_Some _ _ b.2) result
node_found read d reads (suc (suc (suc (suc zero)))) bytes v rest fits e =
    let b = bound (text_at bytes) _ (v, rest) e in
    let t = text_found bytes b.0.0 b.0.1 fits b.1 in
    let result : Found (Spells (text b.0.0)) (4 ∷ bytes) b.0.1 × (depth (text b.0.0) ≤ suc d) = (
      record {
        used = 4 ∷ t.used;
        wanted = (t.used, t.wanted, refl);
        parts = ap (λ (m : List ℕ). 4 ∷ m) t.parts;
        rest_fits = t.rest_fits;
      },
      omega arith,
    ) in
    subst (λ (p : Tree × List ℕ). Found (Spells p.0) (4 ∷ bytes) p.1 × (depth p.0 ≤ suc d)) (same_Some _ _ b.2) result
node_found read d reads (suc (suc (suc (suc (suc zero))))) bytes v rest fits e =
    let b = bound (number_at w32 bytes) _ (v, rest) e in
    let t = number_found w32 (2 ^ 32) wide32 bytes b.0.0 b.0.1 fits b.1 in
    let c = bound (members_at read b.0.0 b.0.1) _ (v, rest) b.2 in
    let m = members_found read d reads b.0.0 b.0.1 c.0.0 c.0.1 t.2 c.1 in
    let result : Found (Spells (list c.0.0)) (5 ∷ bytes) c.0.1 × (depth (list c.0.0) ≤ suc d) = (
      record {
        used = 5 ∷ (to_be_bytes w32 (members_count c.0.0) ++ m.0.used);
        wanted = (m.0.used, subst (λ (k : ℕ). k < 2 ^ 32) (sym m.2) t.1, m.0.wanted, refl);
        parts = ap (λ (x : List ℕ). 5 ∷ x) (behind (members_count c.0.0) b.0.0 bytes b.0.1 m.0.used c.0.1 m.2 t.0 m.0.parts);
        rest_fits = m.0.rest_fits;
      },
      omega (arith, m.1),
    ) in
    subst (λ (p : Tree × List ℕ). Found (Spells p.0) (5 ∷ bytes) p.1 × (depth p.0 ≤ suc d)) (same_Some _ _ c.2) result
node_found read d reads (suc (suc (suc (suc (suc (suc zero)))))) bytes v rest fits e =
    let b = bound (number_at w32 bytes) _ (v, rest) e in
    let t = number_found w32 (2 ^ 32) wide32 bytes b.0.0 b.0.1 fits b.1 in
    let c = bound (fields_at read b.0.0 None b.0.1) _ (v, rest) b.2 in
    let m = fields_found read d reads b.0.0 None b.0.1 c.0.0 c.0.1 t.2 c.1 in
    let result : Found (Spells (map c.0.0)) (6 ∷ bytes) c.0.1 × (depth (map c.0.0) ≤ suc d) = (
      record {
        used = 6 ∷ (to_be_bytes w32 (fields_count c.0.0) ++ m.0.used);
        wanted = (m.0.used, subst (λ (k : ℕ). k < 2 ^ 32) (sym m.2) t.1, m.0.wanted, refl);
        parts = ap (λ (x : List ℕ). 6 ∷ x) (behind (fields_count c.0.0) b.0.0 bytes b.0.1 m.0.used c.0.1 m.2 t.0 m.0.parts);
        rest_fits = m.0.rest_fits;
      },
      omega (arith, m.1),
    ) in
    subst (λ (p : Tree × List ℕ). Found (Spells p.0) (6 ∷ bytes) p.1 × (depth p.0 ≤ suc d)) (same_Some _ _ c.2) result
node_found read d reads (suc (suc (suc (suc (suc (suc (suc zero))))))) bytes v rest fits e =
    let b = bound (bytes_at bytes) _ (v, rest) e in
    let t = bytes_found bytes b.0.0 b.0.1 fits b.1 in
    let result : Found (Spells (tree.bytes b.0.0)) (7 ∷ bytes) b.0.1 × (depth (tree.bytes b.0.0) ≤ suc d) = (
      record {
        used = 7 ∷ t.used;
        wanted = (t.wanted.0, t.wanted.1, ap (λ (m : List ℕ). 7 ∷ m) t.wanted.2);
        parts = ap (λ (m : List ℕ). 7 ∷ m) t.parts;
        rest_fits = t.rest_fits;
      },
      omega arith,
    ) in
    subst (λ (p : Tree × List ℕ). Found (Spells p.0) (7 ∷ bytes) p.1 × (depth p.0 ≤ suc d)) (same_Some _ _ b.2) result
node_found read d reads (suc (suc (suc (suc (suc (suc (suc (suc b)))))))) bytes v rest fits e = absurd cc

-- What is read as a value, no deeper than d, spells it.
pub value_found : (d : ℕ) → IsRead (value_at d) d
unfolding value_at
value_found zero bytes v rest fits e = absurd cc
value_found (suc d) [] v rest fits e = absurd cc
value_found (suc d) (b ∷ bytes) v rest fits e = node_found (value_at d) d (value_found d) b bytes v rest (IsBytes-rest b bytes fits) e
