-- The index of the first tenants of a list, and of one more.
use Rattle.std.proofs.Common.{◌≡◌, ℕ, ◌+◌, ◌<◌, Bool, true, false, cond, List, [], ◌∷◌, ◌++◌, length, get_or, take, drop, Some, None, is_some, refl, ap, sym, ◌∙◌, add-one, if◌then◌else◌}
use Rattle.std.specs.Prelude.{String}
use Rattle.std.specs.declared.alloc.Global.{Global}
use Rattle.std.specs.List.{list_any}
use Rattle.std.specs.Option.{option_or}
use Rattle.indexmap.specs.IndexMap.{IndexMap, get_by_text}
use Rattle.std.proofs.lemmas.List.{take_more, map-append}
use Rattle.std.proofs.lemmas.Map.Made.{is_some-lookup}
use Rattle.std.proofs.Math.Seq.{drop-cons}
use Rattle.grain_id.proofs.Keys.{texts}
use Rattle.finite_maps.specs.Keys.{AreKeys}
use Rattle.finite_maps.proofs.Entries.{lookup_push}
use Rattle.finite_maps.proofs.Keys.{key_turned, same_key}
use Rattle.finite_maps.proofs.Options.{none_from_is_some, or_none}
use Rattle.grain_id.specs.Names.{same_text, text_cmp}
use Rattle.grain_id.proofs.Order.{same_text_decides, text_cmp_exact, text_cmp_total}
use Rattle.tenant_gate.specs.declared.limits.Limits.{Limits}
use Rattle.tenant_gate.specs.Table.{Table, names_of, first_repeat, limits_of}
use Rattle.tenant_gate.specs.inside.Index.{HasLimits}

-- one more tenant is found where no earlier one is
pub limits_of-push : (table : Table) (name : List ℕ) (limits : Limits) (q : List ℕ) → limits_of (table ++ (name, limits) ∷ []) q ≡ option_or (limits_of table q) (cond (same_text q name) (Some limits) None)
limits_of-push table name limits q = lookup_push (same_text q) table name limits

module _ {S : Type 0} (table : Table) (index : IndexMap (String Global) Limits S) (has : HasLimits table index) (name : List ℕ) where
  is_some-get : is_some (get_by_text index name) ≡ list_any (same_text name) (names_of table)
  is_some-get = ap is_some (has name) ∙ is_some-lookup (same_text name) table

  -- the index of one more tenant
  pub HasLimits-push : (limits : Limits) (more : IndexMap (String Global) Limits S) → is_some (get_by_text index name) ≡ false
      → ((q : List ℕ) → get_by_text more q ≡ (if same_text name q then Some limits else get_by_text index q)) → HasLimits (table ++ (name, limits) ∷ []) more
  HasLimits-push limits more absent put q =
      put q ∙ at (same_text name q) refl
      ∙ ap (λ b. option_or (limits_of table q) (cond b (Some limits) None)) (key_turned texts name q)
      ∙ sym (limits_of-push table name limits q)
    where
      at : (b : Bool) → same_text name q ≡ b → cond b (Some limits) (get_by_text index q) ≡ option_or (limits_of table q) (cond b (Some limits) None)
      at true e =
          ap (λ o. option_or o (Some limits))
          (sym (ap (limits_of table) (sym (same_key texts name q e)) ∙ sym (has name) ∙ none_from_is_some (get_by_text index name) absent))
      at false e = has q ∙ sym (or_none (limits_of table q))

-- ---- the first repeat, as far as the list was gone through

module _ (table : Table) (i : ℕ) (entry : List ℕ × Limits) (inside : i < length table) (at : entry ≡ get_or table i entry) where
  names_left : names_of (drop i table) ≡ entry.0 ∷ names_of (drop (i + 1) table)
  names_left = ap names_of (drop-cons table i entry inside) ∙ (λ j. (sym at j).0 ∷ names_of (drop (sym (add-one i) j) table))

  names_taken : names_of (take i table) ++ entry.0 ∷ [] ≡ names_of (take (i + 1) table)
  names_taken =
      ap (λ e. names_of (take i table) ++ e.0 ∷ []) at
      ∙ sym (ap names_of (take_more table i entry inside) ∙ map-append (λ e. e.0) (take i table) (get_or table i entry ∷ []))

  -- the next name is the first repeat if the index of those before it has it, and else it is a later one
  pub repeat_next : {S : Type 0} (index : IndexMap (String Global) Limits S) → HasLimits (take i table) index → (b : Bool) → is_some (get_by_text index entry.0) ≡ b
      → first_repeat (names_of (take i table)) (names_of (drop i table)) ≡ (if b then Some entry.0 else first_repeat (names_of (take (i + 1) table)) (names_of (drop (i + 1) table)))
  repeat_next index has b is =
      ap (first_repeat (names_of (take i table))) names_left
      ∙ (λ j. if (sym (is_some-get (take i table) index has entry.0) ∙ is) j then Some entry.0 else first_repeat (names_taken j) (names_of (drop (i + 1) table)))
