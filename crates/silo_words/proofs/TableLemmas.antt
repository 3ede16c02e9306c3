-- Tenants that are named one after another.
use Rattle.std.proofs.Common.{◌≡◌, ℕ, suc, ◌+◌, ◌<◌, ◌≤◌, ◌==◌, Bool, true, false, not, ◌&&◌, ◌||◌, cond, ne_eqb, List, [], ◌∷◌, ◌++◌, length, take, take_all, drop, get_or, map, Some, None, option_map, refl, ap, ap₂, sym, ◌∙◌, subst, arith, length-append}
use Rattle.std.specs.Prelude.{find}
use Rattle.std.specs.List.{list_any}
use Rattle.std.proofs.lemmas.Bool.Decides.{nat_tests}
use Rattle.std.proofs.lemmas.List.{map-append, map_more}
use Rattle.std.proofs.lemmas.Option.{none-some, same_Some}
use Rattle.tenant_gate.proofs.Repeats.{first_repeat-push}
use Rattle.grain_id.specs.Names.{same_text}
use Rattle.tenant_gate.specs.Table.{Table, names_of, is_within, are_in_range, first_repeat, first_out_of_range, table_fault}
use Rattle.tenant_gate.specs.declared.limits.Limits.{Limits}
use Rattle.tenant_gate.specs.declared.fault.TableFault.{TableFault}
use Rattle.tenant_gate.specs.declared.fault.TableFault.TheVariants as faults
use Rattle.tenant_gate.proofs.Faults.{fault_empty, fault_later}
use Rattle.silo_words.proofs.PartLemmas.{texts_at}
use Rattle.silo_words.specs.Parts.{IsWithin}
use Rattle.silo_words.specs.Tenants.{AreLimits, IsTenantText, WriteTenants, WriteDistinct, MayFollow, is_named, IsRefusedBehind, IsRefusedAt, IsFirstRefused}

-- ---- names

-- a name among those of a table
any_of_names : (tenant : List ℕ) (table : Table) → list_any (same_text tenant) (names_of table) ≡ is_named table tenant
any_of_names tenant [] = refl
any_of_names tenant (entry ∷ table) = ap (λ b. same_text tenant entry.0 || b) (any_of_names tenant table)

-- ---- texts, and the tenants that they write

WriteTenants-push : (texts : List (List ℕ)) (table : Table) (text tenant : List ℕ) (limits : Limits) → WriteTenants texts table → IsTenantText text tenant limits → WriteTenants (texts ++ text ∷ []) (table ++ (tenant, limits) ∷ [])
WriteTenants-push [] [] text tenant limits w is = (is, tt)
WriteTenants-push [] (entry ∷ table) text tenant limits w is = absurd w
WriteTenants-push (t ∷ texts) [] text tenant limits w is = absurd w
WriteTenants-push (t ∷ texts) (entry ∷ table) text tenant limits w is = (w.0, WriteTenants-push texts table text tenant limits w.1 is)

pub as_many : (texts : List (List ℕ)) (table : Table) → WriteTenants texts table → length texts ≡ length table
as_many [] [] w = refl
as_many [] (entry ∷ table) w = absurd w
as_many (t ∷ texts) [] w = absurd w
as_many (t ∷ texts) (entry ∷ table) w = ap suc (as_many texts table w.1)

pub WriteDistinct-push : (texts : List (List ℕ)) (table : Table) (text tenant : List ℕ) (limits : Limits) → WriteDistinct texts table → IsTenantText text tenant limits → MayFollow table tenant
    → WriteDistinct (texts ++ text ∷ []) (table ++ (tenant, limits) ∷ [])
WriteDistinct-push texts table text tenant limits p is may = record {
  written = WriteTenants-push texts table text tenant limits p.written is;
  distinct = ap (first_repeat []) (map-append (λ (entry : List ℕ × Limits). entry.0) table ((tenant, limits) ∷ [])) ∙ first_repeat-push [] (names_of table) tenant p.distinct (any_of_names tenant table ∙ may.0);
  at_most = omega (arith, may.1, length-append table ((tenant, limits) ∷ []));
}

-- ---- the table of them

within : (most n : ℕ) → IsWithin most n → is_within most n ≡ true
within most n is = grind (arith, nat_tests)

in_range : (limits : Limits) → AreLimits limits → are_in_range limits ≡ true
in_range limits is = ap₂ (λ (a b : Bool). a && b) (within 10000 limits.activations is.0) (within 1000 limits.mailbox is.1)

all_in_range : (texts : List (List ℕ)) (table : Table) → WriteTenants texts table → find (λ entry. not (are_in_range entry.1)) table ≡ None
all_in_range [] [] w = refl
all_in_range [] (entry ∷ table) w = absurd w
all_in_range (t ∷ texts) [] w = absurd w
all_in_range (t ∷ texts) (entry ∷ table) w =
    ap (λ b. cond (not b) (Some entry) (find (λ e. not (are_in_range e.1)) table)) (in_range entry.1 w.0.1) ∙ all_in_range texts table w.1

some : (n : ℕ) → (suc n == 0) ≡ false
some n = ne_eqb (suc n) 0 (λ e. absurd (cc (e)))

-- a list that was named has no fault but that it is empty
pub only_empty : (texts : List (List ℕ)) (table : Table) (fault : TableFault) → WriteDistinct texts table → table_fault table ≡ Some fault → (texts ≡ []) × (fault ≡ faults.Empty)
only_empty [] [] fault p e = (refl, same_Some fault faults.Empty (sym e ∙ fault_empty [] refl))
only_empty [] (entry ∷ table) fault p e = absurd p.written
only_empty (t ∷ texts) [] fault p e = absurd p.written
only_empty (t ∷ texts) (entry ∷ table) fault p e =
    let all = entry ∷ table in
    let none : first_out_of_range all ≡ None = ap (option_map (λ (x : List ℕ × Limits). x.0)) (all_in_range (t ∷ texts) all p.written) in
    absurd (none-some fault (sym (fault_later all (some (length table)) p.at_most p.distinct None (sym none)) ∙ e))

-- ---- which argument is refused

pub first_refused : (all front : List (List ℕ)) (text : List ℕ) (rest : List (List ℕ)) (number : ℕ) → all ≡ front ++ text ∷ rest → number ≡ suc (length front) → IsRefusedAt front text → IsFirstRefused all number
first_refused [] [] text rest number parts is at = absurd (cc (parts))
first_refused [] (f ∷ front) text rest number parts is at = absurd (cc (parts))
first_refused (first ∷ others) front text rest number parts is at = (front, text, rest, parts, is, at)

-- ---- the texts of a list, up to one of its places

module _ {A : Type 0} (f : A → List ℕ) (xs : List A) (i : ℕ) where
  module _ (d : A) (inside : i < length xs) (table shown : Table) (is_shown : shown ≡ table) (named : WriteDistinct (map f (take i xs)) table) where
    -- the next text is refused
    pub next_refused : (n : ℕ) → n ≡ length table → IsRefusedBehind shown (f (get_or xs i d)) → IsFirstRefused (map f xs) (n + 1)
    next_refused n many why =
        first_refused (map f xs) (map f (take i xs)) (f (get_or xs i d)) (map f (drop (i + 1) xs)) (n + 1) (texts_at f xs i d inside) (omega (arith, many, as_many (map f (take i xs)) table named.written))
        (record { before = table; named = named; why = subst (λ (b : Table). IsRefusedBehind b (f (get_or xs i d))) is_shown why })

    -- the next text names one tenant more
    pub next_named : (tenant : List ℕ) (limits : Limits) (new : Table) → new ≡ table ++ (tenant, limits) ∷ [] → IsTenantText (f (get_or xs i d)) tenant limits × MayFollow shown tenant → WriteDistinct (map f (take (i + 1) xs)) new
    next_named tenant limits new is next =
        subst (λ (t : Table). WriteDistinct (map f (take (i + 1) xs)) t) (sym is)
        (subst (λ (ts : List (List ℕ)). WriteDistinct ts (table ++ (tenant, limits) ∷ [])) (sym (map_more f xs i d inside))
        (WriteDistinct-push (map f (take i xs)) table (f (get_or xs i d)) tenant limits named next.0 (subst (λ (b : Table). MayFollow b tenant) is_shown next.1)))

  -- all texts were read
  pub all_named : (table : Table) (fault : TableFault) → length xs ≤ i → WriteDistinct (map f (take i xs)) table → table_fault table ≡ Some fault → (map f xs ≡ []) × (fault ≡ faults.Empty)
  all_named table fault end named e =
      let only = only_empty (map f (take i xs)) table fault named e in
      (ap (map f) (sym (take_all i xs end)) ∙ only.0, only.1)

-- no text was there
pub none_refused : (all : List (List ℕ)) → all ≡ [] → IsFirstRefused all 1
none_refused all none = subst (λ (ts : List (List ℕ)). IsFirstRefused ts 1) (sym none) refl
