-- Notes by sets of grains, each of one moment: what is noted when one of the sets changes, and what is due.
use Rattle.std.proofs.Common.{◌≡◌, ℕ, ◌<◌, Bool, true, false, cond, List, [], ◌∷◌, ◌++◌, Option, Some, None, is_some, refl, ap, sym, ◌∙◌, subst, true≢false, arith}
use Rattle.std.specs.Prelude.{◌≤◌, nat_le, not, length, slice_get, IfSome}
use Rattle.std.specs.Option.{IsSome}
use Rattle.std.specs.BTreeMap as tree
use Rattle.std.specs.BTreeMap.{BTreeMap}
use Rattle.std.specs.Map.{lookup, keys_of}
use Rattle.std.specs.FinMap as map
use Rattle.std.specs.FinMap.{nat_cmp-IsAntisymmetric}
use Rattle.std.specs.declared.cmp.Ordering.TheVariants.{Less, Equal}
use Rattle.std.specs.Cmp.{Equal-is, nat_cmp_total, tied_itself, ranked}
use Rattle.std.specs.List.{list_any, IsDistinct, AllByRecursion}
use Rattle.std.specs.List.Sorted.{IsStrictlySortedBy}
use Rattle.std.specs.Ordering.{nat_cmp, is_eq}
use Rattle.std.proofs.lemmas.Bool.{le-leb, lt-leb, leb-false}
use Rattle.std.proofs.lemmas.Option.{same_Some}
use Rattle.indexmap.specs.IndexSet.{IndexSet}
use Rattle.finite_maps.proofs.Entries.{get-remove_key}
use Rattle.finite_maps.proofs.Maps as maps
use Rattle.grain_id.proofs.Keys.{grains}
use Rattle.grain_id.specs.Names.{Grain, grain_cmp, grain_eq}
use Rattle.grain_id.proofs.Order.{grain_cmp_total, grain_cmp_exact, grain_eq_decides}
use Rattle.idle_collector.specs.Notes.{Notes, noted, forgotten, is_due, HoldsDue}
use Rattle.idle_collector.specs.inside.Sets.{notes_of, has, is_at, AreApart, LeavesNotes, first_due}
use Rattle.idle_collector.proofs.Due.{get-noted, get-all, due-all}

-- ---- moments

same_moment : (m k : ℕ) → is_eq (nat_cmp m k) ≡ true → m ≡ k
same_moment m k e = nat_cmp-IsAntisymmetric m k ((Equal-is (nat_cmp m k)).0 e)

own_moment : (m : ℕ) → is_eq (nat_cmp m m) ≡ true
own_moment m = (Equal-is (nat_cmp m m)).1 (tied_itself nat_cmp_total m)

is_below : (m k : ℕ) → nat_cmp m k ≡ Less → m < k
is_below m k below = ranked m k Less (sym below)

-- a moment isn't below itself
not_below : (m k : ℕ) → nat_cmp m k ≡ Less → m ≡ k → ⊥
not_below m k below same = absurd (let tied : Less ≡ Equal = sym below ∙ ap (nat_cmp m) (sym same) ∙ tied_itself nat_cmp_total m in cc)

refused : (b : Bool) → (b ≡ true → ⊥) → b ≡ false
refused true never = absurd (never refl)
refused false never = refl

-- ---- what is found in the sets

module _ {S : Type 0} where
  -- the moment of the first set that has the grain
  abbrev pub moment_in : List (ℕ × IndexSet Grain S) → Grain → Option ℕ
  moment_in [] q = None
  moment_in (e ∷ es) q = cond (list_any (grain_eq q) e.1.keys) (Some e.0) (moment_in es q)

  pub get-notes : (es : List (ℕ × IndexSet Grain S)) (q : Grain) → map.get (notes_of es) q ≡ moment_in es q
  get-notes [] q = map.get-empty grain_cmp q
  get-notes (e ∷ es) q = get-all (notes_of es) e.1.keys e.0 q ∙ ap (cond (list_any (grain_eq q) e.1.keys) (Some e.0)) (get-notes es q)

  -- the set of a moment
  abbrev set_of : List (ℕ × IndexSet Grain S) → ℕ → Option (IndexSet Grain S)
  set_of es m = lookup (λ k. is_eq (nat_cmp m k)) es

  abbrev Ascend : List (ℕ × IndexSet Grain S) → Type 0
  Ascend es = IsStrictlySortedBy nat_cmp (keys_of es)

  abbrev AllAbove : ℕ → List (ℕ × IndexSet Grain S) → Type 0
  AllAbove m es = AllByRecursion (λ k. nat_cmp m k ≡ Less) (keys_of es)

  -- where all moments are later there is none of the moment
  none_there : (m : ℕ) (es : List (ℕ × IndexSet Grain S)) → AllAbove m es → (k : ℕ) → is_eq (nat_cmp k m) ≡ true → set_of es k ≡ None
  none_there m [] above k e = refl
  none_there m (f ∷ es) above k e =
      ap (λ b. cond b (Some f.1) (set_of es k)) (refused (is_eq (nat_cmp k f.0)) (λ t. not_below m f.0 above.0 (sym (same_moment k m e) ∙ same_moment k f.0 t)))
      ∙ none_there m es above.1 k e

  -- a grain that is found is in the set of its moment
  found_at : (es : List (ℕ × IndexSet Grain S)) → Ascend es → (m : ℕ) (q : Grain) → moment_in es q ≡ Some m → has q (set_of es m) ≡ true
  unfolding IsStrictlySortedBy
  found_at [] ascend m q found = absurd cc
  found_at (e ∷ es) ascend m q found = by (list_any (grain_eq q) e.1.keys) refl (found_at es ascend.1 m q) found
    where
      behind : (b : Bool) → is_eq (nat_cmp m e.0) ≡ b → has q (set_of es m) ≡ true → has q (cond b (Some e.1) (set_of es m)) ≡ true
      behind true t there = absurd (true≢false (sym there ∙ ap (has q) (none_there e.0 es ascend.0 m t)))
      behind false t there = there

      by : (b : Bool) → list_any (grain_eq q) e.1.keys ≡ b → (moment_in es q ≡ Some m → has q (set_of es m) ≡ true) → cond b (Some e.0) (moment_in es q) ≡ Some m
          → has q (cond (is_eq (nat_cmp m e.0)) (Some e.1) (set_of es m)) ≡ true
      by true there more is =
          ap (λ b. has q (cond b (Some e.1) (set_of es m))) (ap (λ k. is_eq (nat_cmp k e.0)) (sym (same_Some e.0 m is)) ∙ own_moment e.0) ∙ there
      by false there more is = behind (is_eq (nat_cmp m e.0)) refl (more is)

  -- and one that is in a set is found
  at_found : (es : List (ℕ × IndexSet Grain S)) (m : ℕ) (q : Grain) → has q (set_of es m) ≡ true → is_some (moment_in es q) ≡ true
  at_found [] m q there = absurd (true≢false (sym there))
  at_found (e ∷ es) m q there = by (is_eq (nat_cmp m e.0)) (at_found es m q) there
    where
      either : (b : Bool) (o : Option ℕ) → is_some o ≡ true → is_some (cond b (Some e.0) o) ≡ true
      either true o some = refl
      either false o some = some

      by : (b : Bool) → (has q (set_of es m) ≡ true → is_some (moment_in es q) ≡ true) → has q (cond b (Some e.1) (set_of es m)) ≡ true → is_some (moment_in (e ∷ es) q) ≡ true
      by true more there = ap (λ b. is_some (cond b (Some e.0) (moment_in es q))) there
      by false more there = either (list_any (grain_eq q) e.1.keys) (moment_in es q) (more there)

  -- what is found, by which grains the sets have
  found_is : (es : List (ℕ × IndexSet Grain S)) → Ascend es → (found : Grain → Option ℕ)
      → ((m : ℕ) (q : Grain) → has q (set_of es m) ≡ true → found q ≡ Some m)
      → ((m : ℕ) (q : Grain) → found q ≡ Some m → has q (set_of es m) ≡ true)
      → (q : Grain) → moment_in es q ≡ found q
  found_is es ascend found only all q = by (moment_in es q) refl
    where
      none : (o : Option ℕ) → found q ≡ o → moment_in es q ≡ None → None ≡ o
      none None is empty = refl
      none (Some m) is empty = absurd (true≢false (sym (at_found es m q (all m q is)) ∙ ap is_some empty))

      by : (o : Option ℕ) → moment_in es q ≡ o → o ≡ found q
      by None is = none (found q) refl is
      by (Some m) is = sym (only m q (found_at es ascend m q is))

-- ---- one set changes

module _ {S : Type 0} (old new : BTreeMap ℕ (IndexSet Grain S)) (apart : AreApart old) (ordered : tree.IsOrdered nat_cmp new) (m : ℕ) (set : Option (IndexSet Grain S))
    (puts : (k : ℕ) → tree.get nat_cmp new k ≡ cond (is_eq (nat_cmp m k)) set (tree.get nat_cmp old k))
    (distinct : IfSome set (λ s. IsDistinct grain_eq s.keys))
    (id : Grain) (there : Bool) (differs : (q : Grain) → has q set ≡ cond (grain_eq id q) there (is_at old m q))
    (own : IfSome (map.get (notes_of old.entries) id) (λ k. k ≡ m)) where
  abbrev then_noted : Option ℕ
  then_noted = cond there (Some m) None

  abbrev found : Grain → Option ℕ
  found q = cond (grain_eq id q) then_noted (map.get (notes_of old.entries) q)

  is_own : (o : Option ℕ) → IfSome o (λ k. k ≡ m) → (k : ℕ) → o ≡ Some k → k ≡ m
  is_own None mine k is = absurd cc
  is_own (Some n) mine k is = sym (same_Some n k is) ∙ mine

  -- the sets have the grains that are found
  only : (k : ℕ) (q : Grain) → is_at new k q ≡ true → found q ≡ Some k
  only k q here = by (is_eq (nat_cmp m k)) refl (ap (has q) (sym (puts k)) ∙ here)
    where
      now : (b : Bool) → grain_eq id q ≡ b → is_eq (nat_cmp m k) ≡ true → cond b there (is_at old m q) ≡ true → cond b then_noted (map.get (notes_of old.entries) q) ≡ Some k
      now true t e is = ap (λ b. cond b (Some m) None) is ∙ ap Some (same_moment m k e)
      now false t e is = apart.alone m q is ∙ ap Some (same_moment m k e)

      still : (b : Bool) → grain_eq id q ≡ b → is_eq (nat_cmp m k) ≡ false → is_at old k q ≡ true → cond b then_noted (map.get (notes_of old.entries) q) ≡ Some k
      still true t e is =
          let noted_then : map.get (notes_of old.entries) id ≡ Some k = ap (map.get (notes_of old.entries)) ((grain_eq_decides id q).0 t) ∙ apart.alone k q is in
          let same : k ≡ m = is_own (map.get (notes_of old.entries) id) own k noted_then in
          absurd (true≢false (sym (own_moment m) ∙ ap (λ n. is_eq (nat_cmp m n)) (sym same) ∙ e))
      still false t e is = apart.alone k q is

      by : (b : Bool) → is_eq (nat_cmp m k) ≡ b → has q (cond b set (tree.get nat_cmp old k)) ≡ true → found q ≡ Some k
      by true e is = now (grain_eq id q) refl e (sym (differs q) ∙ is)
      by false e is = still (grain_eq id q) refl e is

  all : (k : ℕ) (q : Grain) → found q ≡ Some k → is_at new k q ≡ true
  all k q is = ap (has q) (puts k) ∙ by (grain_eq id q) refl is
    where
      then_there : (b : Bool) → cond b (Some m) None ≡ Some k → (b ≡ true) × (m ≡ k)
      then_there true is = (refl, same_Some m k is)
      then_there false is = absurd cc

      was : (b : Bool) → grain_eq id q ≡ false → is_eq (nat_cmp m k) ≡ b → is_at old k q ≡ true → has q (cond b set (tree.get nat_cmp old k)) ≡ true
      was true t e here = differs q ∙ ap (λ b. cond b there (is_at old m q)) t ∙ ap (λ n. is_at old n q) (same_moment m k e) ∙ here
      was false t e here = here

      by : (b : Bool) → grain_eq id q ≡ b → cond b then_noted (map.get (notes_of old.entries) q) ≡ Some k → has q (cond (is_eq (nat_cmp m k)) set (tree.get nat_cmp old k)) ≡ true
      by true t is =
          let now = then_there there is in
          ap (λ b. has q (cond b set (tree.get nat_cmp old k))) (ap (λ n. is_eq (nat_cmp m n)) (sym now.1) ∙ own_moment m)
          ∙ differs q ∙ ap (λ b. cond b there (is_at old m q)) t ∙ now.0
      by false t is = was (is_eq (nat_cmp m k)) t refl (found_at old.entries apart.ordered k q (sym (get-notes old.entries q) ∙ is))

  pub get-changed : (q : Grain) → map.get (notes_of new.entries) q ≡ found q
  get-changed q = get-notes new.entries q ∙ found_is new.entries ordered found only all q

  pub changed_apart : AreApart new
  changed_apart = record {
    ordered = ordered;
    once = λ k s is. by k s (is_eq (nat_cmp m k)) (sym (puts k) ∙ is);
    alone = λ k q is. get-changed q ∙ only k q is;
  }
    where
      its : (o : Option (IndexSet Grain S)) → IfSome o (λ s. IsDistinct grain_eq s.keys) → (s : IndexSet Grain S) → o ≡ Some s → IsDistinct grain_eq s.keys
      its None each s is = absurd cc
      its (Some t) each s is = subst (λ (x : IndexSet Grain S). IsDistinct grain_eq x.keys) (same_Some t s is) each

      by : (k : ℕ) (s : IndexSet Grain S) (b : Bool) → cond b set (tree.get nat_cmp old k) ≡ Some s → IsDistinct grain_eq s.keys
      by k s true is = its set distinct s is
      by k s false is = apart.once k s is

  -- it is noted
  pub now_noted : there ≡ true → notes_of new.entries ≡ noted (notes_of old.entries) id m
  now_noted t = maps.alike grain_cmp_total grain_cmp_exact _ _ (λ q.
      get-changed q ∙ ap (λ b. cond (grain_eq id q) (cond b (Some m) None) (map.get (notes_of old.entries) q)) t
      ∙ sym (get-noted (notes_of old.entries) id m q))

  -- it isn't
  pub now_forgotten : there ≡ false → notes_of new.entries ≡ forgotten (notes_of old.entries) id
  now_forgotten t = maps.alike grain_cmp_total grain_cmp_exact _ _ (λ q.
      get-changed q ∙ ap (λ b. cond (grain_eq id q) (cond b (Some m) None) (map.get (notes_of old.entries) q)) t
      ∙ sym (get-remove_key grains (notes_of old.entries) id q))

-- ---- no set changes, but for its room

module _ {S : Type 0} (sets : BTreeMap ℕ (IndexSet Grain S)) (apart : AreApart sets) (id : Grain) (none : map.get (notes_of sets.entries) id ≡ None) where
  pub not_there : (m : ℕ) (q : Grain) → is_at sets m q ≡ cond (grain_eq id q) false (is_at sets m q)
  not_there m q = by (grain_eq id q) refl
    where
      by : (b : Bool) → grain_eq id q ≡ b → is_at sets m q ≡ cond b false (is_at sets m q)
      by true t = refused (is_at sets m q) (λ here. let noted_then : None ≡ Some m = sym none ∙ ap (map.get (notes_of sets.entries)) ((grain_eq_decides id q).0 t) ∙ apart.alone m q here in cc)
      by false t = refl

-- a set that has no grain goes
module _ {S : Type 0} (old new : BTreeMap ℕ (IndexSet Grain S)) (apart : AreApart old) (ordered : tree.IsOrdered nat_cmp new) (m : ℕ) (set : IndexSet Grain S)
    (is : tree.get nat_cmp old m ≡ Some set) (empty : set.keys ≡ [])
    (puts : (k : ℕ) → tree.get nat_cmp new k ≡ cond (is_eq (nat_cmp m k)) None (tree.get nat_cmp old k)) where
  same_at : (k : ℕ) (q : Grain) → is_at new k q ≡ is_at old k q
  same_at k q = ap (has q) (puts k) ∙ by (is_eq (nat_cmp m k)) refl
    where
      by : (b : Bool) → is_eq (nat_cmp m k) ≡ b → has q (cond b None (tree.get nat_cmp old k)) ≡ is_at old k q
      by true e = sym (ap (λ n. is_at old n q) (sym (same_moment m k e)) ∙ ap (has q) is ∙ ap (list_any (grain_eq q)) empty)
      by false e = refl

  same_notes : notes_of new.entries ≡ notes_of old.entries
  same_notes = maps.alike grain_cmp_total grain_cmp_exact _ _ (λ q. get-notes new.entries q ∙ found_is new.entries ordered (map.get (notes_of old.entries))
      (λ k q here. apart.alone k q (sym (same_at k q) ∙ here))
      (λ k q noted. same_at k q ∙ found_at old.entries apart.ordered k q (sym (get-notes old.entries q) ∙ noted)) q)

  pub leaves_notes : LeavesNotes old new
  leaves_notes = record {
    apart = record {
      ordered = ordered;
      once = λ k s here. was k s (is_eq (nat_cmp m k)) (sym (puts k) ∙ here);
      alone = λ k q here. ap (λ (n : Notes). map.get n q) same_notes ∙ apart.alone k q (sym (same_at k q) ∙ here);
    };
    notes = same_notes;
    none = λ k none. puts k ∙ either (is_eq (nat_cmp m k)) none;
  }
    where
      was : (k : ℕ) (s : IndexSet Grain S) (b : Bool) → cond b None (tree.get nat_cmp old k) ≡ Some s → IsDistinct grain_eq s.keys
      was k s true here = absurd cc
      was k s false here = apart.once k s here

      either : {o : Option (IndexSet Grain S)} (b : Bool) → o ≡ None → cond b None o ≡ None
      either true none = refl
      either false none = none

module _ {S : Type 0} (sets : BTreeMap ℕ (IndexSet Grain S)) (apart : AreApart sets) (id : Grain) (m : ℕ) (own : IfSome (map.get (notes_of sets.entries) id) (λ k. k ≡ m)) where
  -- where no set is of its moment, it has no note
  pub none_of_moment : tree.get nat_cmp sets m ≡ None → notes_of sets.entries ≡ forgotten (notes_of sets.entries) id
  none_of_moment none = sym (maps.remove-absent grain_cmp_total grain_cmp_exact (notes_of sets.entries) id (by (map.get (notes_of sets.entries) id) refl own))
    where
      by : (o : Option ℕ) → map.get (notes_of sets.entries) id ≡ o → IfSome o (λ k. k ≡ m) → map.get (notes_of sets.entries) id ≡ None
      by None is mine = is
      by (Some k) is mine = absurd (true≢false (sym (found_at sets.entries apart.ordered m id (sym (get-notes sets.entries id) ∙ is ∙ ap Some mine)) ∙ ap (has id) none))

-- ---- what is due

module _ {S : Type 0} where
  -- what AreApart says of the entries
  record AreSets (es : List (ℕ × IndexSet Grain S)) : Type 0 where
    ordered : IsStrictlySortedBy nat_cmp (keys_of es)
    once : (m : ℕ) (s : IndexSet Grain S) → set_of es m ≡ Some s → IsDistinct grain_eq s.keys
    alone : (m : ℕ) (q : Grain) → has q (set_of es m) ≡ true → moment_in es q ≡ Some m

  of_apart : (sets : BTreeMap ℕ (IndexSet Grain S)) → AreApart sets → AreSets sets.entries
  of_apart sets apart = record { ordered = apart.ordered; once = apart.once; alone = λ m q there. sym (get-notes sets.entries q) ∙ apart.alone m q there }

  -- what is behind the first set
  module _ (e : ℕ × IndexSet Grain S) (es : List (ℕ × IndexSet Grain S)) (sets : AreSets (e ∷ es)) where
    other_moments : (m : ℕ) {o : Option (IndexSet Grain S)} → set_of es m ≡ o → is_some o ≡ true → is_eq (nat_cmp m e.0) ≡ false
    unfolding IsStrictlySortedBy
    other_moments m is some = refused (is_eq (nat_cmp m e.0)) (λ t. true≢false (sym some ∙ ap is_some (sym is ∙ none_there e.0 es sets.ordered.0 m t)))

    rest_alone : (m : ℕ) (q : Grain) → has q (set_of es m) ≡ true → (list_any (grain_eq q) e.1.keys ≡ false) × (moment_in es q ≡ Some m)
    rest_alone m q there = by (list_any (grain_eq q) e.1.keys) refl (sets.alone m q (ap (λ b. has q (cond b (Some e.1) (set_of es m))) other ∙ there))
      where
        some : (o : Option (IndexSet Grain S)) → has q o ≡ true → is_some o ≡ true
        some None here = absurd (true≢false (sym here))
        some (Some s) here = refl

        other : is_eq (nat_cmp m e.0) ≡ false
        other = other_moments m refl (some (set_of es m) there)

        by : (b : Bool) → list_any (grain_eq q) e.1.keys ≡ b → cond b (Some e.0) (moment_in es q) ≡ Some m → (list_any (grain_eq q) e.1.keys ≡ false) × (moment_in es q ≡ Some m)
        by true t is = absurd (true≢false (sym (ap (λ k. is_eq (nat_cmp m k)) (same_Some e.0 m is) ∙ own_moment m) ∙ other))
        by false t is = (t, is)

    rest_sets : AreSets es
    unfolding IsStrictlySortedBy
    rest_sets = record {
      ordered = sets.ordered.1;
      once = λ m s is. sets.once m s (ap (λ b. cond b (Some e.1) (set_of es m)) (other_moments m is refl) ∙ is);
      alone = λ m q there. (rest_alone m q there).1;
    }

    none_behind : (q : Grain) → list_any (grain_eq q) e.1.keys ≡ true → moment_in es q ≡ None
    unfolding IsStrictlySortedBy
    none_behind q here = by (moment_in es q) refl
      where
        by : (o : Option ℕ) → moment_in es q ≡ o → o ≡ None
        by None is = refl
        by (Some m) is = absurd (true≢false (sym here ∙ (rest_alone m q (found_at es sets.ordered.1 m q is)).0))

  -- nothing is due that is later
  later : (now : ℕ) (es : List (ℕ × IndexSet Grain S)) → AllByRecursion (λ k. now < k) (keys_of es) → (q : Grain) → is_due now (moment_in es q) ≡ false
  later now [] after q = refl
  later now (e ∷ es) after q = by (list_any (grain_eq q) e.1.keys) (later now es after.1 q)
    where
      by : (b : Bool) → is_due now (moment_in es q) ≡ false → is_due now (cond b (Some e.0) (moment_in es q)) ≡ false
      by true more = lt-leb e.0 now after.0
      by false more = more

  above_now : (now m : ℕ) (es : List (ℕ × IndexSet Grain S)) → now < m → AllByRecursion (λ k. nat_cmp m k ≡ Less) (keys_of es) → AllByRecursion (λ k. now < k) (keys_of es)
  above_now now m [] after above = tt
  above_now now m (e ∷ es) after above = let below = is_below m e.0 above.0 in (omega (arith, after, below), above_now now m es after above.1)

  none_now : (now : ℕ) (e : ℕ × IndexSet Grain S) (es : List (ℕ × IndexSet Grain S)) → IsStrictlySortedBy nat_cmp (keys_of (e ∷ es)) → now < e.0
      → (q : Grain) → is_due now (map.get (notes_of (e ∷ es)) q) ≡ false
  unfolding IsStrictlySortedBy
  none_now now e es ordered after q = ap (is_due now) (get-notes (e ∷ es) q) ∙ later now (e ∷ es) (after, above_now now e.0 es after ordered.0) q

  -- the first sets have what is due
  first_holds : (now : ℕ) (es : List (ℕ × IndexSet Grain S)) → AreSets es → HoldsDue (notes_of es) now (first_due now es)
  unfolding IsDistinct
  first_holds now [] sets = record { once = tt; each = λ q. ap (is_due now) (sym (map.get-empty grain_cmp q)) }
  first_holds now (e ∷ es) sets = by (nat_le e.0 now) refl (first_holds now es (rest_sets e es sets))
    where
      all : HoldsDue (notes_of es) now (first_due now es) → HoldsDue (notes_of (e ∷ es)) now (cond (nat_le e.0 now) e.1.keys [] ++ first_due now es)
      all behind = due-all (notes_of es) e.1.keys e.0 now (first_due now es) (λ q here. get-notes es q ∙ none_behind e es sets q here)
          (sets.once e.0 e.1 (ap (λ b. cond b (Some e.1) (set_of es e.0)) (own_moment e.0))) behind

      by : (b : Bool) → nat_le e.0 now ≡ b → HoldsDue (notes_of es) now (first_due now es) → HoldsDue (notes_of (e ∷ es)) now (cond b (e.1.keys ++ first_due now es) [])
      by true t behind = subst (λ b. HoldsDue (notes_of (e ∷ es)) now (cond b e.1.keys [] ++ first_due now es)) t (all behind)
      by false f behind = record { once = tt; each = λ q. sym (none_now now e es sets.ordered (leb-false e.0 now f) q) }

  pub first_due-holds : (sets : BTreeMap ℕ (IndexSet Grain S)) → AreApart sets → (now : ℕ) → HoldsDue (notes_of sets.entries) now (first_due now sets.entries)
  first_due-holds sets apart now = first_holds now sets.entries (of_apart sets apart)

  -- it ends where one is later
  pub first_due-stops : (now : ℕ) (e : ℕ × IndexSet Grain S) (es : List (ℕ × IndexSet Grain S)) → now < e.0 → first_due now (e ∷ es) ≡ []
  first_due-stops now e es h = ap (λ b. cond b (e.1.keys ++ first_due now es) []) (lt-leb e.0 now h)
