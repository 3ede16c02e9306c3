-- Names that are found one after another come to stand once each, ascending.
use Rattle.silo_model.proofs.Common.{[], ◌++◌, ◌+◌, ◌<◌, ◌||◌, ◌∙◌, ◌∷◌, ◌≡◌, Bool, Less, List, Ordering, ap, false, flat_map, length, list_any-append, map_list, refl, same_text, subst, sym, text_cmp, text_cmp_exact, texts, true, ℕ}
use Rattle.std.proofs.Common.{take, get_or}
use Rattle.std.specs.List.Sorted.{IsStrictlySortedBy}
use Rattle.std.specs.declared.cmp.Ordering.TheVariants.{Equal, Greater}
use Rattle.std.specs.Ordering.{match_ordering}
use Rattle.std.specs.FinMap as map
use Rattle.std.specs.BTreeSet.{insert_key}
use Rattle.std.proofs.lemmas.List.{flat_map_more, map_more, take_more}
use Rattle.std.proofs.Math.Bool.{or-false, or_assoc}
use Rattle.finite_maps.proofs.Sets.{keys-set_of, set_of-alike}
use Rattle.audit_model.specs.Parts.{is_listed, ascending}
use Rattle.tenant_audit.specs.inside.Owners.{Gains}

-- ---- names more

or_again : (a b : Bool) → (a || b) ≡ ((a || b) || (a || false))
or_again true b = refl
or_again false b = sym (or-false b)

or_last : (a b : Bool) → (a || b) ≡ (b || (a || false))
or_last true true = refl
or_last true false = refl
or_last false true = refl
or_last false false = refl

pub gains_none : (old : List (List ℕ)) → Gains old [] old
gains_none old = λ name. sym (or-false (is_listed old name))

pub gains_more : (old mid new some more : List (List ℕ)) → Gains old some mid → Gains mid more new → Gains old (some ++ more) new
gains_more old mid new some more first second = λ name.
    second name
    ∙ ap (λ b. b || is_listed more name) (first name)
    ∙ or_assoc (is_listed old name) (is_listed some name) (is_listed more name)
    ∙ ap (λ b. is_listed old name || b) (sym (list_any-append (same_text name) some more))

-- a name that is put in its place
pub gains_one : (names : List (List ℕ)) (k : List ℕ) → Gains names (k ∷ []) (insert_key text_cmp names k)
gains_one [] k name = refl
gains_one (x ∷ names) k name = by_order (text_cmp k x) refl (gains_one names k name)
  where
    by_order : (o : Ordering) → text_cmp k x ≡ o → is_listed (insert_key text_cmp names k) name ≡ (is_listed names name || (same_text name k || false))
        → is_listed (match_ordering o (k ∷ x ∷ names) (x ∷ names) (x ∷ insert_key text_cmp names k)) name ≡ (is_listed (x ∷ names) name || (same_text name k || false))
    by_order Less is rest = or_last (same_text name k) (is_listed (x ∷ names) name)
    by_order Equal is rest =
        or_again (same_text name x) (is_listed names name)
        ∙ ap (λ t. (same_text name x || is_listed names name) || (same_text name t || false)) (sym (text_cmp_exact k x is))
    by_order Greater is rest = ap (λ b. same_text name x || b) rest ∙ sym (or_assoc (same_text name x) (is_listed names name) (same_text name k || false))

-- ---- names that ascend

-- names that ascend are those that they are
pub ascending_are : (names owners : List (List ℕ)) → IsStrictlySortedBy text_cmp names → ((name : List ℕ) → is_listed names name ≡ is_listed owners name) → names ≡ ascending owners
ascending_are names owners sorted same = sym (keys-set_of texts names sorted) ∙ ap map.keys (set_of-alike texts names owners same)

-- ---- names of a list of things, one thing more

-- a thing of which there is no name, or one
pub owners_more : {X : Type 0} (f : X → List (List ℕ)) (old now new : List (List ℕ)) (xs : List X) (i : ℕ) (x : X) → i < length xs → x ≡ get_or xs i x → Gains old (flat_map f (take i xs)) now → Gains now (f x) new → Gains old (flat_map f (take (i + 1) xs)) new
owners_more f old now new xs i x within at had more =
    subst (λ (names : List (List ℕ)). Gains old names new)
    (flat_map_more f [] (take i xs) x ∙ ap (flat_map f) (ap (λ y. take i xs ++ y ∷ []) at ∙ sym (take_more xs i x within)))
    (gains_more old now new (flat_map f (take i xs)) (f x) had more)

pub names_more : {X : Type 0} (f : X → List ℕ) (old now new : List (List ℕ)) (xs : List X) (i : ℕ) (x : X) → i < length xs → x ≡ get_or xs i x → Gains old (map_list f (take i xs)) now → Gains now (f x ∷ []) new → Gains old (map_list f (take (i + 1) xs)) new
names_more f old now new xs i x within at had more =
    subst (λ (names : List (List ℕ)). Gains old names new)
    (ap (λ y. map_list f (take i xs) ++ f y ∷ []) at ∙ sym (map_more f xs i x within))
    (gains_more old now new (map_list f (take i xs)) (f x ∷ []) had more)

-- those of three lists, one list after another
pub owners_found : (a b c first second all : List (List ℕ)) → Gains [] a first → Gains first b second → Gains second c all → IsStrictlySortedBy text_cmp all → all ≡ ascending (a ++ b ++ c)
owners_found a b c first second all one two three sorted =
    ascending_are all (a ++ b ++ c) sorted (gains_more [] second all (a ++ b) c (gains_more [] first second a b one two) three)
