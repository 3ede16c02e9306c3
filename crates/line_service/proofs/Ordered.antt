-- What grains are told, in the order of the grains.
use Rattle.std.proofs.Common.{◌≡◌, Bool, true, false, cond, List, [], ◌∷◌, ◌++◌, Some, None, refl, ap, sym, subst, ◌∙◌}
use Rattle.std.specs.Prelude.{T, ◌||◌, map as map_list, if◌then◌else◌}
use Rattle.std.specs.Borrow.{Bor}
use Rattle.std.specs.Global.{Vec}
use Rattle.std.specs.Ordering.{eq_by_cmp}
use Rattle.std.specs.List.{list_any}
use Rattle.std.specs.List.Sorted.{IsStrictlySortedBy}
use Rattle.std.specs.BTreeMap.{BTreeMap, IsOrdered, values}
use Rattle.std.specs.Map.{values_of}
use Rattle.std.specs.FinMap as finite
use Rattle.std.specs.FinMap.{find, is_sorted}
use Rattle.std.specs.FinMap.Entries.{same_entries}
use Rattle.std.proofs.lemmas.Map.Made.{keys_of-map_values, lookup-map_values}
use Rattle.grain_id.proofs.Keys.{grains}
use Rattle.finite_maps.proofs.Keys.{keys_by_order}
use Rattle.finite_maps.proofs.Entries.{find-lookup, ties_turned}
use Rattle.finite_maps.proofs.Ascending.{is_sorted-true}
use Rattle.grain_id.specs.Names.{Grain, grain_cmp, grain_eq}
use Rattle.grain_id.proofs.Order.{grain_cmp_total, grain_cmp_exact, eq_by_cmp-Decides}
use Rattle.silo_event.specs.declared.reply.Party.{Party}
use Rattle.silo_event.specs.declared.reply.Party.TheVariants as party
use Rattle.silo_event.specs.declared.reply.Reply.{Reply}
use Rattle.line_service.specs.ServedText.{grain_of, grains_told, is_grain, replies_by_grain, replies_to_grain}
use Rattle.line_service.specs.inside.Told.{HoldTold, if_any, replies_at}

-- ---- what stands at a grain

abbrev ties : Grain → Grain → Bool
ties = eq_by_cmp grain_cmp

module _ (replies : Grain → List Reply) where
  abbrev with_replies : List Grain → List (Grain × List Reply)
  with_replies grains = map_list (λ grain. (grain, replies grain)) grains

  -- the replies to the grain are found, if it is one of the grains
  find-with_replies : (q : Grain) (grains : List Grain) → find grain_cmp q (with_replies grains) ≡ cond (list_any (ties q) grains) (Some (replies q)) None
  find-with_replies q [] = refl
  find-with_replies q (grain ∷ grains) = by_tie (ties q grain) refl (find-with_replies q grains)
    where
      by_tie : (b : Bool) → ties q grain ≡ b → find grain_cmp q (with_replies grains) ≡ cond (list_any (ties q) grains) (Some (replies q)) None
          → cond (ties q grain) (Some (replies grain)) (find grain_cmp q (with_replies grains)) ≡ cond (ties q grain || list_any (ties q) grains) (Some (replies q)) None
      by_tie true tied rest =
          ap (λ b. cond b (Some (replies grain)) (find grain_cmp q (with_replies grains))) tied
          ∙ ap (λ (g : Grain). Some (replies g)) (sym ((eq_by_cmp-Decides grain_cmp_total grain_cmp_exact q grain).0 tied))
          ∙ ap (λ b. cond (b || list_any (ties q) grains) (Some (replies q)) None) (sym tied)
      by_tie false untied rest =
          ap (λ b. cond b (Some (replies grain)) (find grain_cmp q (with_replies grains))) untied
          ∙ rest
          ∙ ap (λ b. cond (b || list_any (ties q) grains) (Some (replies q)) None) (sym untied)

abbrev has_any : List Reply → Bool
has_any [] = false
has_any (r ∷ rs) = true

if_any-cond : (rs : List Reply) → if_any rs ≡ cond (has_any rs) (Some rs) None
if_any-cond [] = refl
if_any-cond (r ∷ rs) = refl

-- a grain is told something exactly if it is one of those that are
is_told : (q : Grain) (rs : List Reply) → has_any (replies_to_grain q rs) ≡ list_any (ties q) (grains_told rs)
is_told q [] = refl
is_told q (r ∷ rs) = by_party (is_told q rs) r.recipient
  where
    by_test : has_any (replies_to_grain q rs) ≡ list_any (ties q) (grains_told rs) → (b : Bool) → has_any (if b then r ∷ replies_to_grain q rs else replies_to_grain q rs) ≡ (b || list_any (ties q) (grains_told rs))
    by_test others true = refl
    by_test others false = others

    by_party : has_any (replies_to_grain q rs) ≡ list_any (ties q) (grains_told rs) → (p : Party) → has_any (if is_grain q p then r ∷ replies_to_grain q rs else replies_to_grain q rs) ≡ list_any (ties q) (grain_of p ++ grains_told rs)
    by_party others (party.Client caller id) = others
    by_party others (party.Grain told) = by_test others (grain_eq told q) ∙ ap (λ b. b || list_any (ties q) (grains_told rs)) (sym (ties_turned grains told q))

get-replies_by_grain : (q : Grain) (rs : List Reply) → find grain_cmp q (finite.entries (replies_by_grain rs)) ≡ if_any (replies_to_grain q rs)
get-replies_by_grain q rs =
    let replies = λ (grain : Grain). replies_to_grain grain rs in
    sym (finite.get-entries (replies_by_grain rs) q)
    ∙ finite.get-from_entries grain_cmp_total (with_replies replies (grains_told rs)) q
    ∙ find-with_replies replies q (grains_told rs)
    ∙ ap (λ b. cond b (Some (replies q)) None) (sym (is_told q rs))
    ∙ sym (if_any-cond (replies_to_grain q rs))

-- ---- in the order of the grains

abbrev shown : List (Grain × Vec (Bor Reply)) → List (Grain × List Reply)
shown es = map_list (λ (e : Grain × Vec (Bor Reply)). (e.0, replies_at e.1)) es

values_shown : (es : List (Grain × Vec (Bor Reply))) → map_list replies_at (values_of es) ≡ map_list (λ (e : Grain × List Reply). e.1) (shown es)
values_shown [] = refl
values_shown (e ∷ es) = ap (λ rs. replies_at e.1 ∷ rs) (values_shown es)

-- the replies that are collected are those by grain, grains ascending
pub collected_in_order : (told : BTreeMap Grain (Vec (Bor Reply))) (rs : List Reply) → HoldTold told rs → IsOrdered grain_cmp told → map_list replies_at (values told) ≡ finite.values (replies_by_grain rs)
collected_in_order told rs hold ordered =
    let es = shown told.entries in
    let sorted : T (is_sorted grain_cmp es) = subst T (sym (is_sorted-true grain_cmp es (subst (IsStrictlySortedBy grain_cmp) (sym (keys_of-map_values replies_at told.entries)) ordered))) tt in
    let found : (q : Grain) → find grain_cmp q es ≡ find grain_cmp q (finite.entries (replies_by_grain rs)) =
    (λ q. find-lookup (keys_by_order grain_cmp_total grain_cmp_exact) es q ∙ lookup-map_values replies_at (λ k. ties q k) told.entries ∙ hold q ∙ sym (get-replies_by_grain q rs)) in
    values_shown told.entries
    ∙ ap (map_list (λ (e : Grain × List Reply). e.1)) (same_entries grain_cmp grain_cmp_total grain_cmp_exact es (finite.entries (replies_by_grain rs)) sorted (finite.entries_sorted (replies_by_grain rs)) found)
