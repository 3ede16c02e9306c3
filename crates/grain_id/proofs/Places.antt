-- The places of the separators in a text.
use Rattle.std.proofs.Common.{◌≡◌, ℕ, suc, ◌+◌, ◌-◌, ◌<◌, Bool, true, ◌&&◌, List, [], ◌∷◌, ◌++◌, length, take, drop, get_or, Some, ap, sym, ◌∙◌, subst, arith}
use Rattle.std.proofs.Math.Seq.{take-append_seam, drop-append-add, drop-cons, get_or-append_seam}
use Rattle.std.proofs.lemmas.List.{length-append, take-append-drop, drop-drop, get_or-drop, length-drop, get_or-append-add}
use Rattle.std.proofs.lemmas.Bool.{and_from}
use Rattle.grain_id.specs.Words.{is_word, is_name}
use Rattle.grain_id.specs.Names.{is_grain, is_client, grain_text, client_text, IsTextOfGrain, IsTextOfClient}
use Rattle.grain_id.specs.Reading.{cut_at}
use Rattle.grain_id.proofs.Reading.{cut_at-joined}
use Rattle.grain_id.specs.Order.{same_grain, same_client}
use Rattle.grain_id.specs.inside.Places.{grain_at, client_at, IsPlacedGrain, IsPlacedClient}

-- a list is what stands before a place, what stands there and what follows
pub split_at : (xs : List ℕ) (k c : ℕ) → k < length xs → get_or xs k 0 ≡ c → xs ≡ take k xs ++ c ∷ drop (k + 1) xs
split_at xs k c inside there =
    let next : suc k ≡ k + 1 = omega arith in
    sym (take-append-drop k xs) ∙ ap (λ back. take k xs ++ back) (drop-cons xs k 0 inside ∙ (λ i. there i ∷ drop (next i) xs))

pub grain_text-grain_at : (text : List ℕ) (slash colon : ℕ) → IsPlacedGrain text slash colon → text ≡ grain_text (grain_at text slash colon)
grain_text-grain_at text slash colon placed =
    let rest = drop (slash + 1) text in
    let at = colon - (slash + 1) in
    let inside : at < length rest = omega (arith, length-drop (slash + 1) text, placed.inside, placed.in_order) in
    let again : slash + 1 + at ≡ colon = omega (arith, placed.in_order) in
    let past : slash + 1 + (at + 1) ≡ colon + 1 = omega (arith, placed.in_order) in
    let there : get_or rest at 0 ≡ 58 = get_or-drop (slash + 1) text at 0 ∙ ap (λ k. get_or text k 0) again ∙ placed.colon_there in
    let back : drop (at + 1) rest ≡ drop (colon + 1) text = drop-drop (at + 1) (slash + 1) text ∙ ap (λ k. drop k text) past in
    split_at text slash 47 (omega (arith, placed.inside, placed.in_order)) placed.slash_there
    ∙ ap (λ after. take slash text ++ 47 ∷ after) (split_at rest at 58 inside there ∙ ap (λ name. take at rest ++ 58 ∷ name) back)

pub client_text-client_at : (text : List ℕ) (slash : ℕ) → IsPlacedClient text slash → text ≡ client_text (client_at text slash)
client_text-client_at text slash placed = split_at text slash 47 placed.inside placed.slash_there

pub is_text-grain_at : (text : List ℕ) (slash colon : ℕ) → IsPlacedGrain text slash colon → IsTextOfGrain text (grain_at text slash colon)
is_text-grain_at text slash colon placed = (placed.well_formed, grain_text-grain_at text slash colon placed)

pub is_text-client_at : (text : List ℕ) (slash : ℕ) → IsPlacedClient text slash → IsTextOfClient text (client_at text slash)
is_text-client_at text slash placed = (placed.well_formed, client_text-client_at text slash placed)

-- ---- the places that a cut finds

grain_at-parts : (kind tenant name : List ℕ) → grain_at (kind ++ 47 ∷ (tenant ++ 58 ∷ name)) (length kind) (length kind + 1 + length tenant) ≡ record { kind = kind; tenant = tenant; name = name }
grain_at-parts kind tenant name =
    let rest = tenant ++ 58 ∷ name in
    let text = kind ++ 47 ∷ rest in
    let width : length kind + 1 + length tenant - (length kind + 1) ≡ length tenant = omega arith in
    let past : length kind + 1 + length tenant + 1 ≡ length kind + (1 + (length tenant + 1)) = omega arith in
    let after : drop (length kind + 1) text ≡ rest = drop-append-add kind (47 ∷ rest) 1 in
    let middle : take (length kind + 1 + length tenant - (length kind + 1)) (drop (length kind + 1) text) ≡ tenant = (λ i. take (width i) (after i)) ∙ take-append_seam tenant (58 ∷ name) in
    let end : drop (length kind + 1 + length tenant + 1) text ≡ name =
    ap (λ k. drop k text) past ∙ drop-append-add kind (47 ∷ rest) (1 + (length tenant + 1)) ∙ drop-append-add (47 ∷ []) rest (length tenant + 1) ∙ drop-append-add tenant (58 ∷ name) 1 in
    same_grain _ _ (take-append_seam kind (47 ∷ rest)) middle end

client_at-parts : (tenant client : List ℕ) → client_at (tenant ++ 47 ∷ client) (length tenant) ≡ record { tenant = tenant; client = client }
client_at-parts tenant client = same_client _ _ (take-append_seam tenant (47 ∷ client)) (drop-append-add tenant (47 ∷ client) 1)

pub IsPlacedGrain-parts : (kind tenant name : List ℕ) → is_word kind ≡ true → is_word tenant ≡ true → is_name name ≡ true → IsPlacedGrain (kind ++ 47 ∷ (tenant ++ 58 ∷ name)) (length kind) (length kind + 1 + length tenant)
IsPlacedGrain-parts kind tenant name k t n =
    let rest = tenant ++ 58 ∷ name in
    let text = kind ++ 47 ∷ rest in
    let along : length kind + 1 + length tenant ≡ length kind + (1 + length tenant) = omega arith in
    record {
      well_formed = ap is_grain (grain_at-parts kind tenant name) ∙ and_from _ _ (and_from _ _ k t) n;
      in_order = omega arith;
      inside = omega (arith, length-append kind (47 ∷ rest), length-append tenant (58 ∷ name));
      slash_there = get_or-append_seam kind 47 rest 0;
      colon_there = ap (λ k. get_or text k 0) along ∙ get_or-append-add kind (47 ∷ rest) (1 + length tenant) 0 ∙ get_or-append-add (47 ∷ []) rest (length tenant) 0 ∙ get_or-append_seam tenant 58 name 0;
    }

pub IsPlacedClient-parts : (tenant client : List ℕ) → is_word tenant ≡ true → is_word client ≡ true → IsPlacedClient (tenant ++ 47 ∷ client) (length tenant)
IsPlacedClient-parts tenant client t c = record {
  well_formed = ap is_client (client_at-parts tenant client) ∙ and_from _ _ t c;
  inside = omega (arith, length-append tenant (47 ∷ client));
  slash_there = get_or-append_seam tenant 47 client 0;
}

pub IsPlacedGrain-cuts : (text kind rest tenant name : List ℕ) → cut_at 47 text ≡ Some (kind, rest) → cut_at 58 rest ≡ Some (tenant, name) → is_word kind ≡ true → is_word tenant ≡ true → is_name name ≡ true → IsPlacedGrain text (length kind) (length kind + 1 + length tenant)
IsPlacedGrain-cuts text kind rest tenant name first second k t n =
    let whole : text ≡ kind ++ 47 ∷ (tenant ++ 58 ∷ name) = cut_at-joined 47 text kind rest first ∙ ap (λ back. kind ++ 47 ∷ back) (cut_at-joined 58 rest tenant name second) in
    subst (λ x. IsPlacedGrain x (length kind) (length kind + 1 + length tenant)) (sym whole) (IsPlacedGrain-parts kind tenant name k t n)

pub IsPlacedClient-cut : (text tenant client : List ℕ) → cut_at 47 text ≡ Some (tenant, client) → is_word tenant ≡ true → is_word client ≡ true → IsPlacedClient text (length tenant)
IsPlacedClient-cut text tenant client cut t c = subst (λ x. IsPlacedClient x (length tenant)) (sym (cut_at-joined 47 text tenant client cut)) (IsPlacedClient-parts tenant client t c)
