-- The numbers by tenant, after a change at one name.
use Rattle.std.proofs.Common.{◌≡◌, ℕ, Bool, true, false, cond, List, Some, is_some, refl, ap, sym, ◌∙◌}
use Rattle.std.proofs.lemmas.Map.Text.{hash_map_updates_text}
use Rattle.std.specs.Prelude.{bytes_eq, string_bytes}
use Rattle.std.specs.Option.{unwrap_or}
use Rattle.std.specs.String.{string_eq}
use Rattle.indexmap.specs.IndexMap.{get_by_text, UpdatesBy}
use Rattle.finite_maps.proofs.Options.{none_from_is_some}
use Rattle.grain_id.proofs.Order.{same_text_decides}
use Rattle.activation_directory.specs.inside.Counts.{Numbers, kept, SameNumbers, NumbersTo}

-- a number written at a name
pub NumbersTo-from_updates : (m n : Numbers) (t : List ℕ) (w : ℕ) → UpdatesBy string_eq (λ k. bytes_eq t (string_bytes k)) m n (Some w) → NumbersTo m n t w
NumbersTo-from_updates m n t w u other = ap (λ o. unwrap_or o 0) (hash_map_updates_text t m n (Some w) u other) ∙ by (bytes_eq t other)
  where
    by : (b : Bool) → unwrap_or (cond b (Some w) (get_by_text m other)) 0 ≡ cond b w (kept m other)
    by true = refl
    by false = refl

-- a 0 where there is no number changes no number
pub SameNumbers-from_zero : (m n : Numbers) (t : List ℕ) → UpdatesBy string_eq (λ k. bytes_eq t (string_bytes k)) m n (Some 0) → is_some (get_by_text m t) ≡ false → SameNumbers m n
SameNumbers-from_zero m n t u none other = NumbersTo-from_updates m n t 0 u other ∙ by (bytes_eq t other) refl
  where
    by : (b : Bool) → bytes_eq t other ≡ b → cond b 0 (kept m other) ≡ kept m other
    by true e = ap (λ o. unwrap_or o 0) (sym (none_from_is_some (get_by_text m t) none)) ∙ ap (kept m) ((same_text_decides t other).0 e)
    by false e = refl

pub kept-some : (m : Numbers) (t : List ℕ) (n : ℕ) → Some n ≡ get_by_text m t → n ≡ kept m t
kept-some m t n e = ap (λ o. unwrap_or o 0) e
