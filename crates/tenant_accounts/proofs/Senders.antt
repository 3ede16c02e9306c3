-- What is left to deliver, by a walk over all accounts.
use Rattle.std.proofs.Common.{◌≡◌, ℕ, ◌≤◌, List, [], ◌∷◌, length, map as map_list, Option, Some, None, refl, ap, sym, ◌∙◌}
use Rattle.std.specs.Prelude.{string_bytes, bytes_eq, slice_get}
use Rattle.std.specs.FinMap as map
use Rattle.std.specs.FinMap.{FinMap}
use Rattle.std.proofs.lemmas.Map.Entries.{place_from_lookup}
use Rattle.std.proofs.lemmas.Option.{none-some, same_Some}
use Rattle.indexmap.specs.IndexMap.{IndexMap, get_by_text}
use Rattle.std.specs.declared.string.String.{String}
use Rattle.std.specs.declared.alloc.Global.{Global}
use Rattle.grain_id.specs.Names.{text_cmp}
use Rattle.tenant_accounts.specs.Kept.{Account}
use Rattle.tenant_accounts.specs.Sends.{sends_of}
use Rattle.tenant_accounts.specs.inside.Accounts.{by_bytes}
use Rattle.tenant_accounts.specs.Sends.{first_send, first_source, send_of}
use Rattle.tenant_accounts.specs.declared.account.Sent.{Sent}
use Rattle.tenant_accounts.proofs.AccountMaps.{get-by_bytes}
use Rattle.tenant_accounts.proofs.Walks.{HoldsBelow, of_all}

-- what is kept first was sent first
pub first_call : (es : List (ℕ × Sent)) (k : ℕ) (s : Sent) → slice_get es 0 ≡ Some (k, s) → first_send (map_list (λ e. send_of e.1) es) ≡ Some (send_of s)
first_call [] k s at = absurd (none-some (k, s) at)
first_call (e ∷ es) k s at = ap (λ (x : ℕ × Sent). Some (send_of x.1)) (same_Some e (k, s) at)

-- and its grain is the first
pub first_kept : (es : List (ℕ × Sent)) (k : ℕ) (s : Sent) → slice_get es 0 ≡ Some (k, s) → first_source (map_list (λ e. send_of e.1) es) ≡ Some s.source
first_kept [] k s at = absurd (none-some (k, s) at)
first_kept (e ∷ es) k s at = ap (λ (x : ℕ × Sent). Some x.1.source) (same_Some e (k, s) at)

module _ {S : Type 0} (by_name : IndexMap (String Global) Account S) (accounts : FinMap text_cmp Account) (shown : by_bytes by_name ≡ accounts) where
  module _ (n : ℕ) (reached : length by_name.entries ≤ n) (below : HoldsBelow (λ (e : String Global × Account). e.1.sends ≡ []) by_name.entries n) (tenant : List ℕ) where
    by_account : (o : Option Account) → get_by_text by_name tenant ≡ o → sends_of o ≡ []
    by_account None found = refl
    by_account (Some a) found =
        let place = place_from_lookup (λ k. bytes_eq tenant (string_bytes k)) by_name.entries a found in
        of_all (λ (e : String Global × Account). e.1.sends ≡ []) by_name.entries n reached below place.0 (place.1, a) place.2

    pub nothing_of : sends_of (map.get accounts tenant) ≡ []
    nothing_of =
        ap (λ (m : FinMap text_cmp Account). sends_of (map.get m tenant)) (sym shown)
        ∙ ap sends_of (get-by_bytes by_name tenant)
        ∙ by_account (get_by_text by_name tenant) refl
