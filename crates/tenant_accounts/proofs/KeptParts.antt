-- What is kept of accounts, account by account.
use Rattle.std.proofs.Common.{◌≡◌, ℕ, List, [], ◌∷◌, map, refl, ap, sym, ◌∙◌}
use Rattle.std.specs.Prelude.{string_bytes, option_map}
use Rattle.std.specs.FinMap as finite
use Rattle.std.specs.declared.string.String.{String}
use Rattle.std.specs.declared.alloc.Global.{Global}
use Rattle.finite_maps.specs.Mapped.{map_values}
use Rattle.finite_maps.proofs.Entries.{get-lookup, get-lookup_seen}
use Rattle.finite_maps.proofs.Mapped.{get-mapped}
use Rattle.grain_id.specs.Names.{text_cmp}
use Rattle.grain_id.proofs.ByGrain.{text_alike}
use Rattle.grain_id.proofs.Keys.{texts}
use Rattle.grain_id.proofs.Order.{text_cmp_exact, text_cmp_total}
use Rattle.tenant_accounts.specs.Kept.{Account, KeptAccount, kept_account}

-- the name's bytes, and what is kept of the account
abbrev pub by_name_kept : String Global × Account → List ℕ × KeptAccount
by_name_kept e = (string_bytes e.0, kept_account e.1)

abbrev by_name : String Global × Account → List ℕ × Account
by_name e = (string_bytes e.0, e.1)

both : (es : List (String Global × Account)) → map by_name_kept es ≡ map (λ (e : List ℕ × Account). (e.0, kept_account e.1)) (map by_name es)
both [] = refl
both (e ∷ es) = ap (λ rest. by_name_kept e ∷ rest) (both es)

-- what is kept of each account of a list is what is kept of the map that the list makes
pub kept_of_each : (es : List (String Global × Account)) → finite.from_entries {R = text_cmp} (map by_name_kept es) ≡ map_values kept_account (finite.from_entries (map by_name es))
kept_of_each es =
    ap finite.from_entries (both es)
    ∙ text_alike _ _ (λ q.
    get-lookup_seen texts kept_account (map by_name es) q
    ∙ ap (option_map kept_account) (sym (get-lookup texts (map by_name es) q))
    ∙ sym (get-mapped text_cmp_total text_cmp_exact kept_account (finite.from_entries (map by_name es)) q))
