-- The accounts of the first tenants of a table, and of one more.
use Rattle.std.proofs.Common.{◌≡◌, ℕ, Bool, true, false, cond, List, [], ◌∷◌, ◌++◌, Option, Some, None, is_some, refl, ap, sym, ◌∙◌}
use Rattle.std.specs.Prelude.{option_map, if◌then◌else◌}
use Rattle.std.specs.Option.{option_or}
use Rattle.std.specs.FinMap as map
use Rattle.grain_id.proofs.Keys.{texts}
use Rattle.finite_maps.proofs.Keys.{key_turned}
use Rattle.finite_maps.proofs.Entries.{get-lookup_seen, lookup_push}
use Rattle.grain_id.specs.Names.{same_text}
use Rattle.grain_id.proofs.Order.{same_text_decides}
use Rattle.tenant_gate.specs.declared.limits.Limits.{Limits}
use Rattle.tenant_gate.specs.Table.{Table, limits_of}
use Rattle.tenant_accounts.specs.Kept.{fresh_account, fresh_accounts}

-- what is known of a tenant as a silo opens: the limits that the table has of it
pub get-fresh_accounts : (tenants : Table) (t : List ℕ) → map.get (fresh_accounts tenants) t ≡ option_map fresh_account (limits_of tenants t)
get-fresh_accounts tenants t = get-lookup_seen texts fresh_account tenants t

module _ (table : Table) (name : List ℕ) (limits : Limits) (q : List ℕ) where
  turned : same_text q name ≡ same_text name q
  turned = key_turned texts q name

  pushed : limits_of (table ++ (name, limits) ∷ []) q ≡ option_or (limits_of table q) (cond (same_text name q) (Some limits) None)
  pushed = lookup_push (same_text q) table name limits ∙ ap (λ b. option_or (limits_of table q) (cond b (Some limits) None)) turned

  named : same_text name q ≡ true → limits_of table name ≡ limits_of table q
  named e = ap (limits_of table) ((same_text_decides name q).0 e)

  absent_or : (o : Option Limits) (b : Bool) → (b ≡ true → is_some (option_map fresh_account o) ≡ false)
      → (if b then Some (fresh_account limits) else option_map fresh_account o) ≡ option_map fresh_account (option_or o (cond b (Some limits) None))
  absent_or None true h = refl
  absent_or None false h = refl
  absent_or (Some l) true h = absurd (let e = h refl in cc)
  absent_or (Some l) false h = refl

  there_or : (o : Option Limits) (b : Bool) → (b ≡ true → is_some (option_map fresh_account o) ≡ true) → option_map fresh_account o ≡ option_map fresh_account (option_or o (cond b (Some limits) None))
  there_or None true h = absurd (let e = h refl in cc)
  there_or None false h = refl
  there_or (Some l) b h = refl

  -- one more tenant, that has no account yet
  pub pushed_new : is_some (option_map fresh_account (limits_of table name)) ≡ false
      → (if same_text name q then Some (fresh_account limits) else option_map fresh_account (limits_of table q)) ≡ option_map fresh_account (limits_of (table ++ (name, limits) ∷ []) q)
  pushed_new absent =
      absent_or (limits_of table q) (same_text name q) (λ e. ap (λ o. is_some (option_map fresh_account o)) (sym (named e)) ∙ absent)
      ∙ ap (option_map fresh_account) (sym pushed)

  -- or one that has an account already
  pub pushed_again : is_some (option_map fresh_account (limits_of table name)) ≡ true → option_map fresh_account (limits_of table q) ≡ option_map fresh_account (limits_of (table ++ (name, limits) ∷ []) q)
  pushed_again there =
      there_or (limits_of table q) (same_text name q) (λ e. ap (λ o. is_some (option_map fresh_account o)) (sym (named e)) ∙ there)
      ∙ ap (option_map fresh_account) (sym pushed)
