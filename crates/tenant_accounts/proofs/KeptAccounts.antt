-- Accounts by what is kept of them, from one part to the next.
use Rattle.std.proofs.Common.{◌≡◌, ℕ, Bool, true, false, cond, List, [], ◌∷◌, ◌++◌, map as map_list, Option, Some, None, refl, ap, sym, ◌∙◌}
use Rattle.std.specs.Prelude.{option_map}
use Rattle.std.specs.FinMap as map
use Rattle.std.specs.FinMap.{FinMap}
use Rattle.std.specs.Map.{lookup}
use Rattle.std.proofs.lemmas.List.Elements.{filter-append}
use Rattle.finite_maps.proofs.Choices.{cond-same}
use Rattle.finite_maps.proofs.Entries.{get-insert_key, get-lookup}
use Rattle.finite_maps.proofs.Keys.{key_turned}
use Rattle.grain_id.specs.Names.{same_text, text_cmp}
use Rattle.grain_id.proofs.ByGrain.{text_alike}
use Rattle.grain_id.proofs.Keys.{texts}
use Rattle.grain_id.proofs.Order.{same_text_decides}
use Rattle.tenant_gate.specs.declared.limits.Limits.{Limits}
use Rattle.tenant_gate.specs.Table.{Table, limits_of}
use Rattle.tenant_accounts.specs.Kept.{Account, KeptAccount, Send, account_by, fresh_accounts, own_sends, resumed_accounts}
use Rattle.tenant_accounts.specs.inside.Deliveries.{changed_account}
use Rattle.tenant_accounts.proofs.Tables.{get-fresh_accounts}

-- ---- what is known of a tenant

looked_up : (f : List ℕ → Limits → Account) (t : List ℕ) (es : Table)
    → lookup (same_text t) (map_list (λ (e : List ℕ × Limits). (e.0, f e.0 e.1)) es) ≡ option_map (f t) (limits_of es t)
looked_up f t [] = refl
looked_up f t (e ∷ es) = by_test (same_text t e.0) refl (looked_up f t es)
  where
    rest : Option Account
    rest = lookup (same_text t) (map_list (λ (x : List ℕ × Limits). (x.0, f x.0 x.1)) es)

    by_test : (b : Bool) → same_text t e.0 ≡ b → rest ≡ option_map (f t) (limits_of es t) → cond b (Some (f e.0 e.1)) rest ≡ option_map (f t) (cond b (Some e.1) (limits_of es t))
    by_test true is found = ap (λ x. Some (f x e.1)) (sym ((same_text_decides t e.0).0 is))
    by_test false apart found = found

-- the account by the limits that the table has of the tenant, and by what is kept of it
abbrev pub known : FinMap text_cmp KeptAccount → List ℕ → Limits → Account
known kept t limits = account_by t limits (map.get kept t)

pub get-resumed_accounts : (tenants : Table) (kept : FinMap text_cmp KeptAccount) (t : List ℕ) → map.get (resumed_accounts tenants kept) t ≡ option_map (known kept t) (limits_of tenants t)
get-resumed_accounts tenants kept t = get-lookup texts (map_list (λ (e : List ℕ × Limits). (e.0, known kept e.0 e.1)) tenants) t ∙ looked_up (known kept) t tenants

-- where nothing is kept, the accounts are fresh
pub none_resumed : (tenants : Table) → resumed_accounts tenants (map.from_entries []) ≡ fresh_accounts tenants
none_resumed tenants = text_alike _ _ (λ t.
    get-resumed_accounts tenants (map.from_entries []) t
    ∙ ap (λ (o : Option KeptAccount). option_map (λ limits. account_by t limits o) (limits_of tenants t)) (get-lookup texts {X = KeptAccount} [] t)
    ∙ sym (get-fresh_accounts tenants t))

-- ---- one part more

-- the tenant's account as it is made again
abbrev pub again : List ℕ → KeptAccount → Account → Account
again name k a = account_by name a.limits (Some k)

made_again : (kept : FinMap text_cmp KeptAccount) (name : List ℕ) (k : KeptAccount) (o : Option Limits) → option_map (λ limits. account_by name limits (Some k)) o ≡ option_map (again name k) (option_map (known kept name) o)
made_again kept name k None = refl
made_again kept name k (Some limits) = by (map.get kept name)
  where
    by : (o : Option KeptAccount) → Some (account_by name limits (Some k)) ≡ Some (again name k (account_by name limits o))
    by None = refl
    by (Some was) = refl

module _ (tenants : Table) (kept more : FinMap text_cmp KeptAccount) (name : List ℕ) (k : KeptAccount) (has : (q : List ℕ) → map.get more q ≡ cond (same_text q name) (Some k) (map.get kept q)) where
  abbrev before : FinMap text_cmp Account
  before = resumed_accounts tenants kept

  -- where the name is another, what was known; and else the account that is made again
  found_at : (q : List ℕ) (b : Bool) → same_text q name ≡ b → map.get (resumed_accounts tenants more) q ≡ cond b (option_map (again name k) (map.get before name)) (map.get before q)
  found_at q true is =
      get-resumed_accounts tenants more q
      ∙ ap (λ (o : Option KeptAccount). option_map (λ limits. account_by q limits o) (limits_of tenants q)) (has q ∙ ap (λ b. cond b (Some k) (map.get kept q)) is)
      ∙ ap (λ t. option_map (λ limits. account_by t limits (Some k)) (limits_of tenants t)) ((same_text_decides q name).0 is)
      ∙ made_again kept name k (limits_of tenants name)
      ∙ ap (option_map (again name k)) (sym (get-resumed_accounts tenants kept name))
  found_at q false apart =
      get-resumed_accounts tenants more q
      ∙ ap (λ (o : Option KeptAccount). option_map (λ limits. account_by q limits o) (limits_of tenants q)) (has q ∙ ap (λ b. cond b (Some k) (map.get kept q)) apart)
      ∙ sym (get-resumed_accounts tenants kept q)

  by_account : (o : Option Account) → map.get before name ≡ o → resumed_accounts tenants more ≡ changed_account (again name k) before name o
  by_account None absent = text_alike _ _ (λ q.
      found_at q (same_text q name) refl
      ∙ cond-same (same_text q name) (option_map (again name k) (map.get before name)) (map.get before q)
      (λ is. ap (option_map (again name k)) absent ∙ sym absent ∙ ap (map.get before) (sym ((same_text_decides q name).0 is))))
  by_account (Some a) there = text_alike _ _ (λ q.
      found_at q (same_text q name) refl
      ∙ (λ i. cond (key_turned texts q name i) (option_map (again name k) (there i)) (map.get before q))
      ∙ sym (get-insert_key texts before name (again name k a) q))

  pub resumed_more : resumed_accounts tenants more ≡ changed_account (again name k) before name (map.get before name)
  resumed_more = by_account (map.get before name) refl

-- the parts with one more in front: of those with one name the first counts
pub resumed_first : (tenants : Table) (e : List ℕ × KeptAccount) (es : List (List ℕ × KeptAccount))
    → resumed_accounts tenants (map.from_entries (e ∷ es))
    ≡ changed_account (again e.0 e.1) (resumed_accounts tenants (map.from_entries es)) e.0 (map.get (resumed_accounts tenants (map.from_entries es)) e.0)
resumed_first tenants e es = resumed_more tenants (map.from_entries es) (map.from_entries (e ∷ es)) e.0 e.1 (λ q.
    get-lookup texts (e ∷ es) q ∙ ap (cond (same_text q e.0) (Some e.1)) (sym (get-lookup texts es q)))

-- ---- what was sent

-- one more that was sent stays if the tenant's own grain sent it
pub own_push : (t : List ℕ) (sends : List Send) (s : Send) (b : Bool) → same_text s.source.tenant t ≡ b → own_sends t (sends ++ s ∷ []) ≡ own_sends t sends ++ cond b (s ∷ []) []
own_push t sends s b is =
    filter-append (λ (x : Send). same_text x.source.tenant t) sends (s ∷ [])
    ∙ ap (λ b. own_sends t sends ++ cond b (s ∷ []) []) is
