use Rattle.std.proofs.Common.{◌≡◌, [], ◌∷◌, ◌++◌, ◌+◌, false, true, Some, is_some, take, if◌then◌else◌, ap, sym, ◌∙◌}
use Rattle.std.specs.Prelude.{option_map}
use Rattle.indexmap.specs.IndexMap.{get_by_text}
use Rattle.std.proofs.lemmas.List.{take_more, take_all}
use Rattle.grain_id.specs.Names.{same_text}
use Rattle.grain_id.proofs.ByGrain.{text_alike}
use Rattle.tenant_gate.specs.Table.{limits_of}
use Rattle.tenant_accounts.specs.Kept.{fresh_account}
use Rattle.tenant_accounts.proofs.Tables.{get-fresh_accounts}
use Rattle.tenant_accounts.proofs.AccountMaps.{get-by_bytes}
use Rattle.tenant_accounts.proofs.Tables.{pushed_new, pushed_again}
use Rattle.tenant_accounts.proofs.accounts.Accounts.new.Goals as goal
use Rattle.tenant_accounts.proofs.accounts.Accounts.new.Goals.{then-not-contains_key+in_ok-add+in_ok-clone+in_ok-push, else-not-contains_key}

pub loop-tenant-preserved : goal.loop-tenant-preserved
loop-tenant-preserved c name =
    let list = c.args.tenants.now in
    let i = c.loop-tenant.tenant-index in
    let entry = c.loop-tenant-item.result in
    let before = c.loop-tenant.by_name in
    let kept = c.loop-tenant.invariant in
    let longer : take i list ++ entry ∷ [] ≡ take (i + 1) list = ap (λ e. take i list ++ e ∷ []) c.loop-tenant-item.is ∙ sym (take_more list i entry c.loop-tenant-test.true) in
    elim c.if-not-contains_key.branch [
      | then-not-contains_key+in_ok-add+in_ok-clone+in_ok-push w ↦
          let absent : is_some (get_by_text before entry.0) ≡ false = ap (λ n. is_some (get_by_text before n)) (sym c.text.ensures.text) ∙ sym w.if-not-contains_key.ensures in
          ap (λ m. get_by_text m name) w.by_name-is
          ∙ w.in_ok-add.ensures name
          ∙ ap (λ o. if same_text entry.0 name then Some (fresh_account entry.1) else o) (kept name)
          ∙ pushed_new (take i list) entry.0 entry.1 name (ap (λ o. is_some o) (sym (kept entry.0)) ∙ absent)
          ∙ ap (λ t. option_map fresh_account (limits_of t name)) longer
      | else-not-contains_key w ↦
          let there : is_some (get_by_text before entry.0) ≡ true = ap (λ n. is_some (get_by_text before n)) (sym c.text.ensures.text) ∙ sym w.if-not-contains_key.ensures in
          ap (λ m. get_by_text m name) w.by_name-is
          ∙ kept name
          ∙ pushed_again (take i list) entry.0 entry.1 name (ap (λ o. is_some o) (sym (kept entry.0)) ∙ there)
          ∙ ap (λ t. option_map fresh_account (limits_of t name)) longer
    ]

pub returns : goal.returns
returns c =
    let list = c.args.tenants.now in
    text_alike _ _ (λ q.
    get-by_bytes c.loop-tenant.by_name q
    ∙ c.loop-tenant.invariant q
    ∙ ap (λ t. option_map fresh_account (limits_of t q)) (take_all c.loop-tenant.tenant-index list c.loop-tenant-test.false)
    ∙ sym (get-fresh_accounts list q))
