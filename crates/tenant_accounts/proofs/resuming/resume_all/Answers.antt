use Rattle.std.proofs.Common.{◌≤◌, ◌∷◌, [], ◌++◌, List, Some, map as map_list, ap, sym, ◌∙◌}
use Rattle.std.specs.FinMap as map
use Rattle.std.specs.FinMap.{FinMap}
use Rattle.std.proofs.lemmas.List.{append-nil, append_assoc}
use Rattle.std.proofs.lemmas.List.Elements.{All-pop}
use Rattle.grain_id.specs.Names.{text_cmp}
use Rattle.tenant_accounts.specs.Kept.{Account, last_number}
use Rattle.tenant_accounts.specs.Parts.{kept_in}
use Rattle.tenant_accounts.specs.declared.parts.AccountParts.{AccountParts}
use Rattle.tenant_accounts.specs.inside.Deliveries.{changed_account}
use Rattle.tenant_accounts.proofs.KeptAccounts.{again, none_resumed, resumed_first}
use Rattle.tenant_accounts.proofs.resuming.resume_all.Goals as goal

pub parts-init : goal.parts-init
parts-init c = ([], sym (append-nil c.args.kept.now), c.requires, c.in_ok-accounts.ensures ∙ sym (none_resumed c.args.tenants.now))

pub resume-requires : goal.resume-requires
resume-requires c =
    (All-pop (λ (p : AccountParts). p.count ≤ last_number) c.parts.rest.now c.in-Some.others.now (Some c.in-Some.part.now) c.in-Some.ensures.cases.0 c.parts.invariant.2).1

pub parts-preserved : goal.parts-preserved
parts-preserved c =
    let behind = c.parts.invariant.0 in
    let part = c.in-Some.part.now in
    let name = (kept_in part).0 in
    let others = c.in-Some.others.now in (
      part ∷ behind,
      c.parts.invariant.1 ∙ ap (λ (front : List AccountParts). front ++ behind) c.in-Some.ensures.cases.0 ∙ append_assoc others (part ∷ []) behind,
      (All-pop (λ (p : AccountParts). p.count ≤ last_number) c.parts.rest.now others (Some part) c.in-Some.ensures.cases.0 c.parts.invariant.2).0,
      c.in_ok-resume.ensures
          ∙ ap (λ (m : FinMap text_cmp Account). changed_account (again name (kept_in part).1) m name (map.get m name)) c.parts.invariant.3
          ∙ sym (resumed_first c.args.tenants.now (kept_in part) (map_list kept_in behind)),
    )
