use Rattle.std.proofs.Common.{◌≤◌, [], ◌∷◌, ◌++◌, length, map, take, ap, sym, ◌∙◌, arith}
use Rattle.std.specs.FinMap as finite
use Rattle.std.specs.FinMap.{FinMap}
use Rattle.std.proofs.lemmas.List.{map-append, take_all}
use Rattle.std.specs.declared.alloc.Global.{Global}
use Rattle.std.specs.declared.string.String.{String}
use Rattle.finite_maps.specs.Mapped.{map_values}
use Rattle.grain_id.specs.Names.{text_cmp}
use Rattle.tenant_accounts.specs.Kept.{Account, kept_account}
use Rattle.tenant_accounts.specs.Parts.{kept_in}
use Rattle.tenant_accounts.proofs.KeptParts.{by_name_kept, kept_of_each}
use Rattle.tenant_accounts.proofs.Walks.{take_one}
use Rattle.tenant_accounts.proofs.accounts.Accounts.kept.Goals as goal

pub places-preserved : goal.places-preserved
places-preserved c =
    let es = c.self.inside.by_name.entries in
    let i = c.places.place in
    let e : String Global × Account = (c.in-Some.name.now, c.in-Some.account.now) in
    ap (map kept_in) c.in_ok-push.ensures.items
    ∙ map-append kept_in c.places.parts.items (c.in_ok-parts_of.field-0 ∷ [])
    ∙ (λ j. c.places.invariant j ++ (c.in_ok-parts_of.ensures ∙ ap (λ name. (name, kept_account c.in-Some.account.now)) c.as_str.ensures.value) j ∷ [])
    ∙ sym (map-append by_name_kept (take i es) (e ∷ []))
    ∙ ap (map by_name_kept) (sym (take_one es i e (sym c.in-Some.ensures.entry)))

pub returns : goal.returns
returns c =
    let es = c.self.inside.by_name.entries in
    let reached : length es ≤ c.places.place = omega (arith, c.len-place-end.ensures.len, c.places-test.false) in
    ap finite.from_entries (c.places.invariant ∙ ap (map by_name_kept) (take_all c.places.place es reached))
    ∙ kept_of_each es
    ∙ ap (λ (m : FinMap text_cmp Account). map_values kept_account m) c.self.view_is
