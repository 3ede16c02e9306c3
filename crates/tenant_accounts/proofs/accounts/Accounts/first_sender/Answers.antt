use Rattle.std.proofs.Common.{◌≤◌, ap, sym, ◌∙◌, arith, length}
use Rattle.std.specs.Prelude.{string_bytes}
use Rattle.std.specs.Option.{option_copied}
use Rattle.std.specs.FinMap as map
use Rattle.std.specs.FinMap.{FinMap}
use Rattle.grain_id.specs.Names.{text_cmp}
use Rattle.tenant_accounts.specs.Kept.{Account}
use Rattle.tenant_accounts.specs.Sends.{sends_of}
use Rattle.tenant_accounts.specs.Sends.{first_source}
use Rattle.tenant_accounts.proofs.AccountMaps.{get-by_bytes}
use Rattle.tenant_accounts.proofs.Senders.{nothing_of}
use Rattle.tenant_accounts.proofs.accounts.Accounts.first_sender.Goals as goal

pub returns-in-Some-first_sender-clause-found : goal.returns-in-Some-first_sender-clause-found
returns-in-Some-first_sender-clause-found c =
    let name = string_bytes c.in-Some.field-0-0.now in (
      name,
      ap (λ (m : FinMap text_cmp Account). first_source (sends_of (map.get m name))) (sym c.self.view_is)
          ∙ ap (λ o. first_source (sends_of o)) (get-by_bytes c.self.inside.by_name name ∙ c.in-Some.ensures.value)
          ∙ sym c.first_sender.ensures
          ∙ ap option_copied c.in-Some-first_sender.is,
    )

pub returns-clause-none : goal.returns-clause-none
returns-clause-none c = λ tenant.
    let reached : length c.self.inside.by_name.entries ≤ c.places.place = omega (arith, c.len-place-end.ensures.len, c.places-test.false) in
    nothing_of c.self.inside.by_name c.args.self.now c.self.view_is c.places.place reached c.places.invariant tenant
