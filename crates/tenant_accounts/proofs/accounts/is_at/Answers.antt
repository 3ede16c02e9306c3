use Rattle.std.proofs.Common.{ap, sym, ◌∙◌}
use Rattle.std.specs.Cmp.Lexicographic.{bytes_decides}
use Rattle.std.specs.Prelude.{string_bytes, bytes_eq}
use Rattle.tenant_accounts.proofs.AccountMaps.{placed}
use Rattle.tenant_accounts.proofs.accounts.is_at.Goals as goal

pub returns : goal.returns
returns c = λ is.
    let tenant = c.args.tenant.now in
    let same = ap (λ name. bytes_eq name tenant) (sym c.as_str.ensures.value) ∙ sym c.eq.ensures ∙ is in
    placed c.args.by_name.now tenant c.args.place c.in-Some.name.now c.in-Some.field-0-1.now (sym c.in-Some.ensures.entry) ((bytes_decides (string_bytes c.in-Some.name.now) tenant).0 same) c.in-Some.ensures.value
