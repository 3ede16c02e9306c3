-- The gate of calls and pokes, by the table of tenants.
use Rattle.silo_model.proofs.Common.{if◌then◌else◌, ◌∙◌, ◌≡◌, Account, Bool, Context, Err, Grain, Limits, Logic, None, Ok, Option, Some}
use Rattle.silo_model.proofs.Common.{false, is_some, limits_of, refl, same_text, same_text_decides, sym, true, true≢false}
use Rattle.tenant_gate.specs.declared.gate.GateRefusal.TheVariants as refusal
use Rattle.tenant_gate.specs.Gate.{judged}
use Rattle.tenant_gate.specs.Table.{refused}
use Rattle.silo_model.specs.Gates.{AnswersAsTable, GateIsTables}
use Rattle.silo_model.proofs.CallRule.{gate_across, gate_by, gate_unknown_tenant}

module _ (logic : Logic) (s : Context) (grain : Grain) where
  by_own : (account : Account) → s.account ≡ Some account → (limits : Limits) → (own : Bool) → same_text grain.tenant s.tenant ≡ own
      → AnswersAsTable logic s grain (refused s.tenant grain (if own then Ok limits else Err refusal.AcrossTenants))
  by_own account known limits true own = (account, known, gate_by logic s grain account known true own)
  by_own account known limits false own = gate_across logic s grain account known (λ same. true≢false (sym ((same_text_decides grain.tenant s.tenant).1 same) ∙ own))

  by_account : (found : Option Account) → s.account ≡ found → (limits : Option Limits) → is_some found ≡ is_some limits → AnswersAsTable logic s grain (refused s.tenant grain (judged limits s.tenant grain))
  by_account None is None same = gate_unknown_tenant logic s grain is
  by_account None is (Some limits) same = absurd cc
  by_account (Some account) is None same = absurd cc
  by_account (Some account) is (Some limits) same = by_own account is limits (same_text grain.tenant s.tenant) refl

pub gate_is_tables : GateIsTables
gate_is_tables logic table s grain same = by_account logic s grain s.account refl (limits_of table s.tenant) same
