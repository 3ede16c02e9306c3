-- A counter that can be called: what the guards of calls take as given.
use Rattle.std.specs.Prelude.{◌<◌, ◌∷◌, ◌≡◌, List, None, Some, ℕ, ℤ, [], codes}
use Rattle.std.specs.FinMap as map
use Rattle.grain_id.specs.Names.{Client, Grain}
use Rattle.tenant_gate.specs.declared.limits.Limits.{Limits}
use Rattle.tenant_gate.specs.Table.{limits_of}
use Rattle.silo_event.specs.declared.step.Step.{Step}
use Rattle.silo_event.specs.declared.step.Step.TheVariants.{Begin, Call, End}
use Rattle.silo_model.specs.Opening.{Setup, nothing_kept}
use Rattle.silo_model.specs.FirstCall.{add_call}

-- The silo is new. The client's tenant is known, and may have an activation and a request that waits; the grain is a counter of it, and no
-- row of it is stored.
pub record MayCount (setup : Setup) (caller : Client) (grain : Grain) : Type 0 where
  pub new : setup.kept ≡ nothing_kept
  pub limits : Limits
  pub known : limits_of setup.tenants caller.tenant ≡ Some limits
  pub activations : 0 < limits.activations
  pub mailbox : 0 < limits.mailbox
  pub own : grain.tenant ≡ caller.tenant
  pub kind : grain.kind ≡ codes "counter"
  pub unstored : map.get setup.rows grain ≡ None

-- the second call, and the steps that answer it: the grain is up
abbrev pub second_call : Client → ℕ → Grain → ℤ → List Step
second_call caller id grain n = Call caller id grain (add_call n) ∷ Begin grain ∷ End grain 2 ∷ []
