-- A counter's first call, from the opening to its reply: the laws are said of a silo that does something.
use Rattle.std.specs.Prelude.{◌≡◌, ℕ, List, [], ◌∷◌, Some, None, Ok, true, false, ℤ, codes, ◌<◌}
use Rattle.std.specs.FinMap as finite
use Rattle.grain_id.specs.Names.{Grain, Client}
use Rattle.request_codec.specs.Tree.{integer, field, no_fields, map}
use Rattle.request_codec.specs.Call as codec
use Rattle.request_codec.specs.Call.{asks}
use Rattle.grain_logic.specs.Adding.{fits_64}
use Rattle.grain_logic.specs.Counters.{counters}
use Rattle.tenant_gate.specs.declared.limits.Limits.{Limits}
use Rattle.tenant_gate.specs.Table.{limits_of}
use Rattle.silo_event.specs.declared.step.Step.{Step}
use Rattle.silo_event.specs.declared.step.Step.TheVariants.{Call, Activate, Load, Begin, End}
use Rattle.silo_event.specs.declared.reply.Party.TheVariants as party
use Rattle.silo_model.specs.Calls.{told}
use Rattle.silo_model.specs.Whole.{Whole}
use Rattle.silo_model.specs.Opening.{Setup, nothing_kept}
use Rattle.silo_model.specs.Journal.{LeadsTo}

-- `add` of `{"by": n}`
abbrev pub add_call : ℤ → codec.Call
add_call n = asks (codes "add") (map (field (codes "by") (integer n) no_fields))

-- the call, and then the steps that answer it
abbrev pub first_call : Client → ℕ → Grain → ℤ → List Step
first_call caller id grain n = Call caller id grain (add_call n) ∷ Activate grain ∷ Load grain false ∷ Begin grain ∷ End grain 1 ∷ []

-- Where nothing was kept: if a client that is known, and may have an activation, adds to a counter of its tenant of which no row is stored,
-- all five steps are done, and the number is the one reply.
abbrev pub FirstCallAnswered : Type 0
FirstCallAnswered = (setup : Setup) (limits : Limits) (caller : Client) (id : ℕ) (grain : Grain) (n : ℤ)
    → setup.kept ≡ nothing_kept → limits_of setup.tenants caller.tenant ≡ Some limits → 0 < limits.activations
    → grain.tenant ≡ caller.tenant → grain.kind ≡ codes "counter" → finite.get setup.rows grain ≡ None → fits_64 n ≡ true
    → (w : Whole) × LeadsTo counters setup (first_call caller id grain n) w × (w.replies ≡ told (party.Client caller id) (Ok (integer n)))
