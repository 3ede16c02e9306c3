-- What the gate and the call rule answer to a request, by what a whole has, and how a function tells it.
use Rattle.std.specs.Prelude.{◌≡◌, ℕ, List, Option, Some, None, Result, Ok, Err}
use Rattle.std.specs.Borrow.{Bor}
use Rattle.std.specs.FinMap as map
use Rattle.grain_id.specs.Names.{Grain}
use Rattle.grain_logic.specs.Logic.{Logic}
use Rattle.silo_event.specs.declared.fault.Fault.{Fault}
use Rattle.silo_model.specs.Machine.{Account}
use Rattle.silo_model.specs.Calls.{gate, admitted}
use Rattle.silo_model.specs.Whole.{Whole}
use Rattle.silo_model.specs.Contexts.{context_of}

-- the account of the tenant, if it may ask the grain
abbrev pub gated : Logic → Whole → List ℕ → Grain → Result Account Fault
gated logic w tenant grain = gate logic (context_of w tenant grain) (map.get w.accounts tenant) grain

-- the same, if the tenant's request is accepted
abbrev pub verdict : Logic → Whole → List ℕ → Grain → Result Account Fault
verdict logic w tenant grain = admitted (context_of w tenant grain) grain (gated logic w tenant grain)

-- the account was lent, or this is why not
abbrev pub Passes : Result Account Fault → Result (Bor Account) Fault → Type 0
Passes r (Ok account) = r ≡ Ok account.now
Passes r (Err why) = r ≡ Err why

-- There is an account, or this is why not.
abbrev pub Settles : Result Account Fault → Option Fault → Type 0
Settles r None = (a : Account) × (r ≡ Ok a)
Settles r (Some why) = r ≡ Err why
