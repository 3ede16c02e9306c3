-- Pacing: a client asks only when all that it asked before is answered; and what that says of its answers.
use Rattle.std.specs.Prelude.{◌≡◌, ◌↔◌, Bool, true, false, not, ◌&&◌, List, [], ◌∷◌, ◌++◌, Option, Some, None}
use Rattle.grain_id.specs.Names.{Client}
use Rattle.silo_event.specs.declared.step.Step.{Step}
use Rattle.grain_logic.specs.Logic.{Logic}
use Rattle.grain_logic.specs.Laws.{ReadersAskNothing}
use Rattle.silo_model.specs.Machine.{Machine}
use Rattle.silo_model.specs.Whole.{Whole, shown_to}
use Rattle.silo_model.specs.Run.{machine_run, restricted_to}
use Rattle.silo_model.specs.Opening.{Setup, start_of}
use Rattle.silo_model.specs.Journal.{LeadsTo}
use Rattle.silo_model.specs.Pending.{has_pending}
use Rattle.lane_model.specs.Asking.{asker_of, ids_asked, ids_told}

-- the machine of the client's tenant, after its steps in the list
abbrev pub machine_of : Logic → Setup → List Step → Client → Machine
machine_of logic setup steps client = machine_run logic (start_of setup client.tenant) (restricted_to client.tenant steps)

-- nobody asks, or nothing of the one who asks waits or is open
abbrev pub may_ask : (Client → Machine) → Option Client → Bool
may_ask machine None = true
may_ask machine (Some client) = not (has_pending client (machine client))

-- so it is just before each of the steps, after those before them
abbrev pub paced_from : Logic → Setup → List Step → List Step → Bool
paced_from logic setup before [] = true
paced_from logic setup before (s ∷ steps) =
    may_ask (machine_of logic setup before) (asker_of s) && paced_from logic setup (before ++ s ∷ []) steps

-- so it is just before each of the journal's steps, in the machine of the tenant of the one who asks
abbrev pub is_paced : Logic → Setup → List Step → Bool
is_paced logic setup journal = paced_from logic setup [] journal

-- ---- the laws

-- It says of each step by which a client asks that nothing of it waited or was open just before.
abbrev pub PacedAtEach : Type 0
PacedAtEach = (logic : Logic) (setup : Setup) (journal : List Step) → (is_paced logic setup journal ≡ true)
    ↔ ((before after : List Step) (s : Step) (client : Client) → journal ≡ before ++ s ∷ after → asker_of s ≡ Some client
    → has_pending client (machine_of logic setup before client) ≡ false)

-- A journal with one step more is paced exactly if the journal is, and if nothing of the step's client waits or is
-- open in the whole that the journal leads to.
abbrev pub PacedGrows : Type 0
PacedGrows = (logic : Logic) (setup : Setup) (journal : List Step) (w : Whole) (s : Step) → LeadsTo logic setup journal w
    → is_paced logic setup (journal ++ s ∷ []) ≡ (is_paced logic setup journal && may_ask (λ client. shown_to client.tenant w) (asker_of s))

-- If a journal is paced, a client of whom nothing waits or is open has been told as much as it asked, in the order in
-- which it asked, each time under the number under which it asked.
abbrev pub AnsweredInOrder : Type 0
AnsweredInOrder = (logic : Logic) → ReadersAskNothing logic → (setup : Setup) (journal : List Step) (w : Whole) (client : Client)
    → LeadsTo logic setup journal w → is_paced logic setup journal ≡ true → has_pending client (shown_to client.tenant w) ≡ false
    → ids_told client w.replies ≡ ids_asked client journal
