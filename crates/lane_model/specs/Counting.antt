-- Whether something of a client waits or is open, told by how often it asked and was told: without a walk over all entries.
use Rattle.std.specs.Prelude.{◌≡◌, ◌↔◌, false, List, length}
use Rattle.grain_id.specs.Names.{Client}
use Rattle.silo_event.specs.declared.step.Step.{Step}
use Rattle.grain_logic.specs.Logic.{Logic}
use Rattle.grain_logic.specs.Laws.{ReadersAskNothing}
use Rattle.silo_model.specs.Whole.{Whole, shown_to}
use Rattle.silo_model.specs.Opening.{Setup}
use Rattle.silo_model.specs.Journal.{LeadsTo}
use Rattle.silo_model.specs.Pending.{has_pending}
use Rattle.lane_model.specs.Asking.{ids_asked, ids_told}

-- Nothing of a client waits or is open exactly if it was told as often as it asked.
abbrev pub PendingByCounts : Type 0
PendingByCounts =
    (logic : Logic) → ReadersAskNothing logic → (setup : Setup) (journal : List Step) (w : Whole) (client : Client)
    → LeadsTo logic setup journal w
    → (has_pending client (shown_to client.tenant w) ≡ false) ↔ (length (ids_told client w.replies) ≡ length (ids_asked client journal))
