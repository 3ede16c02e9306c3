-- What a silo is left as after lanes were served.
use Rattle.std.specs.Prelude.{◌≡◌, ◌<◌, ◌+◌, ℕ, true, List, [], ◌∷◌, filter, length, count_by, map as map_list, Option, Some, None, Ok}
use Rattle.std.specs.Prelude.{ℤ, codes}
use Rattle.std.specs.FinMap as map
use Rattle.grain_id.specs.Names.{Grain, Client}
use Rattle.request_codec.specs.Tree.{integer}
use Rattle.tenant_gate.specs.declared.limits.Limits.{Limits}
use Rattle.tenant_gate.specs.Table.{limits_of}
use Rattle.silo_event.specs.declared.reply.Party.TheVariants as party
use Rattle.silo_event.specs.declared.reply.Reply.{Reply}
use Rattle.silo_event.specs.declared.step.Step.{Step}
use Rattle.silo_event.specs.declared.step.Step.TheVariants.{Call}
use Rattle.grain_logic.specs.Adding.{fits_64}
use Rattle.grain_logic.specs.Counters.{counters}
use Rattle.grain_logic.specs.Logic.{Logic}
use Rattle.grain_logic.specs.Laws.{ReadersAskNothing}
use Rattle.silo_model.specs.Calls.{told}
use Rattle.silo_model.specs.Whole.{Whole}
use Rattle.silo_model.specs.Opening.{Setup, nothing_kept}
use Rattle.silo_model.specs.Journal.{LeadsTo}
use Rattle.silo_model.specs.FirstCall.{add_call, first_call}
use Rattle.silo_model.specs.Pending.{is_of_client, AllQuiet}
use Rattle.lane_model.specs.Asking.{ids_asked, ids_told}
use Rattle.lane_model.specs.Pacing.{is_paced}
use Rattle.lane_model.specs.Lanes.{Lane, has_failed, LaneStands, LanesStand}

-- what the lane from here is answered: the replies to its client, in order
abbrev pub replies_to : Option Client → List Reply → List Reply
replies_to None replies = []
replies_to (Some client) replies = filter (λ r. is_of_client client r.recipient) replies

-- what each lane is answered
abbrev pub answers_of : List Lane → Whole → List (List Reply)
answers_of lanes w = map_list (λ (lane : Lane). replies_to lane.from w.replies) lanes

-- The lanes stand in a journal that leads to the whole, at their clients' pace; nothing is left to do; the steps that
-- failed and the calls of the storage that had failed at the opening are as many as have failed now; and each lane is
-- answered the replies to its client.
pub record AreServed (logic : Logic) (setup : Setup) (lanes : List Lane) (journal : List Step) (w : Whole) (at_opening now : ℕ)
    (answers : List (List Reply)) : Type 0 where
  pub leads : LeadsTo logic setup journal w
  pub paced : is_paced logic setup journal ≡ true
  pub stand : LanesStand lanes journal
  pub quiet : AllQuiet w
  pub failed : at_opening + count_by has_failed journal ≡ now
  pub answered : answers ≡ answers_of lanes w

-- ---- the laws

-- The client is told as often as its lane asks, each time under the number of the lane's next step.
pub record IsAnswered (lane : Lane) (client : Client) (replies : List Reply) : Type 0 where
  pub as_many : length (replies_to lane.from replies) ≡ length lane.steps
  pub in_order : ids_told client (replies_to lane.from replies) ≡ ids_asked client lane.steps

-- So it is of each client's lane that was served.
abbrev pub LanesAnswered : Type 0
LanesAnswered =
    (logic : Logic) → ReadersAskNothing logic
    → (setup : Setup) (lanes : List Lane) (journal : List Step) (w : Whole) (at_opening now : ℕ) (answers : List (List Reply))
    → AreServed logic setup lanes journal w at_opening now answers
    → (lane : Lane) (client : Client) → LaneStands lane journal → lane.from ≡ Some client → IsAnswered lane client w.replies

-- a lane of one call: a number is added to a counter
abbrev pub lane_of_one_call : Client → ℕ → Grain → ℤ → Lane
lane_of_one_call caller id grain n = record { from = Some caller; steps = Call caller id grain (add_call n) ∷ [] }

-- Where nothing was kept: if a client that is known, and may have an activation, adds to a counter of its tenant of which no row
-- is stored, its lane is served by the first call's five steps, and answered the number.
abbrev pub FirstCallServed : Type 0
FirstCallServed = (setup : Setup) (limits : Limits) (caller : Client) (id : ℕ) (grain : Grain) (n : ℤ)
    → setup.kept ≡ nothing_kept → limits_of setup.tenants caller.tenant ≡ Some limits → 0 < limits.activations
    → grain.tenant ≡ caller.tenant → grain.kind ≡ codes "counter" → map.get setup.rows grain ≡ None → fits_64 n ≡ true
    → (w : Whole)
    × AreServed counters setup (lane_of_one_call caller id grain n ∷ []) (first_call caller id grain n) w 0 0
    (told (party.Client caller id) (Ok (integer n)) ∷ [])
