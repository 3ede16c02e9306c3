-- What clients are told where their lanes have been served, and what a paced journal says of each of its steps.
use Rattle.silo_model.proofs.Common.{◌++◌, ◌∙◌, ◌∷◌, ◌≡◌, Call, Client, List, Logic, Machine, None, Option, Poke, Refuse, Reply, Request}
use Rattle.silo_model.proofs.Common.{Setup, Some, Status, Step, Sweep, [], and_from, and_parts, ap, append-nil, append_assoc, as_failed}
use Rattle.silo_model.proofs.Common.{cond, false, has_pending, is_of_client, length, list_any, map_list, not, not-true, refl, subst, sym}
use Rattle.silo_model.proofs.Common.{true, true≢false}
use Rattle.std.proofs.lemmas.List.{length-map}
use Rattle.silo_model.specs.Pending.{IsQuiet}
use Rattle.lane_model.specs.Asking.{asker_of, asking_of, id_asked, id_of, ids_asked, ids_told}
use Rattle.lane_model.specs.Pacing.{PacedAtEach, machine_of, may_ask, paced_from}
use Rattle.lane_model.specs.Lanes.{Lane, LaneStands, done_steps_by, done_steps_of, given_by, is_given_by, lane_of}
use Rattle.lane_model.specs.Serving.{LanesAnswered, replies_to}
use Rattle.lane_model.proofs.Askers.{apart_party, one_told}
use Rattle.lane_model.proofs.Filtered.{flat_map-filter, length-filter_each}
use Rattle.lane_model.proofs.AnswerOrder.{answered_in_order}

-- ---- numbers of a lane

-- whether the storage failed is left aside
pub asking_failed : (s : Step) → asking_of (as_failed s) ≡ asking_of s
asking_failed Sweep = refl
asking_failed _ = refl

ids_failed : (client : Client) (steps : List Step) → ids_asked client (map_list as_failed steps) ≡ ids_asked client steps
ids_failed client [] = refl
ids_failed client (s ∷ steps) = λ i. id_asked client (asking_failed s i) ++ ids_failed client steps i

-- a step of another lane asks nothing for the client
apart_lane : (client : Client) (s : Step) → is_given_by (Some client) (lane_of s) ≡ false → id_asked client (asking_of s) ≡ []
apart_lane client (Refuse caller id code) apart = ap (λ b. cond b (id ∷ []) []) apart
apart_lane client (Call caller id grain message) apart = ap (λ b. cond b (id ∷ []) []) apart
apart_lane client (Poke failed caller id grain state) apart = ap (λ b. cond b (id ∷ []) []) apart
apart_lane client (Status caller id) apart = ap (λ b. cond b (id ∷ []) []) apart
apart_lane client _ apart = refl

ids_given : (client : Client) (steps : List Step) → ids_asked client (given_by (Some client) steps) ≡ ids_asked client steps
ids_given client steps = flat_map-filter (λ s. id_asked client (asking_of s)) (λ s. is_given_by (Some client) (lane_of s)) steps (apart_lane client)

-- the client's numbers in the journal are those of its lane
ids_in : (client : Client) (lane : Lane) (journal : List Step) → lane.from ≡ Some client → LaneStands lane journal → ids_asked client journal ≡ ids_asked client lane.steps
ids_in client lane journal from stands =
    sym (ids_given client journal)
    ∙ ap (λ f. ids_asked client (given_by f journal)) (sym from)
    ∙ sym (ids_failed client (given_by lane.from journal))
    ∙ ap (ids_asked client) stands
    ∙ ids_failed client (done_steps_of lane)
    ∙ ap (λ f. ids_asked client (done_steps_by f lane.steps)) from

-- ---- numbers of a client's replies

ids_replied : (client : Client) (replies : List Reply) → ids_told client (replies_to (Some client) replies) ≡ ids_told client replies
ids_replied client replies =
    flat_map-filter (λ r. id_of client r.recipient) (λ r. is_of_client client r.recipient) replies (λ r. apart_party client r.recipient)

-- ---- what is left as quiet has nothing of a client

pub quiet_pending : (client : Client) (m : Machine) → IsQuiet m → has_pending client m ≡ false
quiet_pending client m quiet = ap (λ qs. list_any (λ (q : Request). is_of_client client q.sender) qs) quiet.nothing_pending

-- ---- as many replies as steps

one_asked : (client : Client) (s : Step) → is_given_by (Some client) (lane_of s) ≡ true → length (id_asked client (asking_of s)) ≡ 1
one_asked client (Refuse caller id code) own = ap (λ b. length (cond b (id ∷ []) [])) own
one_asked client (Call caller id grain message) own = ap (λ b. length (cond b (id ∷ []) [])) own
one_asked client (Poke failed caller id grain state) own = ap (λ b. length (cond b (id ∷ []) [])) own
one_asked client (Status caller id) own = ap (λ b. length (cond b (id ∷ []) [])) own
one_asked client _ own = absurd (true≢false (sym own))

one_each_asked : (client : Client) (steps : List Step) → length (ids_asked client (given_by (Some client) steps)) ≡ length (given_by (Some client) steps)
one_each_asked client steps = length-filter_each (λ s. id_asked client (asking_of s)) (λ s. is_given_by (Some client) (lane_of s)) steps (one_asked client)

one_each_told : (client : Client) (replies : List Reply) → length (ids_told client (replies_to (Some client) replies)) ≡ length (replies_to (Some client) replies)
one_each_told client replies =
    length-filter_each (λ r. id_of client r.recipient) (λ r. is_of_client client r.recipient) replies (λ r. one_told client r.recipient)

-- the client asks in the journal as often as its lane has steps
asks_all : (client : Client) (lane : Lane) (journal : List Step) → lane.from ≡ Some client → LaneStands lane journal → length (ids_asked client journal) ≡ length lane.steps
asks_all client lane journal from stands =
    ap length (sym (ids_given client journal))
    ∙ one_each_asked client journal
    ∙ ap (λ f. length (given_by f journal)) (sym from)
    ∙ sym (length-map (given_by lane.from journal) as_failed)
    ∙ ap length stands
    ∙ length-map (done_steps_of lane) as_failed
    ∙ ap (λ f. length (done_steps_by f lane.steps)) from

pub lanes_answered : LanesAnswered
lanes_answered logic law setup lanes journal w at_opening now answers served lane client stands from =
    let told = ids_replied client w.replies ∙ answered_in_order logic law setup journal w client served.leads served.paced (quiet_pending client _ (served.quiet client.tenant)) in
    record {
      as_many = ap (λ f. length (replies_to f w.replies)) from ∙ sym (one_each_told client w.replies) ∙ ap length told ∙ asks_all client lane journal from stands;
      in_order = ap (λ f. ids_told client (replies_to f w.replies)) from ∙ told ∙ ids_in client lane journal from stands;
    }

-- ---- each step of a paced journal

module _ (logic : Logic) (setup : Setup) where
  abbrev HasNone : List Step → Client → Type 0
  HasNone before client = has_pending client (machine_of logic setup before client) ≡ false

  none_at : (pre before after : List Step) (s : Step) (client : Client) → paced_from logic setup pre (before ++ s ∷ after) ≡ true → asker_of s ≡ Some client → HasNone (pre ++ before) client
  none_at pre [] after s client paced asks =
      let now : HasNone pre client = not-true _ (ap (may_ask (machine_of logic setup pre)) (sym asks) ∙ (and_parts _ _ paced).0) in
      subst (λ steps. HasNone steps client) (sym (append-nil pre)) now
  none_at pre (r ∷ before) after s client paced asks = subst (λ steps. HasNone steps client) (append_assoc pre (r ∷ []) before) (none_at (pre ++ r ∷ []) before after s client (and_parts _ _ paced).1 asks)

  may_by : (machine : Client → Machine) (o : Option Client) → ((client : Client) → o ≡ Some client → has_pending client (machine client) ≡ false) → may_ask machine o ≡ true
  may_by machine None none = refl
  may_by machine (Some client) none = ap not (none client refl)

  paced_where : (pre steps : List Step) → ((before after : List Step) (s : Step) (client : Client) → steps ≡ before ++ s ∷ after → asker_of s ≡ Some client → HasNone (pre ++ before) client) → paced_from logic setup pre steps ≡ true
  paced_where pre [] each = refl
  paced_where pre (s ∷ steps) each =
      and_from _ _
      (may_by (machine_of logic setup pre) (asker_of s) (λ client asks. subst (λ xs. HasNone xs client) (append-nil pre) (each [] steps s client refl asks)))
      (paced_where (pre ++ s ∷ []) steps (λ before after r client parts asks. subst (λ xs. HasNone xs client) (sym (append_assoc pre (s ∷ []) before)) (each (s ∷ before) after r client (ap (λ xs. s ∷ xs) parts) asks)))

pub paced_at_each : PacedAtEach
paced_at_each logic setup journal = (
  λ paced before after s client parts asks. none_at logic setup [] before after s client (subst (λ xs. paced_from logic setup [] xs ≡ true) parts paced) asks,
  λ each. paced_where logic setup [] journal each,
)
