-- What a turn sends is delivered.
use Rattle.silo_model.proofs.Common.{if◌then◌else◌, ◌++◌, ◌+◌, ◌∙◌, ◌∷◌, ◌≡◌, Account, Bool, Deliver, End, Entry, Grain, List, Logic, None}
use Rattle.silo_model.proofs.Common.{Option, Outgoing, Plan, Send, Some, Whole, [], active_of, ap, arith, change_at, closed_entry}
use Rattle.silo_model.proofs.Common.{eq_by_cmp, eq_by_cmp-Decides, false, false_from_ne_true, first_from, get-insert_same, grain_cmp}
use Rattle.silo_model.proofs.Common.{grain_cmp_exact, grain_cmp_total, grain_eq, grain_eq_decides, list_any, lt-ltb, nat_lt, option_map}
use Rattle.silo_model.proofs.Common.{or_parts, outcome_of, plan_of, refl, reply_to, stays_or_goes, text_cmp_exact, text_cmp_total, true}
use Rattle.silo_model.proofs.Common.{whole_step, with_request, with_sends, ℕ}
use Rattle.std.specs.FinMap as map
use Rattle.std.proofs.lemmas.Bool.{ltb-true}
use Rattle.silo_event.specs.declared.reply.Party.TheVariants as party
use Rattle.silo_model.specs.Turns.{sent_by, sent_from}
use Rattle.silo_model.specs.Sent.{IsSending, SentArrives}
use Rattle.silo_model.proofs.Actives.{active-changed}
use Rattle.silo_model.proofs.Changes.{get-change_other}
use Rattle.silo_model.proofs.CallSteps.{next_request}
use Rattle.silo_model.proofs.TurnSteps.{end_turn}
use Rattle.silo_model.proofs.SendSteps.{deliver_new}

-- the first of some sends, by whether it is the grain's
abbrev found_first : Bool → Send → List Send → Option (Send × List Send) → Option (Send × List Send)
found_first b s sends rest = if b then Some (s, sends) else option_map (λ found. (found.0, s ∷ found.1)) rest

-- behind sends of others, what the grain sends next is its first
first_from-append : (g : Grain) (sends : List Send) (o : Outgoing) (os : List Outgoing) → list_any (λ s. grain_eq s.source g) sends ≡ false → first_from g (sends ++ sent_by g (o ∷ os)) ≡ Some (sent_from g o, sends ++ sent_by g os)
first_from-append g [] o os none = ap (λ b. found_first b (sent_from g o) (sent_by g os) (first_from g (sent_by g os))) ((grain_eq_decides g g).1 refl)
first_from-append g (s ∷ sends) o os none =
    let parts = or_parts (grain_eq s.source g) (list_any (λ x. grain_eq x.source g) sends) none in
    ap (λ b. found_first b s (sends ++ sent_by g (o ∷ os)) (first_from g (sends ++ sent_by g (o ∷ os)))) parts.0
    ∙ ap (found_first false s (sends ++ sent_by g (o ∷ os))) (first_from-append g sends o os parts.1)

module _ (logic : Logic) (w : Whole) (g : Grain) (turn : ℕ) (a : Account) (o : Outgoing) (sending : IsSending logic w g turn a o) where
  abbrev plan : Plan
  plan = plan_of logic g sending.state sending.request

  abbrev account_sent : Account
  account_sent = record a { sends = a.sends ++ sent_by g (o ∷ sending.others) }

  abbrev entry_closed : Entry
  entry_closed = closed_entry w.clock sending.entry sending.request plan.state sending.version plan.keep

  abbrev sent : Whole
  sent = record w {
    accounts = map.insert w.accounts g.tenant account_sent;
    entries = change_at w.entries g (stays_or_goes entry_closed);
    replies = w.replies ++ reply_to sending.request.sender (outcome_of plan.outcome);
  }

  end_is : whole_step logic w (End g turn) ≡ Some sent
  end_is =
      end_turn logic w g turn sending.entry sending.found sending.request sending.open_turn sending.state sending.version sending.phase plan refl sending.asks
      ∙ (λ i. Some (record w {
        accounts = change_at w.accounts g.tenant (with_sends g (sending.known i) (sending.sends i));
        entries = change_at w.entries g (stays_or_goes entry_closed);
        replies = w.replies ++ reply_to sending.request.sender (outcome_of plan.outcome);
      }))

  apart : eq_by_cmp grain_cmp o.target g ≡ false
  apart =
      false_from_ne_true (eq_by_cmp grain_cmp o.target g)
      (λ tied. sending.another ((eq_by_cmp-Decides grain_cmp_total grain_cmp_exact o.target g).0 tied))

  -- there is room also if the sender goes
  room_left : nat_lt (active_of sent g.tenant) a.limits.activations ≡ true
  room_left =
      lt-ltb _ _ (omega (arith, active-changed w.entries g.tenant g sending.entry (stays_or_goes entry_closed) sending.found, ltb-true _ _ sending.room))

  abbrev delivered : Whole
  delivered = record sent {
    accounts = map.insert sent.accounts g.tenant (record account_sent { sends = a.sends ++ sent_by g sending.others; count = a.count + 1 });
    entries = map.insert sent.entries o.target (with_request sent.clock (next_request account_sent (party.Grain g) o.call) None);
  }

  deliver_is : whole_step logic sent (Deliver g) ≡ Some delivered
  deliver_is =
      deliver_new logic sent g account_sent (get-insert_same text_cmp_total text_cmp_exact w.accounts g.tenant account_sent)
      (sent_from g o) (a.sends ++ sent_by g sending.others) (first_from-append g a.sends o sending.others sending.none_before)
      sending.own sending.knows sending.number_left
      (get-change_other grain_cmp_total grain_cmp_exact w.entries g o.target (stays_or_goes entry_closed) apart ∙ sending.absent)
      room_left

pub sent_arrives : SentArrives
sent_arrives logic w g turn a o sending = (
  sent logic w g turn a o sending,
  delivered logic w g turn a o sending,
  end_is logic w g turn a o sending,
  deliver_is logic w g turn a o sending,
  get-insert_same grain_cmp_total grain_cmp_exact (sent logic w g turn a o sending).entries o.target _,
  get-insert_same text_cmp_total text_cmp_exact (sent logic w g turn a o sending).accounts g.tenant _,
)
