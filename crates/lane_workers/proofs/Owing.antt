-- How much each client is owed after a step.
use Rattle.std.proofs.Common.{◌≡◌, ℕ, ◌+◌, ◌-◌, ◌≤◌, Bool, true, false, cond, List, [], ◌∷◌, ◌++◌, length, drop, take, Option, Some, None, refl, ap, sym, ◌∙◌, arith, true≢false}
use Rattle.std.specs.Prelude.{◌==◌, not, option_map}
use Rattle.std.proofs.lemmas.List.{append-nil, length-append, take-append-drop, take-append-le}
use Rattle.std.proofs.lemmas.Grind.{flat_map-append}
use Rattle.std.proofs.lemmas.Bool.{eq-eqb, ne_eqb}
use Rattle.grain_id.specs.Names.{Grain, Client, client_eq}
use Rattle.silo_event.specs.declared.reply.Party.TheVariants as party
use Rattle.silo_event.specs.declared.reply.Reply.{Reply}
use Rattle.silo_event.specs.declared.step.Step.{Step}
use Rattle.lane_model.specs.Asking.{asking_of, asker_of, id_asked, id_of, ids_asked, ids_told}
use Rattle.lane_workers.specs.Owing.{asks_once}

one_or_none : (b : Bool) (id : ℕ) → length (cond b (id ∷ []) []) ≡ cond b 1 0
one_or_none true id = refl
one_or_none false id = refl

-- by a step a client asks once, or not at all
asks_many : (client : Client) (o : Option (Client × ℕ)) → length (id_asked client o) ≡ asks_once (option_map (λ asking. asking.0) o) client
asks_many client None = refl
asks_many client (Some asking) = one_or_none (client_eq asking.0 client) asking.1

asked_more : (client : Client) (steps : List Step) (s : Step) → ids_asked client (steps ++ s ∷ []) ≡ ids_asked client steps ++ id_asked client (asking_of s)
asked_more client steps s = flat_map-append (λ r. id_asked client (asking_of r)) steps (s ∷ []) ∙ ap (λ ids. ids_asked client steps ++ ids) (append-nil (id_asked client (asking_of s)))

told_more : (client : Client) (replies added : List Reply) → ids_told client (replies ++ added) ≡ ids_told client replies ++ ids_told client added
told_more client replies added = flat_map-append (λ (r : Reply). id_of client r.recipient) replies added

-- what it asks by a step is added, and what was looked at stays
pub owed_on : (client : Client) (owing after seen : ℕ) (replies added : List Reply) (journal : List Step) (s : Step) → seen ≤ length replies
    → owing + length (ids_told client (take seen replies)) ≡ length (ids_asked client journal) → after ≡ owing + asks_once (asker_of s) client
    → after + length (ids_told client (take seen (replies ++ added))) ≡ length (ids_asked client (journal ++ s ∷ []))
owed_on client owing after seen replies added journal s within had is =
    let told : length (ids_told client (take seen (replies ++ added))) ≡ length (ids_told client (take seen replies)) = ap (λ (rs : List Reply). length (ids_told client rs)) (take-append-le seen replies added within) in
    let asked : length (ids_asked client (journal ++ s ∷ [])) ≡ length (ids_asked client journal) + asks_once (asker_of s) client = ap length (asked_more client journal s)
    ∙ length-append (ids_asked client journal) (id_asked client (asking_of s))
    ∙ ap (λ n. length (ids_asked client journal) + n) (asks_many client (asking_of s)) in
    omega (arith, had, is, told, asked)

-- what it is told is told by the first replies, or behind them
pub told_parts : (client : Client) (seen : ℕ) (replies : List Reply) → length (ids_told client replies) ≡ length (ids_told client (take seen replies)) + length (ids_told client (drop seen replies))
told_parts client seen replies =
    ap (λ (rs : List Reply). length (ids_told client rs)) (sym (take-append-drop seen replies))
    ∙ ap length (told_more client (take seen replies) (drop seen replies))
    ∙ length-append (ids_told client (take seen replies)) (ids_told client (drop seen replies))

-- once all replies were looked at, it is owed less by what the others told it
pub owed_less : (owing after seen news all asked : ℕ) → owing + seen ≡ asked → all ≡ seen + news → all ≤ asked → after ≡ owing - news → after + all ≡ asked
owed_less owing after seen news all asked had parts within is = omega (arith, had, parts, within, is)

-- a client was told one of the replies, or a grain was
pub told_here : (client caller : Client) (id : ℕ) (reply : Reply) (others : List Reply) → reply.recipient ≡ party.Client caller id
    → length (ids_told client (reply ∷ others)) ≡ cond (client_eq caller client) 1 0 + length (ids_told client others)
told_here client caller id reply others is =
    length-append (id_of client reply.recipient) (ids_told client others)
    ∙ ap (λ p. length (id_of client p) + length (ids_told client others)) is
    ∙ ap (λ n. n + length (ids_told client others)) (one_or_none (client_eq caller client) id)

pub told_nobody : (client : Client) (grain : Grain) (reply : Reply) (others : List Reply) → reply.recipient ≡ party.Grain grain → length (ids_told client (reply ∷ others)) ≡ length (ids_told client others)
told_nobody client grain reply others is = ap (λ p. length (id_of client p ++ ids_told client others)) is

module _ (client : Client) (owing after : ℕ) (reply : Reply) (others : List Reply) where
  pub told_one : (caller : Client) (id : ℕ) → reply.recipient ≡ party.Client caller id → after ≡ owing - cond (client_eq caller client) 1 0 → after - length (ids_told client others) ≡ owing - length (ids_told client (reply ∷ others))
  told_one caller id is told =
      let more = told_here client caller id reply others is in
      omega (arith, told, more)

  pub told_none : (grain : Grain) → reply.recipient ≡ party.Grain grain → after ≡ owing → after - length (ids_told client others) ≡ owing - length (ids_told client (reply ∷ others))
  told_none grain is same = λ i. same i - sym (told_nobody client grain reply others is) i

-- what was asked last and is taken back
pub taken_back : (owing asked taken back : ℕ) → asked ≡ owing + taken → back ≡ asked - taken → back ≡ owing
taken_back owing asked taken back is then = omega (arith, is, then)

-- a client is owed more than the new replies tell it exactly if it wasn't told all that it asked
pub owes_some : (pending : Bool) (owing seen news all asked : ℕ) → all ≡ seen + news → owing + seen ≡ asked → (pending ≡ false → all ≡ asked) → (all ≡ asked → pending ≡ false) → not (owing == news) ≡ pending
owes_some false owing seen news all asked parts sum none told = ap not (eq-eqb owing news (omega (arith, parts, sum, none refl)))
owes_some true owing seen news all asked parts sum none told = ap not (ne_eqb owing news (λ same. true≢false (told (omega (arith, parts, sum, same)))))
