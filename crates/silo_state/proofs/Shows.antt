-- What the calls of the activations leave, seen as entries.
use Rattle.std.proofs.Common.{◌≡◌, ℕ, Bool, true, false, ◌==◌, ◌&&◌, Option, Some, None, is_some, refl, ap, sym, ◌∙◌, subst}
use Rattle.std.specs.Prelude.{Result, Ok, Err, IfOk, OnOk, OnErr, if◌then◌else◌, option_and_then, option_map, unwrap_or}
use Rattle.std.specs.FinMap as map
use Rattle.std.specs.FinMap.{FinMap, nat_cmp-IsAntisymmetric}
use Rattle.std.specs.Cmp.{nat_cmp_total}
use Rattle.std.proofs.lemmas.List.{length-map}
use Rattle.std.proofs.lemmas.Option.{same_Some}
use Rattle.grain_id.specs.Names.{Grain, grain_cmp}
use Rattle.grain_id.proofs.Order.{grain_cmp_total, grain_cmp_exact}
use Rattle.grain_id.proofs.ByGrain.{insert-again}
use Rattle.grain_logic.specs.Logic.{Logic, Keep}
use Rattle.silo_event.specs.declared.opened_turn.OpenedTurn.{OpenedTurn}
use Rattle.silo_event.specs.declared.step.Answer.{Answer}
use Rattle.silo_event.specs.declared.step.Answer.TheVariants.{Done, Failed, NotNow}
use Rattle.request_codec.specs.Tree.{Tree}
use Rattle.silo_event.specs.declared.reply.Party.{Party}
use Rattle.turn_mailbox.specs.declared.request.Request.{Request}
use Rattle.turn_mailbox.specs.Contents.{Contents, begun, may_begin, is_idle as mail_is_idle}
use Rattle.finite_maps.proofs.Maps.{remove-insert}
use Rattle.finite_maps.proofs.Mapped.{get-mapped, mapped-insert, mapped-remove, len-mapped}
use Rattle.activation_directory.specs.declared.activation.Activation.{Activation}
use Rattle.activation_directory.specs.declared.activation.Phase.{Phase}
use Rattle.activation_directory.specs.declared.activation.Phase.TheVariants.{Waiting, Loading, Ready}
use Rattle.silo_model.specs.Machine.{Entry, Entries, ready}
use Rattle.silo_model.specs.Effect.{change_at, drop, put}
use Rattle.silo_state.specs.Reads.{is_quiet}
use Rattle.silo_model.specs.Turns as model
use Rattle.silo_model.specs.Turns.{until_by, resting_by, stays_or_goes}
use Rattle.silo_state.specs.Shown.{request_of, phase_of, entry_of, entries_of}
use Rattle.silo_model.specs.Idle.{is_idle}
use Rattle.silo_state.specs.inside.Notes.{none_waits}
use Rattle.silo_model.specs.Idle.{is_ready}
use Rattle.silo_state.specs.Marks.{AreMarked, AllMarked}
use Rattle.silo_state.specs.inside.Changes.{Starts, turn_at, opens_at, mail_begun, ClosesTurn, EndsTurn}
use Rattle.silo_state.specs.Entries.{Activates, Begins, opened_turn, closed_entry, ClosesEntry, Closes}
use Rattle.silo_state.proofs.Requests.{marked-put, marked-begun, marked-closed}
use Rattle.silo_state.proofs.Turns.{turn-opened, begins, is_some-turn_at}

-- the entry of a grain, by its activation
pub get-entries : (m : FinMap grain_cmp Activation) (g : Grain) (found : Option Activation) → map.get m g ≡ found → map.get (entries_of m) g ≡ option_map entry_of found
get-entries m g found is = get-mapped grain_cmp_total grain_cmp_exact entry_of m g ∙ ap (option_map entry_of) is

-- the entries with another activation of a grain
pub entries-put : (m : FinMap grain_cmp Activation) (g : Grain) (after : Activation) → entries_of (map.insert m g after) ≡ map.insert (entries_of m) g (entry_of after)
entries-put m g after = mapped-insert grain_cmp_total grain_cmp_exact entry_of m g after

module _ (logic : Logic) (m : FinMap grain_cmp Activation) (g : Grain) (a after : Activation) (found : map.get m g ≡ Some a) where
  entry_found : map.get (entries_of m) g ≡ Some (entry_of a)
  entry_found = get-entries m g (Some a) found

  pub unmoved : after ≡ a → entries_of (map.insert m g after) ≡ entries_of m
  unmoved same = ap entries_of (ap (map.insert m g) same ∙ insert-again m g a found)

  module _ (all : AllMarked logic m) where
    pub same_mail : after.mailbox ≡ a.mailbox → AllMarked logic (map.insert m g after)
    same_mail same = marked-put logic m g after all (subst (λ (mail : Contents). AreMarked logic g mail) (sym same) (all g a found))

    -- ---- activating

    pub start_marked : (answer : Answer) → Starts a answer after → AllMarked logic (map.insert m g after)
    start_marked Done d = same_mail (ap (λ (x : Activation). x.mailbox) d.1)
    start_marked Failed d = absurd d
    start_marked NotNow d = same_mail (ap (λ (x : Activation). x.mailbox) d.1)

    -- ---- opening a turn

    mail_marked : (phase : Phase) → AreMarked logic g (mail_begun a.mailbox phase)
    mail_marked Waiting = all g a found
    mail_marked Loading = all g a found
    mail_marked (Ready state version) = by (may_begin a.mailbox)
      where
        by : (b : Bool) → AreMarked logic g (if b then begun a.mailbox a.mailbox.waiting else a.mailbox)
        by true = marked-begun logic g a.mailbox a.mailbox.waiting (all g a found).waiting (all g a found)
        by false = all g a found

    begun_shows : after ≡ record a { mailbox = mail_begun a.mailbox a.phase } → (opened : Bool) → opened ≡ opens_at a.mailbox a.phase → Begins logic (entries_of m) g opened (entries_of (map.insert m g after))
    begun_shows done opened is =
        subst (λ (b : Bool). Begins logic (entries_of m) g b (entries_of (map.insert m g after))) (sym is)
        (subst (λ (new : Entries). Begins logic (entries_of m) g (opens_at a.mailbox a.phase) new) (sym (entries-put m g after ∙ ap (λ x. map.insert (entries_of m) g (entry_of x)) done))
        (begins logic g a (all g a found) (entries_of m) entry_found))

    module _ {E : Type 0} where
      pub begin_marked : {A : Type 0} (result : Result A E) → OnOk result (after ≡ record a { mailbox = mail_begun a.mailbox a.phase }) → OnErr result (after ≡ a) → AllMarked logic (map.insert m g after)
      begin_marked (Ok opened) done kept = marked-put logic m g after all (subst (λ (x : Activation). AreMarked logic g x.mailbox) (sym done) (mail_marked a.phase))
      begin_marked (Err e) done kept = same_mail (ap (λ (x : Activation). x.mailbox) kept)

      pub begin_shows : (result : Result (Option OpenedTurn) E) → IfOk result (λ turn. turn ≡ turn_at g a.mailbox a.phase) → OnOk result (after ≡ record a { mailbox = mail_begun a.mailbox a.phase })
          → IfOk result (λ turn. Begins logic (entries_of m) g (is_some turn) (entries_of (map.insert m g after)))
      begin_shows (Ok turn) is done = begun_shows done (is_some turn) (ap is_some is ∙ is_some-turn_at g a.mailbox a.phase)
      begin_shows (Err e) is done = tt

      pub open_shows : (result : Result Bool E) → IfOk result (λ opened. opened ≡ opens_at a.mailbox a.phase) → OnOk result (after ≡ record a { mailbox = mail_begun a.mailbox a.phase })
          → IfOk result (λ opened. Begins logic (entries_of m) g opened (entries_of (map.insert m g after)))
      open_shows (Ok opened) is done = begun_shows done opened is
      open_shows (Err e) is done = tt

      pub begin_turn : (result : Result (Option OpenedTurn) E) → IfOk result (λ turn. turn ≡ turn_at g a.mailbox a.phase) → IfOk result (λ turn. turn ≡ opened_turn logic g (map.get (entries_of m) g))
      begin_turn (Ok turn) is = is ∙ turn-opened logic g a (all g a found) (entries_of m) entry_found
      begin_turn (Err e) is = tt

  -- what an activation that starts leaves
  pub start_shows : (answer : Answer) → Starts a answer after → Activates (entries_of m) g answer (entries_of (map.insert m g after))
  start_shows Done d = record {
    before = entry_of a;
    found = entry_found;
    waits = d.0;
    put = entries-put m g after ∙ ap (λ x. map.insert (entries_of m) g (entry_of x)) d.1;
  }
  start_shows Failed d = absurd d
  start_shows NotNow d = (ap (option_and_then (λ e. model.activated e e.phase)) entry_found ∙ d.0, unmoved d.1)

-- ---- closing a turn

phase_put : (phase : Option Phase) (old : Phase) → phase_of (unwrap_or phase old) ≡ unwrap_or (option_map phase_of phase) (phase_of old)
phase_put None old = refl
phase_put (Some phase) old = refl

-- an idle mailbox of a ready activation is an idle entry
pub idle_mail : (a : Activation) (state : Tree) (version : Option ℕ) → a.phase ≡ Ready state version → mail_is_idle a.mailbox ≡ is_idle (entry_of a)
idle_mail a state version is =
    λ i. is_ready (phase_of (sym is i)) && (sym (length-map a.mailbox.waiting request_of) i == 0) && (sym (len-mapped nat_cmp_total nat_cmp-IsAntisymmetric request_of a.mailbox.opened) i == 0)

module _ (logic : Logic) (m : FinMap grain_cmp Activation) (g : Grain) (a after : Activation) (found : map.get m g ≡ Some a) (all : AllMarked logic m) (turn : ℕ) (phase : Option Phase) (said : Keep) (last : ℕ) where
  module _ (sender : Party) (d : ClosesTurn a turn phase said last sender after) where
    closed_is : entry_of after ≡ closed_entry (entry_of a) (request_of d.request) (option_map phase_of phase) said last
    closed_is = ap entry_of d.left ∙ (λ i. record {
      phase = phase_put phase a.phase i;
      queue = (entry_of a).queue;
      turns = (mapped-remove nat_cmp_total nat_cmp-IsAntisymmetric request_of a.mailbox.opened turn ∙ ap (map.remove (entry_of a).turns) (sym ((all g a found).numbered turn d.request d.open_turn))) i;
      last = last;
      until = until_by last said a.until;
      resting = resting_by said a.resting;
    })

    -- what is left by whether it goes
    pub close_shows : (new : Entries) → new ≡ change_at (entries_of m) g (stays_or_goes (entry_of after))
        → ClosesEntry (entries_of m) g turn (option_map phase_of phase) said last sender new
    close_shows new left = record {
      before = entry_of a;
      request = request_of d.request;
      found = get-entries m g (Some a) found;
      open_turn = get-mapped nat_cmp_total nat_cmp-IsAntisymmetric request_of a.mailbox.opened turn ∙ ap (option_map request_of) d.open_turn;
      sender_is = d.sender_is;
      left = left ∙ ap (λ (e : Entry). change_at (entries_of m) g (stays_or_goes e)) closed_is;
    }

    close_marked : AllMarked logic (map.insert m g after)
    close_marked = marked-put logic m g after all (subst (λ (x : Activation). AreMarked logic g x.mailbox) (sym d.left) (marked-closed logic g a.mailbox turn (all g a found)))

  pub close_not : (map.get a.mailbox.opened turn ≡ None) × (after ≡ a) → Closes (entries_of m) g turn (option_map phase_of phase) said last None (entries_of (map.insert m g after))
  close_not d = (
    ap (option_and_then (λ e. map.get e.turns turn)) (get-entries m g (Some a) found) ∙ get-mapped nat_cmp_total nat_cmp-IsAntisymmetric request_of a.mailbox.opened turn ∙ ap (option_map request_of) d.0,
    unmoved logic m g a after found d.1,
  )

  pub closes_marked : (closed : Option Party) → EndsTurn a turn phase said last closed after → AllMarked logic (map.insert m g after)
  closes_marked None d = same_mail logic m g a after found all (ap (λ (x : Activation). x.mailbox) d.1)
  closes_marked (Some sender) d = close_marked sender d

-- what is left where the entry stays, and where it goes
module _ (m : FinMap grain_cmp Activation) (g : Grain) (after : Activation) where
  pub stays_at : stays_or_goes (entry_of after) ≡ put (entry_of after) → entries_of (map.insert m g after) ≡ change_at (entries_of m) g (stays_or_goes (entry_of after))
  stays_at stays = entries-put m g after ∙ ap (change_at (entries_of m) g) (sym stays)

  pub goes_from : entries_of (map.remove (map.insert m g after) g) ≡ map.remove (entries_of m) g
  goes_from = ap entries_of (remove-insert grain_cmp_total grain_cmp_exact m g after) ∙ mapped-remove grain_cmp_total grain_cmp_exact entry_of m g

  pub goes_at : stays_or_goes (entry_of after) ≡ drop → entries_of (map.remove (map.insert m g after) g) ≡ change_at (entries_of m) g (stays_or_goes (entry_of after))
  goes_at goes = goes_from ∙ ap (change_at (entries_of m) g) (sym goes)

-- its waiting requests stay
pub closed_queue : (a after : Activation) (turn : ℕ) (phase : Option Phase) (said : Keep) (last : ℕ) (sender : Party) → ClosesTurn a turn phase said last sender after → none_waits (entry_of after) ≡ none_waits (entry_of a)
closed_queue a after turn phase said last sender d = ap (λ (x : Activation). none_waits (entry_of x)) d.left

-- a turn of an activation is one of its entry
pub turn_shown : (entries : Entries) (g : Grain) (a : Activation) (turn : ℕ) (found : Option Request) → map.get entries g ≡ Some (entry_of a) → map.get a.mailbox.opened turn ≡ found
    → option_and_then (λ e. map.get e.turns turn) (map.get entries g) ≡ option_map request_of found
turn_shown entries g a turn found is at = ap (option_and_then (λ e. map.get e.turns turn)) is ∙ get-mapped nat_cmp_total nat_cmp-IsAntisymmetric request_of a.mailbox.opened turn ∙ ap (option_map request_of) at

pub get-turns : (a : Activation) (turn : ℕ) (found : Option Request) → map.get a.mailbox.opened turn ≡ found → map.get (entry_of a).turns turn ≡ option_map request_of found
get-turns a turn found at = get-mapped nat_cmp_total nat_cmp-IsAntisymmetric request_of a.mailbox.opened turn ∙ ap (option_map request_of) at

-- a mailbox where nothing is asked, as its entry
pub quiet_mail : (a : Activation) → mail_is_idle a.mailbox ≡ is_quiet (entry_of a)
quiet_mail a = λ i. (sym (length-map a.mailbox.waiting request_of) i == 0) && (sym (len-mapped nat_cmp_total nat_cmp-IsAntisymmetric request_of a.mailbox.opened) i == 0)

-- ---- ready, as it comes to be by a load

module _ (m : FinMap grain_cmp Activation) (g : Grain) (a after : Activation) (found : map.get m g ≡ Some a) (state : Tree) (version : Option ℕ) where
  pub ready_shows : after ≡ record a { phase = Ready state version; until = 0; resting = false } → (e : Entry) → map.get (entries_of m) g ≡ Some e
      → entries_of (map.insert m g after) ≡ map.insert (entries_of m) g (record e { phase = ready state version; until = 0; resting = false })
  ready_shows is e there =
      let same : entry_of a ≡ e = same_Some (entry_of a) e (sym (get-entries m g (Some a) found) ∙ there) in
      entries-put m g after
      ∙ ap (λ x. map.insert (entries_of m) g (entry_of x)) is
      ∙ ap (λ (x : Entry). map.insert (entries_of m) g (record x { phase = ready state version; until = 0; resting = false })) same
