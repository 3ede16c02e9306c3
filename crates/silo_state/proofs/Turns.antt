-- A turn that the mailbox opens is the one that the entry opens.
use Rattle.std.proofs.Common.{◌≡◌, ℕ, Bool, true, false, ◌==◌, ◌&&◌, List, [], ◌∷◌, Option, Some, None, is_some, refl, ap, sym, ◌∙◌, true≢false, arith}
use Rattle.std.specs.Prelude.{length, option_and_then, if◌then◌else◌, map as map_list}
use Rattle.std.specs.Ordering.{nat_cmp}
use Rattle.std.specs.Cmp.{nat_cmp_total}
use Rattle.std.specs.List.{AllByRecursion}
use Rattle.std.specs.FinMap as map
use Rattle.std.specs.FinMap.{FinMap, nat_cmp-IsAntisymmetric}
use Rattle.std.proofs.Math.Bool.{and-false}
use Rattle.grain_id.specs.Names.{Grain}
use Rattle.grain_id.proofs.ByGrain.{insert-again}
use Rattle.request_codec.specs.Tree.{Tree}
use Rattle.grain_logic.specs.Logic.{Logic}
use Rattle.turn_mailbox.specs.declared.request.Request.{Request}
use Rattle.turn_mailbox.specs.Contents.{Contents, begun, front_may_open, turn_of}
use Rattle.finite_maps.proofs.Mapped.{mapped-insert}
use Rattle.activation_directory.specs.declared.activation.Activation.{Activation}
use Rattle.activation_directory.specs.declared.activation.Phase.{Phase}
use Rattle.activation_directory.specs.declared.activation.Phase.TheVariants.{Waiting, Loading, Ready}
use Rattle.silo_model.specs.Machine.{Entry, Entries}
use Rattle.silo_model.specs.Effect.{on_entry}
use Rattle.silo_model.specs.Idle.{is_ready}
use Rattle.silo_model.specs.Turns as model
use Rattle.silo_state.specs.Shown.{request_of, phase_of, entry_of}
use Rattle.silo_state.specs.Marks.{IsMarked, AreMarked}
use Rattle.silo_model.specs.Idle.{is_idle}
use Rattle.silo_state.specs.inside.Changes.{turn_at, opens_at, mail_begun}
use Rattle.silo_state.specs.Entries.{front_turn, turn_in, opened_turn, Begins}
use Rattle.silo_state.proofs.Requests.{may_open-marked}
use Rattle.silo_state.proofs.InUse.{some_open, some_waits}

module _ (logic : Logic) (g : Grain) (a : Activation) (marked : AreMarked logic g a.mailbox) where
  -- ---- the turn

  front-same : (state : Tree) (waiting : List Request) → AllByRecursion (IsMarked logic g) waiting
      → (if front_may_open a.mailbox.opened waiting then turn_of g state waiting else None) ≡ front_turn logic g (entry_of a) state (map_list request_of waiting)
  front-same state [] all = refl
  front-same state (first ∷ others) all =
      λ i. if may_open-marked logic g a marked first all.0 i then Some (record { grain = g; number = first.number; reading = all.0 i; state = state; message = first.message }) else None

  turn-same : (phase : Phase) → turn_at g a.mailbox phase ≡ turn_in logic g (entry_of a) (phase_of phase)
  turn-same Waiting = refl
  turn-same Loading = refl
  turn-same (Ready state version) = front-same state a.mailbox.waiting marked.waiting

  -- the turn that the mailbox opens is the one that the entry opens
  pub turn-opened : (entries : Entries) → map.get entries g ≡ Some (entry_of a) → turn_at g a.mailbox a.phase ≡ opened_turn logic g (map.get entries g)
  turn-opened entries found = turn-same a.phase ∙ ap (opened_turn logic g) (sym found)

  -- ---- the entry

  abbrev with_mail : Contents → Entry
  with_mail mail = entry_of (record a { mailbox = mail })

  opens-not : (waiting : List Request) → AllByRecursion (IsMarked logic g) waiting → front_may_open a.mailbox.opened waiting ≡ false → model.opened logic g (entry_of a) (map_list request_of waiting) ≡ None
  opens-not [] all may = refl
  opens-not (first ∷ others) all may =
      ap (λ b. if b then Some (on_entry (record (entry_of a) { queue = map_list request_of others; turns = map.insert (entry_of a).turns first.number (request_of first) })) else None)
      (sym (may_open-marked logic g a marked first all.0) ∙ may)

  opens-first : (first : Request) (others : List Request) → IsMarked logic g first → front_may_open a.mailbox.opened (first ∷ others) ≡ true
      → model.opened logic g (entry_of a) (map_list request_of (first ∷ others)) ≡ Some (on_entry (with_mail (begun a.mailbox (first ∷ others))))
  opens-first first others mark may = λ i.
      if (sym (may_open-marked logic g a marked first mark) ∙ may) i
      then Some (on_entry (record (entry_of a) { queue = map_list request_of others; turns = sym (mapped-insert nat_cmp_total nat_cmp-IsAntisymmetric request_of a.mailbox.opened first.number first) i }))
      else None

  module _ (entries : Entries) (found : map.get entries g ≡ Some (entry_of a)) where
    stays : (after : Entry) → after ≡ entry_of a → model.opened_if_ready logic g (entry_of a) (phase_of a.phase) ≡ None → Begins logic entries g false (map.insert entries g after)
    stays after same none =
        (ap (option_and_then (λ e. model.opened_if_ready logic g e e.phase)) found ∙ none, ap (map.insert entries g) same ∙ insert-again entries g (entry_of a) found)

    -- with a waiting request, or with an open turn, an entry is in use
    used-waiting : (first : Request) (others : List Request) → a.mailbox.waiting ≡ first ∷ others → is_idle (entry_of a) ≡ false
    used-waiting first others is =
        let ready = is_ready (phase_of a.phase) in
        let none_open = map.len (entry_of a).turns == 0 in
        ap (λ ws. ready && (length (map_list request_of ws) == 0) && none_open) is
        ∙ ap (λ b. ready && b && none_open) (some_waits (length (map_list request_of (first ∷ others))) (omega arith))
        ∙ ap (λ b. b && none_open) (and-false ready)

    used-open : (first : Request) (others : List Request) → is_idle (with_mail (begun a.mailbox (first ∷ others))) ≡ false
    used-open first others =
        let open_one = ap (λ (turns : FinMap nat_cmp _). map.len turns == 0) (mapped-insert nat_cmp_total nat_cmp-IsAntisymmetric request_of a.mailbox.opened first.number first) ∙ some_open (entry_of a).turns first.number (request_of first) in
        ap (λ b. (is_ready (phase_of a.phase) && (length (map_list request_of others) == 0)) && b) open_one
        ∙ and-false (is_ready (phase_of a.phase) && (length (map_list request_of others) == 0))

    by_front : (state : Tree) (version : Option ℕ) → a.phase ≡ Ready state version → (waiting : List Request) → a.mailbox.waiting ≡ waiting → AllByRecursion (IsMarked logic g) waiting
        → (may : Bool) → front_may_open a.mailbox.opened waiting ≡ may → Begins logic entries g may (map.insert entries g (with_mail (if may then begun a.mailbox waiting else a.mailbox)))
    by_front state version is waiting queue all false may =
        stays (entry_of a) refl (ap (λ p. model.opened_if_ready logic g (entry_of a) (phase_of p)) is ∙ ap (λ ws. model.opened logic g (entry_of a) (map_list request_of ws)) queue ∙ opens-not waiting all may)
    by_front state version is [] queue all true may = absurd (true≢false (sym may))
    by_front state version is (first ∷ others) queue all true may = record {
      before = entry_of a;
      after = with_mail (begun a.mailbox (first ∷ others));
      found = found;
      does = ap (λ p. model.opened_if_ready logic g (entry_of a) (phase_of p)) is ∙ ap (λ ws. model.opened logic g (entry_of a) (map_list request_of ws)) queue ∙ opens-first first others all.0 may;
      used = used-waiting first others queue;
      in_use = used-open first others;
      put = refl;
    }

    by_phase : (phase : Phase) → a.phase ≡ phase → Begins logic entries g (opens_at a.mailbox phase) (map.insert entries g (with_mail (mail_begun a.mailbox phase)))
    by_phase Waiting is = stays (entry_of a) refl (ap (λ p. model.opened_if_ready logic g (entry_of a) (phase_of p)) is)
    by_phase Loading is = stays (entry_of a) refl (ap (λ p. model.opened_if_ready logic g (entry_of a) (phase_of p)) is)
    by_phase (Ready state version) is = by_front state version is a.mailbox.waiting refl marked.waiting (front_may_open a.mailbox.opened a.mailbox.waiting) refl

    -- what a begin leaves
    pub begins : Begins logic entries g (opens_at a.mailbox a.phase) (map.insert entries g (with_mail (mail_begun a.mailbox a.phase)))
    begins = by_phase a.phase refl

-- there is a turn exactly if one may be opened
turn_by : (g : Grain) (mail : Contents) (state : Tree) (waiting : List Request) (may : Bool) → front_may_open mail.opened waiting ≡ may → is_some (if may then turn_of g state waiting else None) ≡ may
turn_by g mail state waiting false is = refl
turn_by g mail state [] true is = absurd (true≢false (sym is))
turn_by g mail state (first ∷ others) true is = refl

pub is_some-turn_at : (g : Grain) (mail : Contents) (phase : Phase) → is_some (turn_at g mail phase) ≡ opens_at mail phase
is_some-turn_at g mail Waiting = refl
is_some-turn_at g mail Loading = refl
is_some-turn_at g mail (Ready state version) = turn_by g mail state mail.waiting (front_may_open mail.opened mail.waiting) refl
