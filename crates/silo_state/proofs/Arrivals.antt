-- What an activation, or a new one, is once a request came to it.
use Rattle.std.proofs.Common.{◌≡◌, ◌≤◌, ℕ, ◌+◌, arith, true, List, [], ◌∷◌, Some, None, ap, sym, ◌∙◌, subst, true≢false}
use Rattle.std.specs.Prelude.{Result, Ok, Err, OnOk, OnErr}
use Rattle.std.specs.FinMap as map
use Rattle.std.specs.FinMap.{FinMap, nat_cmp-IsAntisymmetric}
use Rattle.std.specs.Cmp.{nat_cmp_total}
use Rattle.std.specs.Ordering.{nat_cmp}
use Rattle.std.proofs.lemmas.List.{map-append}
use Rattle.std.proofs.lemmas.Option.{none-some}
use Rattle.finite_maps.proofs.Lists.{all_append}
use Rattle.grain_id.specs.Names.{Grain, grain_cmp}
use Rattle.grain_logic.specs.Logic.{Logic}
use Rattle.turn_mailbox.specs.declared.request.Request.{Request}
use Rattle.finite_maps.proofs.Mapped.{mapped-empty}
use Rattle.activation_directory.specs.declared.activation.Activation.{Activation}
use Rattle.silo_model.specs.Machine.{Entries}
use Rattle.silo_model.specs.Calls.{with_request}
use Rattle.silo_state.specs.Shown.{request_of, entry_of, entries_of}
use Rattle.silo_state.specs.Marks.{IsMarked, AreMarked, AllMarked}
use Rattle.silo_model.specs.Idle.{is_idle}
use Rattle.silo_state.specs.inside.Arrivals.{arrived, IsFirst}
use Rattle.silo_state.specs.inside.Notes.{IsInTime, AreNoted}
use Rattle.silo_state.proofs.Idle.{in_time_by, note_moves, now_noted, still_noted}
use Rattle.silo_state.proofs.Requests.{marked-put}
use Rattle.silo_state.proofs.Shows.{get-entries, entries-put, unmoved, same_mail}

module _ (logic : Logic) (m : FinMap grain_cmp Activation) (g : Grain) (request : Request) (clock : ℕ) where
  abbrev waits : Entries
  waits = map.insert (entries_of m) g (with_request clock (request_of request) (map.get (entries_of m) g))

  -- ---- at an activation

  module _ (a after : Activation) (found : map.get m g ≡ Some a) where
    arrived_shows : (capacity : ℕ) → after ≡ arrived a capacity request clock → entries_of (map.insert m g after) ≡ waits
    arrived_shows capacity is =
        entries-put m g after
        ∙ ap (λ x. map.insert (entries_of m) g (entry_of x)) is
        ∙ ap (λ queue. map.insert (entries_of m) g (record (entry_of a) { queue = queue; last = clock })) (map-append request_of a.mailbox.waiting (request ∷ []))
        ∙ ap (λ o. map.insert (entries_of m) g (with_request clock (request_of request) o)) (sym (get-entries m g (Some a) found))

    mail_arrived : (capacity : ℕ) → AreMarked logic g a.mailbox → IsMarked logic g request → AreMarked logic g (arrived a capacity request clock).mailbox
    mail_arrived capacity marked mark = record {
      known = marked.known;
      waiting = all_append (IsMarked logic g) a.mailbox.waiting (request ∷ []) marked.waiting (mark, tt);
      opened = marked.opened;
      numbered = marked.numbered;
    }

    module _ {A E : Type 0} (capacity : ℕ) (result : Result A E) (done : OnOk result (after ≡ arrived a capacity request clock)) (kept : OnErr result (after ≡ a)) where
      pub arrive_shows : OnOk result (entries_of (map.insert m g after) ≡ waits)
      arrive_shows = by result done
        where
          by : (r : Result A E) → OnOk r (after ≡ arrived a capacity request clock) → OnOk r (entries_of (map.insert m g after) ≡ waits)
          by (Ok u) d = arrived_shows capacity d
          by (Err e) d = tt

      pub arrive_leaves : OnErr result (entries_of (map.insert m g after) ≡ entries_of m)
      arrive_leaves = by result kept
        where
          by : (r : Result A E) → OnErr r (after ≡ a) → OnErr r (entries_of (map.insert m g after) ≡ entries_of m)
          by (Ok u) k = tt
          by (Err e) k = unmoved logic m g a after found k

      pub arrive_noted : (age_of : List ℕ → ℕ) (moments : FinMap grain_cmp ℕ) → AreNoted clock age_of m moments → AreNoted clock age_of (map.insert m g after) moments
      arrive_noted age_of moments all = by result done kept
        where
          by : (r : Result A E) → OnOk r (after ≡ arrived a capacity request clock) → OnErr r (after ≡ a) → AreNoted clock age_of (map.insert m g after) moments
          by (Ok u) d k = now_noted clock age_of m moments all g a after found (ap (λ (x : Activation). x.noted) d) (ap (λ (x : Activation). x.last) d)
          by (Err e) d k = still_noted clock age_of m moments all g a after found (ap (λ (x : Activation). x.noted) k) (unmoved logic m g a after found k)

      pub arrive_marked : AllMarked logic m → IsMarked logic g request → AllMarked logic (map.insert m g after)
      arrive_marked all mark = by result done kept
        where
          by : (r : Result A E) → OnOk r (after ≡ arrived a capacity request clock) → OnErr r (after ≡ a) → AllMarked logic (map.insert m g after)
          by (Ok u) d k = marked-put logic m g after all (subst (λ (x : Activation). AreMarked logic g x.mailbox) (sym d) (mail_arrived capacity (all g a found) mark))
          by (Err e) d k = same_mail logic m g a after found all (ap (λ (x : Activation). x.mailbox) k)

  -- ---- at none

  module _ (a : Activation) (is : IsFirst request clock a) (noted : ℕ) (absent : map.get m g ≡ None) where
    abbrev after : Activation
    after = record a { noted = noted }

    first_shows : entries_of (map.insert m g after) ≡ waits
    first_shows =
        entries-put m g after
        ∙ ap (λ x. map.insert (entries_of m) g (entry_of x)) is
        ∙ ap (λ turns. map.insert (entries_of m) g (record (with_request clock (request_of request) None) { turns = turns })) (mapped-empty nat_cmp_total nat_cmp-IsAntisymmetric request_of)
        ∙ ap (λ o. map.insert (entries_of m) g (with_request clock (request_of request) o)) (sym (get-entries m g None absent))

    first_marked : AllMarked logic m → logic.knows g.kind ≡ true → IsMarked logic g request → AllMarked logic (map.insert m g after)
    first_marked all known mark = marked-put logic m g after all (subst (λ (x : Activation). AreMarked logic g x.mailbox) (sym is) (record {
      known = known;
      waiting = (mark, tt);
      opened = λ number turn there. absurd (none-some turn (sym (map.get-empty nat_cmp number) ∙ there));
      numbered = λ number turn there. absurd (none-some turn (sym (map.get-empty nat_cmp number) ∙ there));
    }))

    -- it isn't ready, so it isn't idle
    first_in_time : (age : ℕ) → noted ≡ clock + age → IsInTime clock age after
    first_in_time age told = in_time_by clock age a noted (omega (arith, told)) (λ idle. absurd (true≢false (sym idle ∙ ap (λ (x : Activation). is_idle (entry_of x)) is)))

  module _ (a : Activation) (is : IsFirst request clock a) (noted : ℕ) (new : FinMap grain_cmp Activation) (put : new ≡ map.insert m g (record a { noted = noted })) (absent : map.get m g ≡ None) where
    pub enter_shows : entries_of new ≡ waits
    enter_shows = ap entries_of put ∙ first_shows a is noted absent

    pub enter_marked : AllMarked logic m → logic.knows g.kind ≡ true → IsMarked logic g request → AllMarked logic new
    enter_marked all known mark = subst (AllMarked logic) (sym put) (first_marked a is noted absent all known mark)

    pub enter_noted : (age_of : List ℕ → ℕ) (moments later : FinMap grain_cmp ℕ) → AreNoted clock age_of m moments → noted ≡ clock + age_of g.kind → later ≡ map.insert moments g noted → AreNoted clock age_of new later
    enter_noted age_of moments later all told later_is =
        subst (λ k. AreNoted clock age_of k later) (sym put) (note_moves clock age_of m moments all g (record a { noted = noted }) later later_is (first_in_time a is noted absent (age_of g.kind) told))
