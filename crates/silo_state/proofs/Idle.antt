-- Which entries are idle, and that the notes stay those of the activations.
use Rattle.std.proofs.Common.{◌≡◌, ◌≤◌, ◌⊎◌, ⊎_elim, ℕ, ◌+◌, min, ◌==◌, Bool, true, false, ◌&&◌, arith, cond, List, Option, Some, None, refl, ap, sym, ◌∙◌, subst, true≢false}
use Rattle.std.specs.Prelude.{Result, Ok, Err, IfOk, OnOk, OnErr, IfSome, unwrap_or}
use Rattle.std.specs.Ordering.{eq_by_cmp}
use Rattle.std.specs.FinMap as map
use Rattle.std.specs.FinMap.{FinMap}
use Rattle.std.proofs.lemmas.Option.{none-some, same_Some}
use Rattle.grain_id.specs.Names.{Grain, grain_cmp}
use Rattle.grain_id.proofs.Order.{grain_cmp_total, grain_cmp_exact, eq_by_cmp-Decides}
use Rattle.finite_maps.proofs.Maps as maps
use Rattle.activation_directory.specs.declared.activation.Activation.{Activation}
use Rattle.activation_directory.specs.declared.activation.Phase.{Phase}
use Rattle.activation_directory.specs.declared.activation.Phase.TheVariants.{Waiting}
use Rattle.grain_logic.specs.Logic.{Logic, Keep}
use Rattle.idle_collector.specs.Notes.{Collection, noted_if, forgotten}
use Rattle.silo_event.specs.declared.reply.Party.{Party}
use Rattle.silo_event.specs.declared.step.Answer.{Answer}
use Rattle.silo_event.specs.declared.step.Answer.TheVariants.{Done, Failed, NotNow}
use Rattle.silo_model.specs.Effect.{put, drop}
use Rattle.silo_model.specs.Machine.{Entry, Entries}
use Rattle.silo_model.specs.Idle.{is_ready, is_idle, due_moment}
use Rattle.silo_state.specs.inside.Changes.{Starts, mail_begun, ClosesTurn}
use Rattle.silo_state.specs.inside.Notes.{IsInTime, AreNoted, due_at, noted_at, none_waits}
use Rattle.silo_state.specs.Entries.{Activates, Begins}
use Rattle.silo_state.specs.Shown.{phase_of, entry_of, entries_of}
use Rattle.silo_state.proofs.Shows.{get-entries}
use Rattle.silo_model.proofs.Changes.{changed_all}

-- at first nothing is noted
pub none_noted : (clock : ℕ) (age_of : List ℕ → ℕ) → AreNoted clock age_of map.empty map.empty
none_noted clock age_of = record {
  notes = λ g. map.get-empty grain_cmp g ∙ ap noted_at (sym (map.get-empty grain_cmp g));
  in_time = λ g a found. absurd (none-some a (sym (map.get-empty grain_cmp g) ∙ found));
}

-- the note of either
either_at : (b : Bool) (o p : Option Activation) → cond b (noted_at o) (noted_at p) ≡ noted_at (cond b o p)
either_at true o p = refl
either_at false o p = refl

module _ (clock : ℕ) (age_of : List ℕ → ℕ) (m : FinMap grain_cmp Activation) (moments : FinMap grain_cmp ℕ) (noted : AreNoted clock age_of m moments) (g : Grain) where
  -- both change at one grain
  notes-at : (o : Option Activation) (after : FinMap grain_cmp Activation) (notes : FinMap grain_cmp ℕ) → ((q : Grain) → map.get after q ≡ cond (eq_by_cmp grain_cmp q g) o (map.get m q))
      → ((q : Grain) → map.get notes q ≡ cond (eq_by_cmp grain_cmp q g) (noted_at o) (map.get moments q)) → (q : Grain) → map.get notes q ≡ noted_at (map.get after q)
  notes-at o after notes e l q =
      l q ∙ ap (cond (eq_by_cmp grain_cmp q g) (noted_at o)) (noted.notes q) ∙ either_at (eq_by_cmp grain_cmp q g) o (map.get m q) ∙ ap noted_at (sym (e q))

  kept_at : (q : Grain) (b : Bool) → eq_by_cmp grain_cmp q g ≡ b → (o : Option ℕ) → map.get moments g ≡ o → map.get moments q ≡ cond b o (map.get moments q)
  kept_at q true tied o is = ap (map.get moments) ((eq_by_cmp-Decides grain_cmp_total grain_cmp_exact q g).0 tied) ∙ is
  kept_at q false tied o is = refl

  -- the note stays
  pub note_stays : (a after : Activation) → map.get m g ≡ Some a → after.noted ≡ a.noted → IsInTime clock (age_of g.kind) after → AreNoted clock age_of (map.insert m g after) moments
  note_stays a after found same at = record {
    notes = notes-at (Some after) _ moments (map.get-insert grain_cmp_total m g after) (λ q. kept_at q (eq_by_cmp grain_cmp q g) refl (Some after.noted) (noted.notes g ∙ ap noted_at found ∙ ap Some (sym same)));
    in_time = changed_all grain_cmp_total grain_cmp_exact (λ q b. IsInTime clock (age_of q.kind) b) m (Some g) (put after) noted.in_time at;
  }

  -- it is another
  pub note_moves : (after : Activation) (later : FinMap grain_cmp ℕ) → later ≡ map.insert moments g after.noted → IsInTime clock (age_of g.kind) after → AreNoted clock age_of (map.insert m g after) later
  note_moves after later is at = record {
    notes = notes-at (Some after) _ later (map.get-insert grain_cmp_total m g after) (λ q. ap (λ (l : FinMap grain_cmp ℕ). map.get l q) is ∙ map.get-insert grain_cmp_total moments g after.noted q);
    in_time = changed_all grain_cmp_total grain_cmp_exact (λ q b. IsInTime clock (age_of q.kind) b) m (Some g) (put after) noted.in_time at;
  }

  -- it goes
  pub note_goes : (left : FinMap grain_cmp Activation) (later : FinMap grain_cmp ℕ) → left ≡ map.remove m g → later ≡ map.remove moments g → AreNoted clock age_of left later
  note_goes left later gone is = record {
    notes = notes-at None left later (λ q. ap (λ (l : FinMap grain_cmp Activation). map.get l q) gone ∙ map.get-remove grain_cmp_total m g q) (λ q. ap (λ (l : FinMap grain_cmp ℕ). map.get l q) is ∙ map.get-remove grain_cmp_total moments g q);
    in_time = subst (λ (l : FinMap grain_cmp Activation). (q : Grain) (b : Activation) → map.get l q ≡ Some b → IsInTime clock (age_of q.kind) b) (sym gone)
        (changed_all grain_cmp_total grain_cmp_exact (λ q b. IsInTime clock (age_of q.kind) b) m (Some g) drop noted.in_time tt);
  }

  -- it is what the grain has
  pub note_is : (a : Activation) → map.get m g ≡ Some a → map.get moments g ≡ Some a.noted
  note_is a found = noted.notes g ∙ ap noted_at found

  pub note_is_there : (a : Activation) → map.get m g ≡ Some a → IfSome (map.get moments g) (λ moment. moment ≡ a.noted)
  note_is_there a found = subst (λ o. IfSome o (λ moment. moment ≡ a.noted)) (sym (note_is a found)) refl

-- ---- notes that are in time

-- as long as it's in use
pub in_time_used : (clock age : ℕ) (a after : Activation) → IsInTime clock age a → after.noted ≡ a.noted → is_idle (entry_of after) ≡ false → IsInTime clock age after
in_time_used clock age a after h same used = record {
  if_used = subst (λ n. n ≤ clock + age) (sym same) h.if_used;
  if_idle = λ idle. absurd (true≢false (sym idle ∙ used));
}

-- if it was used now
pub in_time_now : (clock age : ℕ) (a after : Activation) → IsInTime clock age a → after.noted ≡ a.noted → after.last ≡ clock → IsInTime clock age after
in_time_now clock age a after h same now = record {
  if_used = subst (λ n. n ≤ clock + age) (sym same) h.if_used;
  if_idle = λ idle. omega (arith, same, now, h.if_used);
}

-- if it is the earlier of both moments
pub in_time_by : (clock age : ℕ) (a : Activation) (moment : ℕ) → moment ≤ clock + age → (is_idle (entry_of a) ≡ true → moment ≤ due_moment age (entry_of a)) → IsInTime clock age (record a { noted = moment })
in_time_by clock age a moment used idle = record { if_used = used; if_idle = idle }

-- as the clock goes on
pub in_time_later : (clock next age : ℕ) (a : Activation) → clock ≤ next → IsInTime clock age a → IsInTime next age a
in_time_later clock next age a on h = record { if_used = omega (arith, on, h.if_used); if_idle = h.if_idle }

pub noted_later : (clock next : ℕ) (age_of : List ℕ → ℕ) (m : FinMap grain_cmp Activation) (moments : FinMap grain_cmp ℕ) → clock ≤ next → AreNoted clock age_of m moments → AreNoted next age_of m moments
noted_later clock next age_of m moments on h = record { notes = h.notes; in_time = λ g a found. in_time_later clock next (age_of g.kind) a on (h.in_time g a found) }

-- ---- idle, by the moment that is told

pub busy_by_due : (age : ℕ) (e : Entry) → due_at age (Some e) ≡ None → is_idle e ≡ false
busy_by_due age e = by (is_idle e)
  where
    by : (idle : Bool) → cond idle (Some (due_moment age e)) None ≡ None → idle ≡ false
    by true told = absurd (none-some _ (sym told))
    by false told = refl

pub idle_by_due : (age : ℕ) (e : Entry) (due : ℕ) → due_at age (Some e) ≡ Some due → (is_idle e ≡ true) × (due_moment age e ≡ due)
idle_by_due age e due = by (is_idle e)
  where
    by : (idle : Bool) → cond idle (Some (due_moment age e)) None ≡ Some due → (idle ≡ true) × (due_moment age e ≡ due)
    by true told = (refl, same_Some _ _ told)
    by false told = absurd (none-some due told)

pub idle_none_waits : (e : Entry) → is_idle e ≡ true → none_waits e ≡ true
idle_none_waits e = by (is_ready e.phase) (none_waits e) (map.len e.turns == 0)
  where
    by : (r q t : Bool) → r && q && t ≡ true → q ≡ true
    by true true t idle = refl
    by true false t idle = idle
    by false q t idle = absurd (true≢false (sym idle))

-- it is the earlier of the moment from which it is due and the one from which it would be due if it were used now
pub in_time_least : (clock age : ℕ) (a : Activation) (due latest moment : ℕ) → due_at age (Some (entry_of a)) ≡ Some due → latest ≡ clock + age → moment ≡ min due latest → IsInTime clock age (record a { noted = moment })
in_time_least clock age a due latest moment told is least =
    let is_due = (idle_by_due age (entry_of a) due told).1 in
    in_time_by clock age a moment (omega (arith, is, least)) (λ idle. omega (arith, is_due, least))

-- ---- a note moves in a collector that expects its grain

module _ (old forgot : Collection) (g : Grain) (expected : old.expected ≡ Some g) (forgets : forgot ≡ record old { notes = forgotten old.notes g }) where
  pub may_note : IfSome forgot.expected (λ id. map.get forgot.notes id ≡ None)
  may_note =
      subst (λ (k : Collection). IfSome k.expected (λ id. map.get k.notes id ≡ None)) (sym (forgets ∙ (λ i. record { notes = forgotten old.notes g; expected = expected i })))
      (maps.get-remove_same grain_cmp_total grain_cmp_exact old.notes g)

  pub notes_anew : (new : Collection) (moment : ℕ) → new ≡ record { notes = noted_if forgot.notes forgot.expected moment; expected = None } → new.notes ≡ map.insert old.notes g moment
  notes_anew new moment noted =
      ap (λ (k : Collection). k.notes) noted
      ∙ ap (λ (k : Collection). noted_if k.notes k.expected moment) forgets
      ∙ ap (λ o. noted_if (forgotten old.notes g) o moment) expected
      ∙ maps.insert-remove grain_cmp_total grain_cmp_exact old.notes g moment

-- ---- the activation of one grain changes, and its note stays

-- it counts as before
in_time_as : (clock age : ℕ) (a after : Activation) → IsInTime clock age a → after.noted ≡ a.noted → entry_of after ≡ entry_of a → IsInTime clock age after
in_time_as clock age a after h same alike = record {
  if_used = subst (λ n. n ≤ clock + age) (sym same) h.if_used;
  if_idle = λ idle. subst (λ n. n ≤ due_moment age (entry_of after)) (sym same)
      (subst (λ (e : Entry). a.noted ≤ due_moment age e) (sym alike) (h.if_idle (ap is_idle (sym alike) ∙ idle)));
}

-- what the entries have at the grain is the activation's
entry_put : (m : FinMap grain_cmp Activation) (g : Grain) (after : Activation) (e : Entry) → entries_of (map.insert m g after) ≡ map.insert (entries_of m) g e → entry_of after ≡ e
entry_put m g after e is =
    same_Some (entry_of after) e
    (sym (get-entries (map.insert m g after) g (Some after) (maps.get-insert_same grain_cmp_total grain_cmp_exact m g after))
    ∙ ap (λ (es : Entries). map.get es g) is ∙ maps.get-insert_same grain_cmp_total grain_cmp_exact (entries_of m) g e)

entry_kept : (m : FinMap grain_cmp Activation) (g : Grain) (a after : Activation) → map.get m g ≡ Some a → entries_of (map.insert m g after) ≡ entries_of m → entry_of after ≡ entry_of a
entry_kept m g a after found kept =
    same_Some (entry_of after) (entry_of a)
    (sym (get-entries (map.insert m g after) g (Some after) (maps.get-insert_same grain_cmp_total grain_cmp_exact m g after))
    ∙ ap (λ (es : Entries). map.get es g) kept ∙ get-entries m g (Some a) found)

module _ (clock : ℕ) (age_of : List ℕ → ℕ) (m : FinMap grain_cmp Activation) (moments : FinMap grain_cmp ℕ) (noted : AreNoted clock age_of m moments) (g : Grain) (a after : Activation) (found : map.get m g ≡ Some a) (same : after.noted ≡ a.noted) where
  pub still_noted : entries_of (map.insert m g after) ≡ entries_of m → AreNoted clock age_of (map.insert m g after) moments
  still_noted kept = note_stays clock age_of m moments noted g a after found same (in_time_as clock (age_of g.kind) a after (noted.in_time g a found) same (entry_kept m g a after found kept))

  pub used_noted : (e : Entry) → entries_of (map.insert m g after) ≡ map.insert (entries_of m) g e → is_idle e ≡ false → AreNoted clock age_of (map.insert m g after) moments
  used_noted e is used = note_stays clock age_of m moments noted g a after found same (in_time_used clock (age_of g.kind) a after (noted.in_time g a found) same (ap is_idle (entry_put m g after e is) ∙ used))

  pub busy_noted : is_idle (entry_of after) ≡ false → AreNoted clock age_of (map.insert m g after) moments
  busy_noted used = note_stays clock age_of m moments noted g a after found same (in_time_used clock (age_of g.kind) a after (noted.in_time g a found) same used)

  pub now_noted : after.last ≡ clock → AreNoted clock age_of (map.insert m g after) moments
  now_noted now = note_stays clock age_of m moments noted g a after found same (in_time_now clock (age_of g.kind) a after (noted.in_time g a found) same now)

  pub activate_noted : (answer : Answer) → Activates (entries_of m) g answer (entries_of (map.insert m g after)) → AreNoted clock age_of (map.insert m g after) moments
  activate_noted Done d = used_noted _ d.put refl
  activate_noted Failed d = absurd d
  activate_noted NotNow d = still_noted d.1

  begin_noted : (logic : Logic) (opened : Bool) → Begins logic (entries_of m) g opened (entries_of (map.insert m g after)) → AreNoted clock age_of (map.insert m g after) moments
  begin_noted logic false d = still_noted d.1
  begin_noted logic true d = used_noted d.after d.put d.in_use

  pub begins_noted : {A E : Type 0} (logic : Logic) (shown : A → Bool) (result : Result A E) → IfOk result (λ x. Begins logic (entries_of m) g (shown x) (entries_of (map.insert m g after))) → OnErr result (entries_of (map.insert m g after) ≡ entries_of m) → AreNoted clock age_of (map.insert m g after) moments
  begins_noted logic shown (Ok x) d kept = begin_noted logic (shown x) d
  begins_noted logic shown (Err e) d kept = still_noted kept

-- it begins to load
pub start_noted : (a after : Activation) (answer : Answer) → Starts a answer after → after.noted ≡ a.noted
start_noted a after Done d = ap (λ (x : Activation). x.noted) d.1
start_noted a after Failed d = absurd d
start_noted a after NotNow d = ap (λ (x : Activation). x.noted) d.1

-- a turn begins
pub begun_noted : {A E : Type 0} (a after : Activation) (result : Result A E) → OnOk result (after ≡ record a { mailbox = mail_begun a.mailbox a.phase }) → OnErr result (after ≡ a) → after.noted ≡ a.noted
begun_noted a after (Ok x) begun kept = ap (λ (x : Activation). x.noted) begun
begun_noted a after (Err e) begun kept = ap (λ (x : Activation). x.noted) kept

-- ---- a turn is closed

pub closed_noted : (a after : Activation) (turn : ℕ) (phase : Option Phase) (said : Keep) (last : ℕ) (sender : Party) → ClosesTurn a turn phase said last sender after → after.noted ≡ a.noted
closed_noted a after turn phase said last sender d = ap (λ (x : Activation). x.noted) d.left

-- it is used now, or its activation ends and isn't ready
pub closes_noted : (clock : ℕ) (age_of : List ℕ → ℕ) (m : FinMap grain_cmp Activation) (moments : FinMap grain_cmp ℕ) (noted : AreNoted clock age_of m moments) (g : Grain) (a after : Activation) (found : map.get m g ≡ Some a)
    (turn : ℕ) (phase : Option Phase) (said : Keep) (last : ℕ) (sender : Party) → ClosesTurn a turn phase said last sender after → (last ≡ clock) ⊎ (phase ≡ Some Waiting) → AreNoted clock age_of (map.insert m g after) moments
closes_noted clock age_of m moments noted g a after found turn phase said last sender d used =
    let same = closed_noted a after turn phase said last sender d in
    ⊎_elim
    (λ now. now_noted clock age_of m moments noted g a after found same (ap (λ (x : Activation). x.last) d.left ∙ now))
    (λ ends. busy_noted clock age_of m moments noted g a after found same (waits after (ap (λ (x : Activation). x.phase) d.left ∙ ap (λ p. unwrap_or p a.phase) ends)))
    used
  where
    waits : (x : Activation) → x.phase ≡ Waiting → is_idle (entry_of x) ≡ false
    waits x is = ap (λ (p : Phase). is_ready (phase_of p) && none_waits (entry_of x) && (map.len (entry_of x).turns == 0)) is
