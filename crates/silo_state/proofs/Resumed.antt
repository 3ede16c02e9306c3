-- Activations that are opened with what was kept of others.
use Rattle.std.proofs.Common.{◌≡◌, ◌≤◌, ℕ, ◌+◌, ◌<◌, min, Bool, true, false, cond, arith, List, [], ◌∷◌, ◌++◌, length, get_or, take, Option, Some, None, is_some, refl, ap, sym, subst, ◌∙◌}
use Rattle.std.specs.Prelude.{option_map}
use Rattle.std.specs.Borrow.{Bor}
use Rattle.std.specs.Option.{option_copied}
use Rattle.std.specs.Ordering.{eq_by_cmp}
use Rattle.std.specs.Cmp.{nat_cmp_total}
use Rattle.std.specs.FinMap as map
use Rattle.std.specs.FinMap.{FinMap, nat_cmp-IsAntisymmetric}
use Rattle.std.proofs.lemmas.List.{take_all, take_more}
use Rattle.std.proofs.lemmas.Option.{none-some}
use Rattle.finite_maps.specs.Mapped.{map_values, with_values}
use Rattle.finite_maps.proofs.Mapped.{get-mapped, mapped-empty}
use Rattle.finite_maps.proofs.Maps.{alike}
use Rattle.grain_id.specs.Names.{Grain, grain_cmp}
use Rattle.grain_id.proofs.Order.{grain_cmp_total, grain_cmp_exact, eq_by_cmp-Decides}
use Rattle.grain_logic.specs.Logic.{Logic}
use Rattle.turn_mailbox.specs.Contents.{Contents}
use Rattle.activation_directory.specs.declared.activation.Activation.{Activation}
use Rattle.silo_model.specs.Idle.{is_idle, due_moment}
use Rattle.silo_model.specs.Machine.{Entries, Entry}
use Rattle.silo_model.specs.Opening.{KeptGrain, awake}
use Rattle.silo_state.specs.inside.Notes.{AreNoted}
use Rattle.silo_state.specs.inside.Resuming.{IsIdleFrom, idle_unless, with_each, with_idle}
use Rattle.silo_state.specs.KeptParts.{grains_in, kept_grain_in}
use Rattle.silo_state.specs.Marks.{AllMarked, AreMarked}
use Rattle.silo_state.specs.Shown.{entry_of, entries_of, request_of}
use Rattle.silo_state.specs.declared.parts.GrainParts.{GrainParts}
use Rattle.silo_state.proofs.Idle.{in_time_by, note_moves}
use Rattle.silo_state.proofs.Requests.{marked-put}
use Rattle.silo_state.proofs.Shows.{entries-put, get-entries}

-- ---- the entries with those of all

abbrev pub or_idle : Option Entry → Option KeptGrain → Option Entry
or_idle (Some e) k = Some e
or_idle None k = option_map awake k

nothing_more : (o : Option Entry) → o ≡ or_idle o None
nothing_more (Some e) = refl
nothing_more None = refl

module _ (q g : Grain) (k : KeptGrain) (f : Option KeptGrain) (entries : Entries) where
  here : (o : Option Entry) → map.get entries g ≡ o → eq_by_cmp grain_cmp q g ≡ true → map.get entries q ≡ o
  here o is tied = ap (map.get entries) ((eq_by_cmp-Decides grain_cmp_total grain_cmp_exact q g).0 tied) ∙ is

  put_here : (b : Bool) → eq_by_cmp grain_cmp q g ≡ b → map.get (map.insert entries g (awake k)) q ≡ cond b (Some (awake k)) (map.get entries q)
  put_here b is = map.get-insert grain_cmp_total entries g (awake k) q ∙ ap (λ b. cond b (Some (awake k)) (map.get entries q)) is

  one_idle : (o : Option Entry) → map.get entries g ≡ o → (b : Bool) → eq_by_cmp grain_cmp q g ≡ b
      → or_idle (map.get (idle_unless o entries g k) q) f ≡ or_idle (map.get entries q) (cond b (Some k) f)
  one_idle (Some e) is true tied = ap (λ o. or_idle o f) (here (Some e) is tied) ∙ sym (ap (λ o. or_idle o (Some k)) (here (Some e) is tied))
  one_idle (Some e) is false tied = refl
  one_idle None is true tied = ap (λ o. or_idle o f) (put_here true tied) ∙ sym (ap (λ o. or_idle o (Some k)) (here None is tied))
  one_idle None is false tied = ap (λ o. or_idle o f) (put_here false tied)

get_each : (entries : Entries) (gs : List (Grain × GrainParts)) (q : Grain)
    → map.get (with_each entries gs) q ≡ or_idle (map.get entries q) (map.find grain_cmp q (with_values kept_grain_in gs))
get_each entries [] q = nothing_more (map.get entries q)
get_each entries (g ∷ gs) q =
    let k = kept_grain_in g.1 in
    get_each (with_idle entries g.0 k) gs q
    ∙ one_idle q g.0 k (map.find grain_cmp q (with_values kept_grain_in gs)) entries (map.get entries g.0) refl (eq_by_cmp grain_cmp q g.0) refl

each_kept : (gs : List (Grain × GrainParts)) → with_each map.empty gs ≡ map_values awake (grains_in gs)
each_kept gs =
    alike grain_cmp_total grain_cmp_exact (with_each map.empty gs) (map_values awake (grains_in gs)) (λ q.
    get_each map.empty gs q ∙ ap (λ o. or_idle o (map.find grain_cmp q (with_values kept_grain_in gs))) (map.get-empty grain_cmp q)
    ∙ sym (get-mapped grain_cmp_total grain_cmp_exact awake (grains_in gs) q ∙ ap (option_map awake) (map.get-from_entries grain_cmp_total (with_values kept_grain_in gs) q)))

one_behind : (entries : Entries) (gs : List (Grain × GrainParts)) (g : Grain × GrainParts) → with_each entries (gs ++ g ∷ []) ≡ with_idle (with_each entries gs) g.0 (kept_grain_in g.1)
one_behind entries [] g = refl
one_behind entries (x ∷ gs) g = one_behind (with_idle entries x.0 (kept_grain_in x.1)) gs g

-- those of one more
pub one_more : (gs : List (Grain × GrainParts)) (i : ℕ) (g : Grain × GrainParts) (old new : Entries) → i < length gs → g ≡ get_or gs i g → old ≡ with_each map.empty (take i gs)
    → new ≡ with_idle old g.0 (kept_grain_in g.1) → new ≡ with_each map.empty (take (i + 1) gs)
one_more gs i g old new within is before next =
    next ∙ ap (λ (es : Entries). with_idle es g.0 (kept_grain_in g.1)) before
    ∙ sym (ap (with_each map.empty) (take_more gs i g within ∙ ap (λ x. take i gs ++ x ∷ []) (sym is)) ∙ one_behind map.empty (take i gs) g)

-- all of them
pub each_idle : (gs : List (Grain × GrainParts)) (i : ℕ) (es : Entries) → length gs ≤ i → es ≡ with_each map.empty (take i gs) → es ≡ map_values awake (grains_in gs)
each_idle gs i es reached so_far = so_far ∙ ap (with_each map.empty) (take_all i gs reached) ∙ each_kept gs

-- ---- the activation of one

module _ (parts : GrainParts) (a : Activation) (is : IsIdleFrom parts a) where
  idle_mail : a.mailbox ≡ record { waiting = []; opened = map.empty; capacity = a.mailbox.capacity }
  idle_mail = ap (λ (x : Activation). x.mailbox) is

  pub idle_shown : entry_of a ≡ awake (kept_grain_in parts)
  idle_shown =
      ap entry_of is
      ∙ (λ i. record (awake (kept_grain_in parts)) { turns = mapped-empty nat_cmp_total nat_cmp-IsAntisymmetric request_of i })

  idle_marked : (logic : Logic) (g : Grain) → logic.knows g.kind ≡ true → AreMarked logic g a.mailbox
  idle_marked logic g known = subst (λ (mail : Contents). AreMarked logic g mail) (sym idle_mail) record {
    known = known;
    waiting = tt;
    opened = λ n r found. absurd (none-some r (sym (map.get-empty _ n) ∙ found));
    numbered = λ n r found. absurd (none-some r (sym (map.get-empty _ n) ∙ found));
  }

  module _ (m : FinMap grain_cmp Activation) (g : Grain) (noted : ℕ) where
    -- the grain has no activation yet
    pub idle_put : map.get m g ≡ None → entries_of (map.insert m g (record a { noted = noted })) ≡ with_idle (entries_of m) g (kept_grain_in parts)
    idle_put absent =
        entries-put m g (record a { noted = noted })
        ∙ ap (map.insert (entries_of m) g) idle_shown
        ∙ sym (ap (λ o. idle_unless o (entries_of m) g (kept_grain_in parts)) (get-entries m g None absent))

    pub idle_all_marked : (logic : Logic) → AllMarked logic m → logic.knows g.kind ≡ true → AllMarked logic (map.insert m g (record a { noted = noted }))
    idle_all_marked logic all known = marked-put logic m g (record a { noted = noted }) all (idle_marked logic g known)

    pub idle_noted : (clock : ℕ) (age_of : List ℕ → ℕ) (moments later : FinMap grain_cmp ℕ) → AreNoted clock age_of m moments
        → (due latest : ℕ) → due ≡ due_moment (age_of g.kind) (entry_of a) → latest ≡ clock + age_of g.kind → noted ≡ min due latest
        → later ≡ map.insert moments g noted → AreNoted clock age_of (map.insert m g (record a { noted = noted })) later
    idle_noted clock age_of moments later all due latest is_due is_latest least is_later =
        note_moves clock age_of m moments all g (record a { noted = noted }) later is_later
        (in_time_by clock (age_of g.kind) a noted (omega (arith, is_latest, least)) (λ _. omega (arith, is_due, least)))

-- the grain has one
module _ (m : FinMap grain_cmp Activation) (g : Grain) (k : KeptGrain) where
  stays_by : (o : Option Activation) → map.get m g ≡ o → is_some o ≡ true → entries_of m ≡ with_idle (entries_of m) g k
  stays_by (Some a) found some = sym (ap (λ o. idle_unless o (entries_of m) g k) (get-entries m g (Some a) found))
  stays_by None found some = absurd cc

  pub stays_put : (r : Option (Bor Activation)) → option_copied r ≡ map.get m g → is_some r ≡ true → entries_of m ≡ with_idle (entries_of m) g k
  stays_put (Some a) found some = stays_by (Some a.now) (sym found) refl
  stays_put None found some = absurd cc

  pub has_none : (r : Option (Bor Activation)) → option_copied r ≡ map.get m g → is_some r ≡ false → map.get m g ≡ None
  has_none (Some a) found none = absurd cc
  has_none None found none = sym found
