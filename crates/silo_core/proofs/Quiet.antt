-- A silo is quiet exactly if each grain is settled and nothing is left to deliver.
use Rattle.std.proofs.Common.{◌≡◌, ℕ, ◌+◌, Bool, true, false, List, [], length, Option, Some, None, Bor, refl, ap, sym, ◌∙◌, arith, true≢false}
use Rattle.std.specs.Prelude.{◌==◌, ◌↔◌, not, is_some, IfNone, IfSome, IsTrue}
use Rattle.std.specs.FinMap as map
use Rattle.std.proofs.lemmas.List.{length-append, length-map}
use Rattle.std.proofs.lemmas.Bool.{and_parts, and_from, eqb-true, eq-eqb}
use Rattle.std.proofs.lemmas.Option.{none-some}
use Rattle.finite_maps.proofs.Sums.{sum_zero}
use Rattle.finite_maps.proofs.Totals.{total_alike}
use Rattle.grain_id.specs.Names.{Grain}
use Rattle.grain_id.proofs.Order.{text_cmp_total}
use Rattle.silo_model.specs.Machine.{Account, Entry, Request}
use Rattle.silo_model.specs.Pending.{AllQuiet, sends_of, pending_in, sent_in}
use Rattle.silo_model.specs.Settled.{pending_at}
use Rattle.silo_model.specs.Whole.{Whole, shown_to}
use Rattle.silo_model.proofs.Fair.{within_all}
use Rattle.silo_model.proofs.QuietCounts.{quiet_by_counts, in_weighs, one_weighs, zero_entries}
use Rattle.silo_state.specs.Reads.{is_quiet}
use Rattle.tenant_accounts.specs.Sends.{HasSent, NothingSent, first_source}
use Rattle.silo_state.specs.Work.{is_settled}

-- ---- an entry

held_length : (e : Entry) → length (pending_at e) ≡ length e.queue + map.len e.turns
held_length e = length-append e.queue (map.values e.turns) ∙ ap (λ n. length e.queue + n) (length-map (map.entries e.turns) (λ t. t.1) ∙ sym (map.len-entries e.turns))

quiet_none : (e : Entry) → is_quiet e ≡ true → length (pending_at e) ≡ 0
quiet_none e quiet =
    let parts = and_parts (length e.queue == 0) (map.len e.turns == 0) quiet in
    omega (arith, held_length e, eqb-true (length e.queue) 0 parts.0, eqb-true (map.len e.turns) 0 parts.1)

none_quiet : (e : Entry) → length (pending_at e) ≡ 0 → is_quiet e ≡ true
none_quiet e none = and_from (length e.queue == 0) (map.len e.turns == 0) (eq-eqb (length e.queue) 0 (omega (arith, held_length e, none))) (eq-eqb (map.len e.turns) 0 (omega (arith, held_length e, none)))

-- ---- a silo

module _ (w : Whole) (settled : (g : Grain) → is_settled (map.get w.entries g) ≡ true) (unsent : (tenant : List ℕ) → sends_of (map.get w.accounts tenant) ≡ []) where
  entries_none : pending_in w ≡ 0
  entries_none = zero_entries (λ e. length (pending_at e)) w.entries (λ g e found. quiet_none e (ap is_settled (sym found) ∙ settled g))

  sends_none : sent_in w ≡ 0
  sends_none =
      total_alike text_cmp_total (λ (a : Account). length a.sends) (λ a. 0) w.accounts (λ t a found. ap length (ap sends_of (sym found) ∙ unsent t))
      ∙ sum_zero (map.values w.accounts)

  pub all_quiet : AllQuiet w
  all_quiet = (quiet_by_counts w).1 (entries_none, sends_none)

module _ (w : Whole) (quiet : AllQuiet w) where
  nothing_at : (g : Grain) (e : Entry) → map.get w.entries g ≡ Some e → length (pending_at e) ≡ 0
  nothing_at g e found = omega (arith, within_all (λ (q : Request). 1) w.entries g e found, one_weighs e, in_weighs w, ((quiet_by_counts w).0 quiet).0)

  settled_by : (g : Grain) (o : Option Entry) → map.get w.entries g ≡ o → is_settled o ≡ true
  settled_by g None found = refl
  settled_by g (Some e) found = none_quiet e (nothing_at g e found)

  pub settled_there : (g : Grain) → is_settled (map.get w.entries g) ≡ true
  settled_there g = settled_by g (map.get w.entries g) refl

  pub nothing_sent : (tenant : List ℕ) → sends_of (map.get w.accounts tenant) ≡ []
  unfolding shown_to
  nothing_sent tenant = (quiet tenant).nothing_sent

-- ---- by the first grain that sent something

is_true : (b : Bool) → false ≡ not b → b ≡ true
is_true true e = refl
is_true false e = absurd (true≢false (sym e))

is_false : (b : Bool) → true ≡ not b → b ≡ false
is_false true e = absurd (true≢false e)
is_false false e = refl

module _ (w : Whole) (settled : (g : Grain) → is_settled (map.get w.entries g) ≡ true) where
  pub sender_tells : (found : Option (Bor Grain)) (none : Bool) → is_some found ≡ not none → IfSome found (λ g. HasSent w.accounts g.now) → IfNone found (NothingSent w.accounts) → IsTrue none ↔ AllQuiet w
  sender_tells None none is has unsent = ((λ _. all_quiet w settled unsent), (λ _. is_true none is))
  sender_tells (Some g) none is has unsent = (
    (λ told. absurd (true≢false (sym told ∙ is_false none is))),
    (λ quiet. absurd (none-some g.now (sym (ap first_source (nothing_sent w quiet has.0)) ∙ has.1))),
  )
