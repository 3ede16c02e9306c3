-- A request that is accepted, and a turn that closes, note when their grain was used.
use Rattle.silo_model.proofs.Common.{◌∙◌, ◌∷◌, ◌≡◌, Call, Client, Deliver, Entry, Grain, List, None, Option, Party, Request, Some, Whole, ℕ}
use Rattle.silo_model.proofs.Common.{[], ap, change_at, drop, ends_activation, get-insert_same, grain_cmp_exact, grain_cmp_total, inl, inr}
use Rattle.silo_model.proofs.Common.{length, none-some, put, ready, refl, same_Some, stays_or_goes, sym, waiting, with_request}
use Rattle.std.specs.FinMap as map
use Rattle.finite_maps.proofs.Maps.{get-remove_same}
use Rattle.silo_event.specs.declared.reply.Party.TheVariants as party
use Rattle.silo_model.proofs.Leaving.{stays_or_goes_by}
use Rattle.answer_model.proofs.Brought.{Brings, brings, is_told, more_than_none, waits}
use Rattle.silo_laws.specs.Use.{IsUsedAt, IsUsedIfReady, UseIsNoted}
use Rattle.silo_laws.proofs.Closings.{Closes, Uses, abandon_uses, end_uses, store_closes}

-- ---- requests

with_last : (clock : ℕ) (q : Request) (found : Option Entry) → (with_request clock q found).last ≡ clock
with_last clock q None = refl
with_last clock q (Some e) = refl

-- where nobody is told anything, the request waits at the grain
noted : (w after : Whole) (owner : List ℕ) (p : Party) (place : Option Grain) (g : Grain) → place ≡ Some g → Brings w after owner p place → after.replies ≡ w.replies → IsUsedAt w.clock g after
noted w after owner p place g is (is_told _ outcome entries replies) silent =
    absurd (more_than_none w.replies (record { recipient = p; outcome = outcome }) (sym (ap length replies) ∙ ap length silent))
noted w after owner p place g is (waits h q own sender entries replies) silent = λ e found.
    let same : h ≡ g = same_Some h g is in
    let there : map.get after.entries g ≡ Some (with_request w.clock q (map.get w.entries h)) =
    ap (map.get after.entries) (sym same) ∙ ap (λ m. map.get m h) entries ∙ get-insert_same grain_cmp_total grain_cmp_exact w.entries h _ in
    ap (λ (x : Entry). x.last) (sym (same_Some _ e (sym there ∙ found))) ∙ with_last w.clock q (map.get w.entries h)

-- ---- turns

module _ (w after : Whole) (g : Grain) (turn : ℕ) where
  -- what was put is there, and what went isn't
  put_used : (new : Entry) → new.last ≡ w.clock → after.entries ≡ change_at w.entries g (put new) → IsUsedAt w.clock g after
  put_used new is entries e found =
      ap (λ (x : Entry). x.last) (sym (same_Some new e (sym (ap (λ m. map.get m g) entries ∙ get-insert_same grain_cmp_total grain_cmp_exact w.entries g new) ∙ found))) ∙ is

  none_there : after.entries ≡ change_at w.entries g drop → (e : Entry) → map.get after.entries g ≡ Some e → ⊥
  none_there entries e found = none-some e (sym (ap (λ m. map.get m g) entries ∙ get-remove_same grain_cmp_total grain_cmp_exact w.entries g) ∙ found)

  stays_used : (new : Entry) → new.last ≡ w.clock → after.entries ≡ change_at w.entries g (stays_or_goes new) → IsUsedAt w.clock g after
  stays_used new is entries =
      stays_or_goes_by new (λ c. after.entries ≡ change_at w.entries g c → IsUsedAt w.clock g after) (λ _ goes e found. absurd (none_there goes e found))
      (λ _ stays. put_used new is stays) entries

  -- where the activation ends, no entry is ready
  none_ready : (e : Entry) (q : Request) (queue : List Request) → after.entries ≡ change_at w.entries g (ends_activation e q queue) → IsUsedIfReady w.clock g after
  none_ready e q [] entries new state version found is = absurd (none_there entries new found)
  none_ready e q (first ∷ others) entries new state version found is =
      let put_there = ap (λ m. map.get m g) entries ∙ get-insert_same grain_cmp_total grain_cmp_exact w.entries g _ in
      let phases : waiting ≡ ready state version = ap (λ (x : Entry). x.phase) (same_Some _ new (sym put_there ∙ found)) ∙ is in
      absurd (cc phases)

  uses : Uses w after g turn → IsUsedAt w.clock g after
  uses u = stays_used u.new u.now u.entries

  used_if_ready : Closes w after g turn → IsUsedIfReady w.clock g after
  used_if_ready (inl u) = λ x state version found _. uses u x found
  used_if_ready (inr ended) = none_ready ended.at.entry ended.at.request ended.at.entry.queue ended.entries

-- ---- the law

pub use_is_noted : UseIsNoted
use_is_noted = record {
  calls = λ logic w after caller id g call step silent.
      noted w after caller.tenant (party.Client caller id) _ g refl (brings logic w after (Call caller id g call) caller.tenant (party.Client caller id) refl refl step) silent;
  deliveries = λ logic w after source g first step silent.
      noted w after source.tenant (party.Grain source) _ g first (brings logic w after (Deliver source) source.tenant (party.Grain source) refl refl step) silent;
  ends = λ logic w after g turn step. uses w after g turn (end_uses logic w after g turn step);
  stores = λ logic w after g turn failed step. used_if_ready w after g turn (store_closes logic w after g turn failed step);
  abandons = λ logic w after g turn step. uses w after g turn (abandon_uses logic w after g turn step);
}
