-- A silo is quiet exactly if nothing waits or is open, and nothing is left of what was sent.
use Rattle.silo_model.proofs.Common.{◌+◌, ◌∙◌, ◌≡◌, ◌≤◌, Account, Entries, Entry, Grain, List, Machine, Request, Some, Whole, []}
use Rattle.silo_model.proofs.Common.{all_pending, ap, arith, at, get-part, grain_cmp_total, is_of, length, nil_from_length, pending_at}
use Rattle.silo_model.proofs.Common.{refl, sends_of, shown_to, some_if_passes, sum_alike, sum_by-append, sym, text_cmp_exact}
use Rattle.silo_model.proofs.Common.{text_cmp_total, total, total-remove, ℕ}
use Rattle.std.specs.FinMap as map
use Rattle.finite_maps.proofs.Totals.{total_alike}
use Rattle.finite_maps.proofs.Sums.{sum_one, sum_zero}
use Rattle.silo_model.specs.Pending.{AllQuiet, QuietByCounts, pending_in, sent_in}
use Rattle.silo_model.proofs.Contexts.{shown_account, shown_own}
use Rattle.silo_model.proofs.Tests.{on_found}
use Rattle.silo_model.proofs.Fair.{held, pend, within_all}
use Rattle.silo_model.proofs.FairRuns.{pending_weight}

all_weigh : (m : Machine) → pend (λ q. 1) m.entries ≡ length (all_pending m)
all_weigh m = sym (pending_weight (λ q. 1) m) ∙ sum_one (all_pending m)

pub one_weighs : (e : Entry) → length (pending_at e) ≡ held (λ q. 1) e
one_weighs e = sym (sum_one (pending_at e)) ∙ sum_by-append (λ (q : Request). 1) e.queue (map.values e.turns)

pub in_weighs : (w : Whole) → pending_in w ≡ pend (λ q. 1) w.entries
in_weighs w = sum_alike (λ e. length (pending_at e)) (held (λ q. 1)) (map.values w.entries) one_weighs

pub zero_entries : (f : Entry → ℕ) (entries : Entries) → ((g : Grain) (e : Entry) → map.get entries g ≡ Some e → f e ≡ 0) → total f entries ≡ 0
zero_entries f entries none = total_alike grain_cmp_total f (λ e. 0) entries none ∙ sum_zero (map.values entries)

pub shown_entry : (w : Whole) (g : Grain) (e : Entry) → map.get w.entries g ≡ Some e → map.get (shown_to g.tenant w).entries g ≡ Some e
shown_entry w g e found = shown_own w g.tenant g refl ∙ found

entry_shown : (w : Whole) (tenant : List ℕ) (g : Grain) (e : Entry) → map.get (shown_to tenant w).entries g ≡ Some e → map.get w.entries g ≡ Some e
unfolding shown_to
entry_shown w tenant g e found =
    (some_if_passes (is_of tenant g) (map.get w.entries g) e (sym (get-part w.entries (is_of tenant) g) ∙ found)).1

entries_quiet : (w : Whole) → AllQuiet w → pending_in w ≡ 0
entries_quiet w quiet = in_weighs w ∙ zero_entries (held (λ q. 1)) w.entries (λ g e found.
    let m : Machine = shown_to g.tenant w in
    omega (arith, within_all (λ q. 1) m.entries g e (shown_entry w g e found), all_weigh m, ap length (quiet g.tenant).nothing_pending))

sends_quiet : (w : Whole) → AllQuiet w → sent_in w ≡ 0
sends_quiet w quiet =
    total_alike text_cmp_total (λ (a : Account). length a.sends) (λ a. 0) w.accounts (λ t a found. ap length (ap sends_of (sym found ∙ sym (shown_account w t)) ∙ (quiet t).nothing_sent))
    ∙ sum_zero (map.values w.accounts)

-- the weight of one account is within that of all
within_accounts : (w : Whole) (tenant : List ℕ) (a : Account) → map.get w.accounts tenant ≡ Some a → length a.sends ≤ sent_in w
within_accounts w tenant a found =
    let f : Account → ℕ = λ x. length x.sends in
    omega (arith, ap (λ o. total f (map.remove w.accounts tenant) + at f o) (sym found) ∙ total-remove text_cmp_total text_cmp_exact f w.accounts tenant)

account_quiet : (w : Whole) → sent_in w ≡ 0 → (tenant : List ℕ) → sends_of (map.get w.accounts tenant) ≡ []
account_quiet w none tenant =
    on_found (λ account. sends_of account ≡ []) (map.get w.accounts tenant) (λ _. refl)
    (λ a found. nil_from_length a.sends (omega (arith, none, within_accounts w tenant a found)))

part_quiet : (w : Whole) → pending_in w ≡ 0 → (tenant : List ℕ) → all_pending (shown_to tenant w) ≡ []
part_quiet w none tenant =
    let m : Machine = shown_to tenant w in
    nil_from_length (all_pending m) (sym (all_weigh m) ∙ zero_entries (held (λ q. 1)) m.entries (λ g e found.
    omega (arith, within_all (λ q. 1) w.entries g e (entry_shown w tenant g e found), in_weighs w, none)))

pub quiet_by_counts : QuietByCounts
quiet_by_counts w = (
  λ quiet. (entries_quiet w quiet, sends_quiet w quiet),
  λ none tenant. record {
    nothing_pending = part_quiet w none.0 tenant;
    nothing_sent = ap sends_of (shown_account w tenant) ∙ account_quiet w none.1 tenant;
  },
)
