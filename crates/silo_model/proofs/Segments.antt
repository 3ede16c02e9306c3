-- A silo that goes on from what is kept of it is what it was.
use Rattle.silo_model.proofs.Common.{◌++◌, ◌∙◌, ◌∷◌, ◌≡◌, Account, Entry, Grain, LeadsTo, Limits, List, Logic, None, Option, Phase, Reply, Setup, Some, Step}
use Rattle.silo_model.proofs.Common.{Whole, [], all_done, ap, append-nil, cond, delivery_of, first_from, grain_cmp, grain_cmp_exact, grain_cmp_total, grain_eq}
use Rattle.silo_model.proofs.Common.{grain_eq_decides, is_some, is_some-option_map, limits_of, none-some, opening, option_and_then, option_map, ready, refl}
use Rattle.silo_model.proofs.Common.{same_Some, same_text, same_text_decides, subst, sym, text_cmp, text_cmp_exact, text_cmp_total, true, whole_step, false, false_from_ne_true, true≢false, ℕ}
use Rattle.std.specs.FinMap as map
use Rattle.std.specs.FinMap.{FinMap}
use Rattle.finite_maps.specs.Mapped.{map_values}
use Rattle.finite_maps.proofs.Mapped.{get-mapped}
use Rattle.finite_maps.proofs.Maps.{alike, entries-none}
use Rattle.silo_model.specs.Machine.{Send, Request}
use Rattle.silo_model.proofs.Common.{nat_cmp}
use Rattle.silo_model.specs.Collected.{AllIdle, IsIdle}
use Rattle.silo_model.specs.Journal.{all_done_by}
use Rattle.silo_model.specs.Opening.{Kept, account_at, account_by, awake, opening_accounts, own_sends}
use Rattle.silo_model.specs.Segments.{ResumesAsItWas, SegmentsLead, kept_account, kept_by, kept_grain, kept_of, resumed, told_before, untold}
use Rattle.silo_model.specs.Todo.{OwnSends}
use Rattle.silo_model.proofs.Framed.{framed_all}
use Rattle.silo_model.proofs.KeptLimits.{journal_limits, limits_at}
use Rattle.silo_model.proofs.Opening.{get-opening_accounts}
use Rattle.silo_model.proofs.OwnSends.{sends_are_own}
use Rattle.silo_model.proofs.RestingEntries.{resting_is_used}
use Rattle.silo_model.proofs.SameAges.{journal_ages}
use Rattle.silo_model.proofs.Tests.{on_found, on_test}

-- ---- accounts

-- what a tenant's own grains sent is all that was sent, if each source is the tenant's
all_own : (t : List ℕ) (sends : List Send) → ((s : Send) (front back : List Send) → sends ≡ front ++ s ∷ back → s.source.tenant ≡ t) → own_sends t sends ≡ sends
all_own t [] own = refl
all_own t (s ∷ sends) own =
    ap (λ b. cond b (s ∷ own_sends t sends) (own_sends t sends)) ((same_text_decides s.source.tenant t).1 (own s [] sends refl))
    ∙ ap (λ (ss : List Send). s ∷ ss) (all_own t sends (λ x front back e. own x (s ∷ front) back (ap (λ (ss : List Send). s ∷ ss) e)))

-- the source of a send that stands somewhere has something to deliver
stands : (s : Send) (front back : List Send) → is_some (first_from s.source (front ++ s ∷ back)) ≡ true
stands s [] back =
    ap (λ b. is_some {T = Send × List Send} (cond b (Some (s, back)) (option_map (λ (found : Send × List Send). (found.0, s ∷ found.1)) (first_from s.source back)))) ((grain_eq_decides s.source s.source).1 refl)
stands s (x ∷ front) back =
    on_test (λ b. is_some {T = Send × List Send} (cond b (Some (x, front ++ s ∷ back)) (option_map (λ (found : Send × List Send). (found.0, x ∷ found.1)) (first_from s.source (front ++ s ∷ back)))) ≡ true)
    (grain_eq x.source s.source) (λ _. refl)
    (λ _. is_some-option_map (λ (found : Send × List Send). (found.0, x ∷ found.1)) (first_from s.source (front ++ s ∷ back)) ∙ stands s front back)

module _ (w : Whole) (own : OwnSends w) (t : List ℕ) (a : Account) (found : map.get w.accounts t ≡ Some a) where
  sends_are : own_sends t a.sends ≡ a.sends
  sends_are = all_own t a.sends (λ s front back e.
      own t s.source (ap (λ o. is_some (delivery_of s.source o)) found ∙ is_some-option_map _ (first_from s.source a.sends)
      ∙ ap (λ ss. is_some (first_from s.source ss)) e ∙ stands s front back))

  -- the account that opens is the account that there was
  reopened : account_at (kept_of w) t a.limits ≡ a
  reopened =
      ap (account_by t a.limits) (get-mapped text_cmp_total text_cmp_exact kept_account w.accounts t ∙ ap (option_map kept_account) found)
      ∙ ap (λ sends. record { limits = a.limits; count = a.count; sends = sends }) sends_are

accounts_are : (logic : Logic) (setup : Setup) (journal : List Step) (w : Whole) → LeadsTo logic setup journal w
    → opening_accounts setup.tenants (kept_of w) ≡ w.accounts
accounts_are logic setup journal w leads =
    alike text_cmp_total text_cmp_exact _ _ (λ t.
    get-opening_accounts setup.tenants (kept_of w) t
    ∙ on_found (λ o. limits_at o ≡ limits_of setup.tenants t → map.get w.accounts t ≡ o → option_map (account_at (kept_of w) t) (limits_of setup.tenants t) ≡ o)
    (map.get w.accounts t)
    (λ _ limits _. ap (option_map (account_at (kept_of w) t)) (sym limits))
    (λ a _ limits found. ap (option_map (account_at (kept_of w) t)) (sym limits) ∙ ap Some (reopened w (sends_are_own logic setup journal w leads) t a found))
    (journal_limits logic setup journal w leads t) refl)

-- ---- entries

no_turns_is : (e : Entry) → map.len e.turns ≡ 0 → map.empty ≡ e.turns
no_turns_is e none = map.same_entries_map map.empty e.turns (entries-none map.empty (map.len-empty nat_cmp Request) ∙ sym (entries-none e.turns none))

rewoken : (e : Entry) → IsIdle e → e.resting ≡ false → awake (kept_grain e) ≡ e
rewoken e idle up =
    ap (λ p. awake (kept_by e p)) idle.phase
    ∙ (λ i. record {
      phase = sym idle.phase i;
      queue = sym idle.nothing_waits i;
      turns = no_turns_is e idle.none_open i;
      last = e.last;
      until = e.until;
      resting = sym up i;
    })

entries_are : (logic : Logic) (setup : Setup) (journal : List Step) (w : Whole) → LeadsTo logic setup journal w → AllIdle w.entries
    → map_values awake (kept_of w).grains ≡ w.entries
entries_are logic setup journal w leads rest =
    alike grain_cmp_total grain_cmp_exact _ _ (λ g.
    get-mapped grain_cmp_total grain_cmp_exact awake (kept_of w).grains g
    ∙ ap (option_map awake) (get-mapped grain_cmp_total grain_cmp_exact kept_grain w.entries g)
    ∙ on_found (λ o. map.get w.entries g ≡ o → option_map awake (option_map kept_grain o) ≡ o) (map.get w.entries g) (λ _ _. refl)
    (λ e _ found. ap Some (rewoken e (rest g e found)
    (false_from_ne_true e.resting (λ rests. resting_is_used logic setup journal w g e leads found rests (rest g e found))))) refl)

-- ---- the laws

pub resumes_as_it_was : ResumesAsItWas
unfolding opening
resumes_as_it_was logic setup journal w leads rest =
    let ages = journal_ages logic setup journal w leads in
    λ i. record {
      accounts = accounts_are logic setup journal w leads i;
      age = sym ages.0 i;
      ages = sym ages.1 i;
      clock = w.clock;
      entries = entries_are logic setup journal w leads rest i;
      rows = w.rows;
      replies = [];
    }

all_done-append : (logic : Logic) (w mid : Whole) (first second : List Step) → all_done logic w first ≡ Some mid → all_done logic w (first ++ second) ≡ all_done logic mid second
all_done-append logic w mid [] second e = ap (λ x. all_done logic x second) (same_Some w mid e)
all_done-append logic w mid (s ∷ first) second e =
    on_found (λ o. option_and_then (λ x. all_done logic x first) o ≡ Some mid → option_and_then (λ x. all_done logic x (first ++ second)) o ≡ all_done logic mid second)
    (whole_step logic w s) (λ _ none. absurd (none-some mid none)) (λ next _ on. all_done-append logic next mid first second on) e

pub segments_lead : SegmentsLead
segments_lead logic setup first second w x leads rest on =
    all_done-append logic (opening setup) w first second leads
    ∙ ap (λ v. all_done logic v second) (λ i. record w { replies = sym (append-nil w.replies) i })
    ∙ framed_all logic w.replies (untold w) second
    ∙ ap (option_map (told_before w.replies)) (ap (λ v. all_done logic v second) (sym (resumes_as_it_was logic setup first w leads rest)) ∙ on)
