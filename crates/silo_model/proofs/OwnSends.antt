-- What a grain sent is in the account of its own tenant, and a step adds to it only what its own grain sends.
use Rattle.silo_model.proofs.Common.{◌∙◌, ◌≡◌, Account, Deliver, End, Equal-is, Grain, Limits, List, Logic, None, Option, Setup, Some, Step}
use Rattle.silo_model.proofs.Common.{Whole, ap, change_at, change_option, context_at, delivery_of, eq_by_cmp, false, first_from}
use Rattle.silo_model.proofs.Common.{fresh_account, grain_eq, grain_eq_decides, is_among, is_some, is_some-option_map, limits_of, opening}
use Rattle.silo_model.proofs.Common.{option_map, owner_of, refl, sender_by, sends_of, shown_to, spread, sym, text_cmp, text_cmp_exact}
use Rattle.silo_model.proofs.Common.{text_cmp_total, true, true≢false, whole_step, ℕ}
use Rattle.std.specs.FinMap as map
use Rattle.std.proofs.Math.Bool.{or-false}
use Rattle.silo_model.specs.Todo.{OwnSends, SendsAreOwn}
use Rattle.silo_model.proofs.Changes.{get-change_other, get-change_same}
use Rattle.silo_model.proofs.Isolation.{Did, did, did_does, shared_by}
use Rattle.silo_model.specs.Opening.{Kept, KeptAccount, account_at, account_by, own_sends}
use Rattle.silo_model.proofs.Opening.{get-opening_accounts}
use Rattle.silo_model.proofs.Common.{◌∷◌, [], cond, same_text, same_text_decides}
use Rattle.silo_model.specs.Machine.{Send}
use Rattle.silo_model.proofs.Tests.{on_test}
use Rattle.silo_model.proofs.Journals.{all_keep}
use Rattle.silo_model.proofs.Tests.{either_way}
use Rattle.silo_model.proofs.Sends.{Less, does_less, has_sent}
use Rattle.silo_model.proofs.SharedSteps.{shared_leaves}

-- ---- what is to be delivered

pub delivers : (g : Grain) (account : Option Account) → is_some (delivery_of g account) ≡ has_sent g (sends_of account)
delivers g None = refl
delivers g (Some a) = is_some-option_map (λ found. Deliver g) (first_from g a.sends)

module _ (logic : Logic) (w after : Whole) (s : Step) (step : whole_step logic w s ≡ Some after) (tenant : List ℕ) where
  -- the owner's account is changed, and another's stays
  changed_account : (owner : List ℕ) (is : owner_of s ≡ Some owner) → map.get after.accounts tenant ≡ map.get (change_at w.accounts owner (did logic w after s owner is step).what.account) tenant
  unfolding spread
  changed_account owner is = ap (λ (x : Whole). map.get x.accounts tenant) (sym (did logic w after s owner is step).leaves)

  pub account_stays : (owner : List ℕ) → owner_of s ≡ Some owner → eq_by_cmp text_cmp tenant owner ≡ false → map.get after.accounts tenant ≡ map.get w.accounts tenant
  account_stays owner is apart =
      changed_account owner is ∙ get-change_other text_cmp_total text_cmp_exact w.accounts owner tenant (did logic w after s owner is step).what.account apart

did_less : (logic : Logic) (w after : Whole) (s : Step) (g : Grain) (owner : List ℕ) → is_among (sender_by s) g ≡ false → (d : Did logic w s owner after)
    → Less g (map.get w.accounts owner) d.what.account
unfolding context_at shown_to
did_less logic w after s g owner apart d = does_less logic _ s g apart (did_does logic w after s owner d)

-- of the owner's account nothing is sent that wasn't; another's stays
pub sends_stay : (logic : Logic) (w after : Whole) (s : Step) (g : Grain) (tenant : List ℕ) (o : Option (List ℕ)) → owner_of s ≡ o → whole_step logic w s ≡ Some after → is_among (sender_by s) g ≡ false
    → has_sent g (sends_of (map.get after.accounts tenant)) ≡ true → has_sent g (sends_of (map.get w.accounts tenant)) ≡ true
sends_stay logic w after s g tenant None is step apart h =
    ap (λ accounts. has_sent g (sends_of (map.get accounts tenant))) (sym (shared_leaves w after s (sym (shared_by logic w s is) ∙ step)).accounts) ∙ h
sends_stay logic w after s g tenant (Some owner) is step apart h =
    let d : Did logic w s owner after = did logic w after s owner is step in
    either_way (eq_by_cmp text_cmp tenant owner)
    (λ tied.
    let own : tenant ≡ owner = text_cmp_exact tenant owner ((Equal-is (text_cmp tenant owner)).0 tied) in
    let there : map.get after.accounts tenant ≡ change_option (map.get w.accounts owner) d.what.account =
    changed_account logic w after s step tenant owner is
    ∙ ap (map.get (change_at w.accounts owner d.what.account)) own
    ∙ get-change_same text_cmp_total text_cmp_exact w.accounts owner d.what.account in
    ap (λ t. has_sent g (sends_of (map.get w.accounts t))) own
    ∙ did_less logic w after s g owner apart d (ap (λ o. has_sent g (sends_of o)) (sym there) ∙ h))
    (λ other. ap (λ o. has_sent g (sends_of o)) (sym (account_stays logic w after s step tenant owner is other)) ∙ h)

-- ---- whose account has it

sender_owns : (s : Step) (g : Grain) → is_among (sender_by s) g ≡ true → owner_of s ≡ Some g.tenant
sender_owns (End grain turn) g is = ap (λ (x : Grain). Some x.tenant) ((grain_eq_decides grain g).0 (sym (or-false (grain_eq grain g)) ∙ is))
sender_owns _ g is = absurd (true≢false (sym is))

module _ (logic : Logic) (w after : Whole) (s : Step) (step : whole_step logic w s ≡ Some after) (own : OwnSends w) (tenant : List ℕ) (g : Grain) (some : is_some (delivery_of g (map.get after.accounts tenant)) ≡ true) where
  own_sent : g.tenant ≡ tenant
  own_sent =
      either_way (is_among (sender_by s) g)
      (λ is.
      either_way (eq_by_cmp text_cmp tenant g.tenant)
      (λ tied. sym (text_cmp_exact tenant g.tenant ((Equal-is (text_cmp tenant g.tenant)).0 tied)))
      (λ apart.
      let stays = account_stays logic w after s step tenant g.tenant (sender_owns s g is) apart in
      own tenant g (ap (λ o. is_some (delivery_of g o)) (sym stays) ∙ some)))
      (λ apart.
      own tenant g
      (delivers g (map.get w.accounts tenant)
      ∙ sends_stay logic w after s g tenant (owner_of s) refl step apart (sym (delivers g (map.get after.accounts tenant)) ∙ some)))

-- ---- where a silo opens

-- a send that is found among a tenant's own has a source of that tenant
own_first : (t : List ℕ) (g : Grain) (sends : List Send) → is_some (first_from g (own_sends t sends)) ≡ true → g.tenant ≡ t
own_first t g [] = λ h. absurd (true≢false (sym h))
own_first t g (s ∷ sends) =
    on_test (λ b. is_some (first_from g (cond b (s ∷ own_sends t sends) (own_sends t sends))) ≡ true → g.tenant ≡ t) (same_text s.source.tenant t)
    (λ own.
    on_test (λ c. is_some {T = Send × List Send} (cond c (Some (s, own_sends t sends)) (option_map (λ found. (found.0, s ∷ found.1)) (first_from g (own_sends t sends)))) ≡ true → g.tenant ≡ t)
    (grain_eq s.source g)
    (λ is _. ap (λ (x : Grain). x.tenant) (sym ((grain_eq_decides s.source g).0 is)) ∙ (same_text_decides s.source.tenant t).0 own)
    (λ _ h. own_first t g sends (sym (is_some-option_map (λ (found : Send × List Send). (found.0, s ∷ found.1)) (first_from g (own_sends t sends))) ∙ h)))
    (λ _ h. own_first t g sends h)

own_there : (t : List ℕ) (g : Grain) (limits : Limits) (k : Option KeptAccount) → is_some (delivery_of g (Some (account_by t limits k))) ≡ true → g.tenant ≡ t
own_there t g limits None h = absurd (true≢false (sym h))
own_there t g limits (Some k) h = own_first t g k.sends (sym (is_some-option_map _ (first_from g (own_sends t k.sends))) ∙ h)

own_by_table : (t : List ℕ) (g : Grain) (kept : Kept) (o : Option Account) (limits : Option Limits) → o ≡ option_map (account_at kept t) limits
    → is_some (delivery_of g o) ≡ true → g.tenant ≡ t
own_by_table t g kept o None is h = absurd (true≢false (sym (ap (λ x. is_some (delivery_of g x)) (sym is) ∙ h)))
own_by_table t g kept o (Some l) is h = own_there t g l (map.get kept.accounts t) (ap (λ x. is_some (delivery_of g x)) (sym is) ∙ h)

own_at_opening : (setup : Setup) → OwnSends (opening setup)
unfolding opening
own_at_opening setup tenant g some =
    own_by_table tenant g setup.kept (map.get (opening setup).accounts tenant) (limits_of setup.tenants tenant) (get-opening_accounts setup.tenants setup.kept tenant) some

pub sends_are_own : SendsAreOwn
sends_are_own logic setup journal w leads =
    all_keep (whole_step logic) OwnSends (λ m next s own step. own_sent logic m next s step own) (opening setup) w journal
    (own_at_opening setup) leads
