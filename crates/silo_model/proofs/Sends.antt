-- A step but an End adds nothing to what grains sent, and an End adds what its own grain sends.
use Rattle.silo_model.proofs.Common.{◌++◌, ◌||◌, ◌∙◌, ◌∷◌, ◌≡◌, ◌⊎◌, Account, Bool, Change, Context, Effect, Grain, List, Logic, None}
use Rattle.silo_model.proofs.Common.{Option, Outgoing, Send, Some, Step, [], ap, change_option, cond, false, first_from, grain_eq, inl, inr}
use Rattle.silo_model.proofs.Common.{is_among, is_some, is_some-option_map, none-some, option_map, or_parts, or_right, refl}
use Rattle.silo_model.proofs.Common.{same_Some, sender_by, sends_of, subst, sym, true, with_sends}
use Rattle.silo_model.specs.Turns.{sent_by, sent_from}
use Rattle.silo_model.proofs.Tests.{on_found, on_test}
use Rattle.silo_model.proofs.EffectKinds.{Does, Remains, Role, accepts, closes, tells, untouched, without}

abbrev pub has_sent : Grain → List Send → Bool
has_sent g sends = is_some (first_from g sends)

-- ---- lists of sends

-- what is found, and what is left behind another
abbrev behind : Send → Send × List Send → Send × List Send
behind sent f = (f.0, sent ∷ f.1)

has-cons : (g : Grain) (sent : Send) (sends : List Send) → has_sent g (sent ∷ sends) ≡ (grain_eq sent.source g || has_sent g sends)
has-cons g sent sends =
    on_test (λ b. is_some {T = Send × List Send} (cond b (Some (sent, sends)) (option_map (behind sent) (first_from g sends))) ≡ (b || has_sent g sends))
    (grain_eq sent.source g) (λ _. refl) (λ _. is_some-option_map (behind sent) (first_from g sends))

or_instead : (a b c : Bool) → (b ≡ true → c ≡ true) → (a || b) ≡ true → (a || c) ≡ true
or_instead true b c h e = refl
or_instead false b c h e = h e

-- what is left without one has none of whom the whole list has none
has_rest : (grain g : Grain) (sends : List Send) (found : Send × List Send) → first_from grain sends ≡ Some found → has_sent g found.1 ≡ true → has_sent g sends ≡ true
has_rest grain g [] found is h = absurd (none-some found is)
has_rest grain g (sent ∷ sends) found is h =
    let here : Bool = grain_eq sent.source g in
    let found_has : (f : Send × List Send) → Some f ≡ Some found → has_sent g f.1 ≡ true =
    λ f e. ap (λ (x : Send × List Send). has_sent g x.1) (same_Some f found e) ∙ h in
    has-cons g sent sends
    ∙ on_test (λ b. cond b (Some (sent, sends)) (option_map (behind sent) (first_from grain sends)) ≡ Some found → (here || has_sent g sends) ≡ true)
    (grain_eq sent.source grain) (λ _ e. or_right here (has_sent g sends) (found_has (sent, sends) e))
    (λ _. on_found (λ o. option_map (behind sent) o ≡ Some found → (here || has_sent g sends) ≡ true) (first_from grain sends)
    (λ _ e. absurd (none-some found e))
    (λ f there e.
    or_instead here (has_sent g f.1) (has_sent g sends) (has_rest grain g sends f there)
    (sym (has-cons g sent f.1) ∙ found_has (behind sent f) e))) is

-- sends of a grain after others add none of another grain
has_more : (grain g : Grain) (sends : List Send) (os : List Outgoing) → grain_eq grain g ≡ false → has_sent g (sends ++ sent_by grain os) ≡ true → has_sent g sends ≡ true
has_more grain g [] [] apart h = h
has_more grain g [] (o ∷ os) apart h = has_more grain g [] os apart (ap (λ b. b || has_sent g (sent_by grain os)) (sym apart) ∙ sym (has-cons g (sent_from grain o) (sent_by grain os)) ∙ h)
has_more grain g (sent ∷ sends) os apart h =
    has-cons g sent sends ∙ or_instead (grain_eq sent.source g) _ (has_sent g sends) (has_more grain g sends os apart) (sym (has-cons g sent (sends ++ sent_by grain os)) ∙ h)

-- ---- what a step does to them

-- of the grain nothing is sent that wasn't
abbrev pub Less : Grain → Option Account → Change Account → Type 0
Less g o c = has_sent g (sends_of (change_option o c)) ≡ true → has_sent g (sends_of o) ≡ true

-- what is left of an account has none of whom it had none
remains_less : (g : Grain) {o : Option Account} {c : Change Account} → Remains o c → Less g o c
remains_less g untouched h = h
remains_less g (without a grain found is first) h = ap (λ o. has_sent g (sends_of o)) is ∙ has_rest grain g a.sends found first h

more_less : (g grain : Grain) (account : Option Account) (os : List Outgoing) → grain_eq grain g ≡ false → Less g account (with_sends grain account os)
more_less g grain account [] apart = λ h. h
more_less g grain None (o ∷ os) apart = λ h. h
more_less g grain (Some a) (o ∷ os) apart = has_more grain g a.sends (o ∷ os) apart

sent_less : (g grain : Grain) (account : Option Account) (step : Step) (sends : List Outgoing) → is_among (sender_by step) g ≡ false
    → (sends ≡ []) ⊎ (sender_by step ≡ grain ∷ []) → Less g account (with_sends grain account sends)
sent_less g grain account step sends apart (inl none) = subst (λ os. Less g account (with_sends grain account os)) (sym none) (λ h. h)
sent_less g grain account step sends apart (inr own) =
    more_less g grain account sends (or_parts (grain_eq grain g) false (ap (λ gs. is_among gs g) (sym own) ∙ apart)).0

pub does_less : (logic : Logic) (s : Context) (step : Step) (g : Grain) → is_among (sender_by step) g ≡ false
    → {role : Role} {grain : Option Grain} {e : Effect} → Does logic s step role grain e → Less g s.account e.account
does_less logic s step g apart (tells p grain left outcome remains) = remains_less g remains
does_less logic s step g apart (accepts p q call left a own remains known) =
    λ h. remains_less g remains (ap (λ o. has_sent g (sends_of o)) known ∙ h)
does_less logic s step g apart (closes q turn e request left sends row outcome found open_turn is_left by_sends by_row) =
    sent_less g q s.account step sends apart by_sends
does_less logic s step g apart _ = λ h. h
