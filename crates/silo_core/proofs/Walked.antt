-- What is to do in a silo, by walks over all of its grains and all of its accounts.
use Rattle.std.proofs.Common.{◌≡◌, ℕ, true, cond, List, [], ◌∷◌, Option, Some, None, refl, ap, sym, ◌∙◌, true≢false}
use Rattle.std.specs.Prelude.{is_some, option_map}
use Rattle.std.specs.FinMap as map
use Rattle.std.proofs.lemmas.Option.{same_Some, none-some}
use Rattle.std.proofs.lemmas.Bool.{not-true}
use Rattle.grain_id.specs.Names.{Grain}
use Rattle.grain_id.proofs.Order.{grain_eq_decides}
use Rattle.grain_logic.specs.Logic.{Logic}
use Rattle.silo_event.specs.declared.step.Step.TheVariants.{Activate, Load, Begin, Deliver}
use Rattle.silo_model.specs.Machine.{Account, Send}
use Rattle.silo_model.specs.Pending.{sends_of}
use Rattle.silo_model.specs.Sends.{first_from}
use Rattle.silo_model.specs.Todo.{IsTodo, OwnSends, delivery_of, work_on}
use Rattle.silo_model.specs.Whole.{Whole}
use Rattle.silo_model.proofs.OwnSends.{delivers}
use Rattle.silo_model.proofs.Sends.{has_sent}
use Rattle.silo_model.proofs.WorkAtGrains.{nothing_at_entry, nothing_to_deliver, work_is_done}
use Rattle.tenant_accounts.specs.Sends.{HasSent, NothingSent, first_source}

-- ---- nothing was found

undelivered : (g : Grain) (account : Option Account) → sends_of account ≡ [] → delivery_of g account ≡ None
undelivered g None none = refl
undelivered g (Some a) none = ap (λ (sends : List Send). option_map (λ f. Deliver g) (first_from g sends)) none

pub nothing_to_do : (logic : Logic) (w : Whole) → ((g : Grain) → work_on logic g (map.get w.entries g) ≡ None) → NothingSent w.accounts → IsTodo logic w None
nothing_to_do logic w none unsent (Activate g) work = (nothing_at_entry logic w g (none g)).0
nothing_to_do logic w none unsent (Load g failed) work = (nothing_at_entry logic w g (none g)).1 failed (not-true failed work)
nothing_to_do logic w none unsent (Begin g) work = (nothing_at_entry logic w g (none g)).2
nothing_to_do logic w none unsent (Deliver g) work = nothing_to_deliver logic w g (undelivered g (map.get w.accounts g.tenant) (unsent g.tenant))
nothing_to_do logic w none unsent _ work = absurd (true≢false (sym work))

-- ---- a grain that sent something was found

pub head_sent : (x : Send) (xs : List Send) → has_sent x.source (x ∷ xs) ≡ true
head_sent x xs = ap (λ b. is_some {T = Send × List Send} (cond b (Some (x, xs)) (option_map (λ (f : Send × List Send). (f.0, x ∷ f.1)) (first_from x.source xs)))) ((grain_eq_decides x.source x.source).1 refl)

first_sent : (g : Grain) (sends : List Send) → first_source sends ≡ Some g → has_sent g sends ≡ true
first_sent g [] first = absurd (none-some g first)
first_sent g (x ∷ xs) first = ap (λ h. has_sent h (x ∷ xs)) (sym (same_Some x.source g first)) ∙ head_sent x xs

delivered : {X : Type 0} (g : Grain) (o : Option X) → is_some (option_map (λ found. Deliver g) o) ≡ true → option_map (λ found. Deliver g) o ≡ Some (Deliver g)
delivered g None some = absurd (true≢false (sym some))
delivered g (Some found) some = refl

delivery_is : (g : Grain) (account : Option Account) → is_some (delivery_of g account) ≡ true → delivery_of g account ≡ Some (Deliver g)
delivery_is g None some = absurd (true≢false (sym some))
delivery_is g (Some a) some = delivered g (first_from g a.sends) some

pub delivery_to_do : (logic : Logic) (w : Whole) → OwnSends w → (g : Grain) → HasSent w.accounts g → IsTodo logic w (Some (Deliver g))
delivery_to_do logic w own g has =
    let there : is_some (delivery_of g (map.get w.accounts has.0)) ≡ true = delivers g (map.get w.accounts has.0) ∙ first_sent g (sends_of (map.get w.accounts has.0)) has.1 in
    let here : is_some (delivery_of g (map.get w.accounts g.tenant)) ≡ true = ap (λ (t : List ℕ). is_some (delivery_of g (map.get w.accounts t))) (own has.0 g there) ∙ there in
    work_is_done.senders logic w g (Deliver g) (delivery_is g (map.get w.accounts g.tenant) here)
