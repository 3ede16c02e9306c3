-- A step is possible exactly where it is possible as one whose storage call failed.
use Rattle.silo_model.proofs.Common.{◌∙◌, ◌≡◌, Bool, Context, Effect, Entry, Grain, List, Load, Logic, None, Option, Phase, Poke, Request}
use Rattle.silo_model.proofs.Common.{Some, Step, Store, Whole, ap, as_failed, context_at, effect_of, is_some, is_some-option_map, loaded}
use Rattle.silo_model.proofs.Common.{option_and_then, option_map, plan_of, ready, refl, shown_to, spread, stored, stored_by, sym, true}
use Rattle.silo_model.proofs.Common.{true≢false, waiting, whole_step, ℕ}
use Rattle.std.specs.FinMap as map
use Rattle.silo_model.specs.Laws.{FailingIsPossible}

is_some-and_then : {A B C : Type 0} (f : A → Option B) (g : A → Option C) (o : Option A) → ((x : A) → is_some (f x) ≡ is_some (g x)) → is_some (option_and_then f o) ≡ is_some (option_and_then g o)
is_some-and_then f g None h = refl
is_some-and_then f g (Some x) h = h x

loaded_alike : (logic : Logic) (s : Context) (g : Grain) (failed : Bool) (e : Entry) (p : Phase) → is_some (loaded logic s g failed e p) ≡ is_some (loaded logic s g true e p)
loaded_alike logic s g failed e waiting = refl
loaded_alike logic s g failed e _ = refl

stored_alike : (logic : Logic) (s : Context) (g : Grain) (failed : Bool) (e : Entry) (request : Request) (p : Phase) → is_some (stored logic s g failed e request p) ≡ is_some (stored logic s g true e request p)
stored_alike logic s g failed e request (ready state version) =
    let asked = stored_by logic s g e request state version (plan_of logic g state request).storage in
    is_some-option_map _ asked ∙ sym (is_some-option_map _ asked)
stored_alike logic s g failed e request _ = refl

both_done : (w : Whole) (owner : List ℕ) (g : Grain) (r q : Option Effect) → is_some r ≡ is_some q → is_some (option_map (spread w owner (Some g)) r) ≡ is_some (option_map (spread w owner (Some g)) q)
both_done w owner g r q same = is_some-option_map _ r ∙ same ∙ sym (is_some-option_map _ q)

alike : (logic : Logic) (w : Whole) (s : Step) → is_some (whole_step logic w s) ≡ is_some (whole_step logic w (as_failed s))
unfolding whole_step effect_of
alike logic w (Poke failed caller id g state) = refl
alike logic w (Load g failed) = both_done w g.tenant g _ _ (is_some-and_then _ _ (context_at (shown_to g.tenant w) (Some g)).entry (λ e. loaded_alike logic (context_at (shown_to g.tenant w) (Some g)) g failed e e.phase))
alike logic w (Store g turn failed) =
    both_done w g.tenant g _ _ (is_some-and_then _ _ (context_at (shown_to g.tenant w) (Some g)).entry (λ e. is_some-and_then _ _ (map.get e.turns turn) (λ request. stored_alike logic (context_at (shown_to g.tenant w) (Some g)) g failed e request e.phase)))
alike logic w _ = refl

none_of : {A B : Type 0} (o : Option A) (q : Option B) → is_some o ≡ is_some q → o ≡ None → q ≡ None
none_of o None same none = refl
none_of o (Some y) same none = absurd (true≢false (sym same ∙ ap is_some none))

pub failing_is_possible : FailingIsPossible
failing_is_possible logic w s = (none_of _ _ (alike logic w s), none_of _ _ (sym (alike logic w s)))
