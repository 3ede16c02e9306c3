-- The first call that a grain sent: what is at its place, and what is left without it.
use Rattle.silo_model.proofs.Common.{[], ◌+◌, ◌<◌, ◌∙◌, ◌∷◌, ◌≡◌, Bool, Bor, Grain, List, None, Option, Send, Some, ap, false, first_from, grain_eq, if◌then◌else◌, length, option_map, refl, same_Some, suc, sym, true, ℕ}
use Rattle.std.proofs.Common.{remove, slice_get, slice_index_or, IfSome, IsSome}
use Rattle.std.proofs.lemmas.Option.{slice_get_read}
use Rattle.tenant_machine.specs.declared.account.Sent.{Sent}
use Rattle.tenant_machine.specs.inside.Sends.{send_of, sends_of, without_first, first_place, FindsSend}

module _ (g : Grain) where
  -- the first, by whether that of the front is the grain's own
  abbrev first_or : Bool → Sent → List Sent → Option (Send × List Send)
  first_or own s sends = if◌then◌else◌ {A = Option (Send × List Send)} own (Some (send_of s, sends_of sends)) (option_map (λ (found : Send × List Send). (found.0, send_of s ∷ found.1)) (first_from g (sends_of sends)))

  -- ---- none

  pub none_first : (sends : List Sent) → first_place g sends ≡ None → first_from g (sends_of sends) ≡ None
  none_first [] e = refl
  none_first (s ∷ sends) e = by (grain_eq s.source g) (first_place g sends) (none_first sends) e
    where
      by : (own : Bool) (o : Option ℕ) → (o ≡ None → first_from g (sends_of sends) ≡ None) → (if own then Some 0 else option_map (λ place. suc place) o) ≡ None
          → first_or own s sends ≡ None
      by true o others e = absurd cc
      by false None others e = ap (option_map (λ (found : Send × List Send). (found.0, send_of s ∷ found.1))) (others refl)
      by false (Some p) others e = absurd cc

  pub none_without : (sends : List Sent) → first_place g sends ≡ None → sends_of sends ≡ without_first g (sends_of sends)
  none_without [] e = refl
  none_without (s ∷ sends) e = by (grain_eq s.source g) (first_place g sends) (none_without sends) e
    where
      by : (own : Bool) (o : Option ℕ) → (o ≡ None → sends_of sends ≡ without_first g (sends_of sends)) → (if own then Some 0 else option_map (λ place. suc place) o) ≡ None
          → send_of s ∷ sends_of sends ≡ (if own then sends_of sends else send_of s ∷ without_first g (sends_of sends))
      by true o others e = absurd cc
      by false None others e = ap (λ rest. send_of s ∷ rest) (others refl)
      by false (Some p) others e = absurd cc

  -- ---- one

  some_first : (sends : List Sent) (n : ℕ) (x : Sent) → first_place g sends ≡ Some n → slice_get sends n ≡ Some x → first_from g (sends_of sends) ≡ Some (send_of x, without_first g (sends_of sends))
  some_first [] n x e at = absurd cc
  some_first (s ∷ sends) n x e at = by (grain_eq s.source g) (first_place g sends) (λ p. some_first sends p x) n e at
    where
      by : (own : Bool) (o : Option ℕ) → ((p : ℕ) → o ≡ Some p → slice_get sends p ≡ Some x → first_from g (sends_of sends) ≡ Some (send_of x, without_first g (sends_of sends)))
          → (k : ℕ) → (if own then Some 0 else option_map (λ place. suc place) o) ≡ Some k → slice_get (s ∷ sends) k ≡ Some x
          → first_or own s sends
          ≡ Some (send_of x, (if own then sends_of sends else send_of s ∷ without_first g (sends_of sends)))
      by true o others k e at = ap (λ y. Some (send_of y, sends_of sends)) (same_Some s x (ap (slice_get (s ∷ sends)) (same_Some 0 k e) ∙ at))
      by false None others k e at = absurd cc
      by false (Some p) others k e at =
          ap (option_map (λ (found : Send × List Send). (found.0, send_of s ∷ found.1))) (others p refl (ap (slice_get (s ∷ sends)) (same_Some (suc p) k e) ∙ at))

  -- what stands at the place is the first
  pub found_first : (sends : List Sent) (n : ℕ) → first_place g sends ≡ Some n → n < length sends → (found : Option (Bor Sent)) → IfSome found (λ x. x.now ≡ slice_index_or sends n x.now) → (n < length sends → IsSome found) → FindsSend g (sends_of sends) found
  found_first sends n e within None value some = absurd (let there = some within in cc)
  found_first sends n e within (Some x) value some = some_first sends n x.now e (slice_get_read sends (length sends) n x.now refl within value)

  pub some_without : (sends : List Sent) (n : ℕ) → first_place g sends ≡ Some n → sends_of (remove sends n) ≡ without_first g (sends_of sends)
  some_without [] n e = absurd cc
  some_without (s ∷ sends) n e = by (grain_eq s.source g) (first_place g sends) (some_without sends) n e
    where
      by : (own : Bool) (o : Option ℕ) → ((p : ℕ) → o ≡ Some p → sends_of (remove sends p) ≡ without_first g (sends_of sends)) → (k : ℕ) → (if own then Some 0 else option_map (λ place. suc place) o) ≡ Some k
          → sends_of (remove (s ∷ sends) k) ≡ (if own then sends_of sends else send_of s ∷ without_first g (sends_of sends))
      by true o others k e = ap (λ j. sends_of (remove (s ∷ sends) j)) (sym (same_Some 0 k e))
      by false None others k e = absurd cc
      by false (Some p) others k e = ap (λ j. sends_of (remove (s ∷ sends) j)) (sym (same_Some (suc p) k e)) ∙ ap (λ rest. send_of s ∷ rest) (others p refl)

  -- ---- a walk from the front

  -- the place, by what is left from some place on
  abbrev pub place_from : ℕ → Option ℕ → Option ℕ
  place_from n o = option_map (λ place. n + place) o
