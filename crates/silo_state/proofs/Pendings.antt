-- Which requests of a client wait or are open: at an activation, and at all grains of its tenant.
use Rattle.std.proofs.Common.{◌≡◌, Bool, true, false, cond, List, [], ◌∷◌, Option, Some, None, refl, ap, sym, ◌∙◌, true≢false}
use Rattle.std.specs.Prelude.{◌&&◌, ◌||◌, not, flat_map, option_map, map as map_list}
use Rattle.std.specs.Ordering.{nat_cmp}
use Rattle.std.specs.Cmp.{nat_cmp_total}
use Rattle.std.specs.List.{list_all, list_any}
use Rattle.std.specs.FinMap as map
use Rattle.std.specs.FinMap.{FinMap, nat_cmp-IsAntisymmetric}
use Rattle.std.proofs.lemmas.List.Folds.{list_any-append}
use Rattle.grain_id.specs.Names.{Client, Grain, grain_cmp, same_text}
use Rattle.grain_id.proofs.ByGrain.{get-part}
use Rattle.grain_id.proofs.Order.{grain_cmp_total, grain_cmp_exact}
use Rattle.silo_event.specs.declared.reply.Party.{Party}
use Rattle.silo_event.specs.declared.reply.Party.TheVariants as party
use Rattle.turn_mailbox.specs.Contents.{came_from, has_from, is_from}
use Rattle.turn_mailbox.specs.declared.request.Request.{Request}
use Rattle.finite_maps.specs.Mapped.{map_values}
use Rattle.finite_maps.proofs.Mapped.{all-mapped, get-mapped}
use Rattle.finite_maps.proofs.Values.{values_pass, found_passes}
use Rattle.activation_directory.specs.declared.activation.Activation.{Activation}
use Rattle.silo_model.specs.Machine as model
use Rattle.silo_model.specs.Machine.{Entry, Entries}
use Rattle.silo_model.specs.Pending.{has_pending, is_of_client}
use Rattle.silo_model.specs.Settled.{pending_at}
use Rattle.silo_model.specs.Whole.{Whole, is_of, shown_to}
use Rattle.silo_state.specs.Shown.{request_of, entry_of, entries_of}
use Rattle.silo_state.specs.Work.{pending_in_part}

or_not : (a b c : Bool) → b ≡ not c → (a || b) ≡ not (not a && c)
or_not true b c e = refl
or_not false b c e = e

any_not : {X : Type 0} (p : X → Bool) (xs : List X) → list_any p xs ≡ not (list_all (λ x. not (p x)) xs)
any_not p [] = refl
any_not p (x ∷ xs) = or_not (p x) _ _ (any_not p xs)

any_flat : {X Y : Type 0} (p : Y → Bool) (f : X → List Y) (xs : List X) → list_any p (flat_map f xs) ≡ not (list_all (λ x. not (list_any p (f x))) xs)
any_flat p f [] = refl
any_flat p f (x ∷ xs) = list_any-append p (f x) (flat_map f xs) ∙ or_not (list_any p (f x)) _ _ (any_flat p f xs)

module _ (client : Client) where
  abbrev asked : model.Request → Bool
  asked q = is_of_client client q.sender

  same_sender : (p : Party) → is_of_client client p ≡ came_from client p
  same_sender (party.Client caller id) = refl
  same_sender (party.Grain grain) = refl

  any_from : (rs : List Request) → list_any (λ (r : Request). is_of_client client r.sender) rs ≡ list_any (is_from client) rs
  any_from [] = refl
  any_from (r ∷ rs) =
      ap (λ b. b || list_any (λ (x : Request). is_of_client client x.sender) rs) (same_sender r.sender)
      ∙ ap (λ b. came_from client r.sender || b) (any_from rs)

  any_waiting : (rs : List Request) → list_any asked (map_list request_of rs) ≡ list_any (λ (r : Request). is_of_client client r.sender) rs
  any_waiting [] = refl
  any_waiting (r ∷ rs) = ap (λ b. is_of_client client r.sender || b) (any_waiting rs)

  any_open : (turns : FinMap nat_cmp Request) → list_any asked (map.values (map_values request_of turns)) ≡ list_any (λ (r : Request). is_of_client client r.sender) (map.values turns)
  any_open turns =
      any_not asked (map.values (map_values request_of turns))
      ∙ ap not (all-mapped nat_cmp_total nat_cmp-IsAntisymmetric request_of (λ q. not (asked q)) turns)
      ∙ sym (any_not (λ (r : Request). is_of_client client r.sender) (map.values turns))

  pending_entry : (a : Activation) → list_any asked (pending_at (entry_of a)) ≡ has_from a.mailbox client
  pending_entry a =
      list_any-append asked (map_list request_of a.mailbox.waiting) (map.values (map_values request_of a.mailbox.opened))
      ∙ ap (λ b. b || list_any asked (map.values (map_values request_of a.mailbox.opened))) (any_waiting a.mailbox.waiting ∙ any_from a.mailbox.waiting)
      ∙ ap (λ b. list_any (is_from client) a.mailbox.waiting || b) (any_open a.mailbox.opened ∙ any_from (map.values a.mailbox.opened))

  -- a request of the client waits or is open in the entry, if there is one
  abbrev pub pending_of : Option Entry → Bool
  pending_of None = false
  pending_of (Some e) = list_any asked (pending_at e)

  abbrev pub part_of : Entries → Entries
  part_of entries = map.retain_keys entries (is_of client.tenant)

  either_pending : (b : Bool) (a : Activation) → pending_of (cond b (Some (entry_of a)) None) ≡ (b && has_from a.mailbox client)
  either_pending true a = pending_entry a
  either_pending false a = refl

  -- so it is told of an activation in the directory
  pub at_grain : (activations : FinMap grain_cmp Activation) (entries : Entries) (id : Grain) (a : Activation) → entries_of activations ≡ entries → map.get activations id ≡ Some a
      → pending_of (map.get (part_of entries) id) ≡ (same_text id.tenant client.tenant && has_from a.mailbox client)
  at_grain activations entries id a shown found =
      ap pending_of (get-part entries (is_of client.tenant) id
      ∙ ap (λ (o : Option Entry). cond (is_of client.tenant id) o None) (ap (λ (es : Entries). map.get es id) (sym shown) ∙ get-mapped grain_cmp_total grain_cmp_exact entry_of activations id ∙ ap (option_map entry_of) found))
      ∙ either_pending (is_of client.tenant id) a

  not_in_part : (b : Bool) → pending_of (cond b None None) ≡ false
  not_in_part true = refl
  not_in_part false = refl

  pub absent : (entries : Entries) (id : Grain) → map.get entries id ≡ None → pending_of (map.get (part_of entries) id) ≡ false
  absent entries id none =
      ap pending_of (get-part entries (is_of client.tenant) id ∙ ap (λ (o : Option Entry). cond (is_of client.tenant id) o None) none)
      ∙ not_in_part (is_of client.tenant id)

  pub none_pending : (entries : Entries) → ((id : Grain) → pending_of (map.get (part_of entries) id) ≡ false) → pending_in_part client entries ≡ false
  none_pending entries none =
      any_flat asked pending_at (map.values (part_of entries))
      ∙ ap not (values_pass grain_cmp_total (λ e. not (list_any asked (pending_at e))) (part_of entries) (λ k v found. ap not (ap pending_of (sym found) ∙ none k)))

  pub one_pending : (entries : Entries) (id : Grain) → pending_of (map.get (part_of entries) id) ≡ true → pending_in_part client entries ≡ true
  one_pending entries id one = by_entry (map.get (part_of entries) id) refl one
    where
      by_all : (e : Entry) → map.get (part_of entries) id ≡ Some e → list_any asked (pending_at e) ≡ true → (b : Bool) → list_all (λ x. not (list_any asked (pending_at x))) (map.values (part_of entries)) ≡ b → not b ≡ true
      by_all e found some false all = refl
      by_all e found some true all =
          absurd (true≢false (sym (found_passes (λ x. not (list_any asked (pending_at x))) (part_of entries) id e found all) ∙ ap not some))

      by_entry : (o : Option Entry) → map.get (part_of entries) id ≡ o → pending_of o ≡ true → pending_in_part client entries ≡ true
      by_entry None found some = absurd (true≢false (sym some))
      by_entry (Some e) found some =
          any_flat asked pending_at (map.values (part_of entries))
          ∙ by_all e found some (list_all (λ x. not (list_any asked (pending_at x))) (map.values (part_of entries))) refl

-- what is pending in a tenant's part
pub pending_shown : (client : Client) (w : Whole) → pending_in_part client w.entries ≡ has_pending client (shown_to client.tenant w)
unfolding shown_to
pending_shown client w = refl
