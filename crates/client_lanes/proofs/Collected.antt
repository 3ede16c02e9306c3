-- Replies, as they are collected by client and given to lanes.
use Rattle.silo_model.proofs.Common.{if◌then◌else◌, ◌++◌, ◌∙◌, ◌∷◌, ◌≡◌, AllByRecursion, Bool, Client, Grain, List, None, Option, Reply}
use Rattle.silo_model.proofs.Common.{Some, [], ap, append-nil, append_assoc, client_eq, client_eq_decides, cond, false, is_of_client}
use Rattle.silo_model.proofs.Common.{map_list, option_map, refl, sym, true, unwrap_or, ℕ}
use Rattle.std.specs.Global.{Vec}
use Rattle.std.specs.Map.{lookup}
use Rattle.indexmap.specs.IndexMap.{IndexMap, get}
use Rattle.silo_event.specs.declared.reply.Party.TheVariants as party
use Rattle.lane_model.specs.Lanes.{Lane, same_lane}
use Rattle.lane_model.specs.Serving.{replies_to}
use Rattle.client_lanes.specs.inside.RepliesByClient.{only_to, told_by, told_to}
use Rattle.silo_model.proofs.Tests.{on_test}

-- ---- by client

chosen : (b : Bool) (r : Reply) (rest : List Reply) → (if b then r ∷ [] else []) ++ rest ≡ (if b then r ∷ rest else rest)
chosen true r rest = refl
chosen false r rest = refl

module _ (client : Client) (reply : Reply) (others : List Reply) where
  -- a reply to a client comes after those that were collected of it
  pub collects : (caller : Client) (id : ℕ) (before : List Reply) → reply.recipient ≡ party.Client caller id
      → (before ++ only_to caller client reply) ++ replies_to (Some client) others ≡ before ++ replies_to (Some client) (reply ∷ others)
  collects caller id before is =
      append_assoc before (only_to caller client reply) (replies_to (Some client) others)
      ∙ ap (λ rest. before ++ rest) (chosen (client_eq caller client) reply (replies_to (Some client) others) ∙ ap (λ p. if is_of_client client p then reply ∷ replies_to (Some client) others else replies_to (Some client) others) (sym is))

  -- a reply to a grain is no client's
  pub passes_over : (grain : Grain) → reply.recipient ≡ party.Grain grain → replies_to (Some client) others ≡ replies_to (Some client) (reply ∷ others)
  passes_over grain is = ap (λ p. if is_of_client client p then reply ∷ replies_to (Some client) others else replies_to (Some client) others) (sym is)

-- ---- by lane

-- each of the lanes has what its client is told
abbrev pub EachHas : {S : Type 0} → IndexMap Client (Vec Reply) S → List Reply → List Lane → Type 0
EachHas told replies lanes = AllByRecursion (λ (lane : Lane). told_by told lane.from ≡ replies_to lane.from replies) lanes

module _ {S : Type 0} (told : IndexMap Client (Vec Reply) S) (replies : List Reply) where
  by_lane : ((client : Client) → told_to told client ≡ replies_to (Some client) replies) → (from : Option Client) → told_by told from ≡ replies_to from replies
  by_lane holds None = refl
  by_lane holds (Some client) = holds client

  pub each_has : ((client : Client) → told_to told client ≡ replies_to (Some client) replies) → (lanes : List Lane) → EachHas told replies lanes
  each_has holds [] = tt
  each_has holds (lane ∷ lanes) = (by_lane holds lane.from, each_has holds lanes)

  module _ (after : IndexMap Client (Vec Reply) S) (from : Option Client) (kept : (client : Client) → same_lane from (Some client) ≡ false → told_to after client ≡ told_to told client) where
    kept_by : (other : Option Client) → same_lane from other ≡ false → told_by after other ≡ told_by told other
    kept_by None apart = refl
    kept_by (Some client) apart = kept client apart

    -- what is taken out for one lane leaves what the others have
    pub others_have : (lanes : List Lane) → AllByRecursion (λ f. same_lane from f ≡ false) (map_list (λ (lane : Lane). lane.from) lanes) → EachHas told replies lanes → EachHas after replies lanes
    others_have [] apart has = tt
    others_have (lane ∷ lanes) apart has = (kept_by lane.from apart.0 ∙ has.0, others_have lanes apart.1 has.1)

-- ---- one reply more

module _ {S : Type 0} (old new : IndexMap Client (Vec Reply) S) (caller : Client) (reply : Reply) (list : Vec Reply)
    (put : (q : Client) → get client_eq new q ≡ cond (client_eq caller q) (Some list) (get client_eq old q))
    (grown : list.items ≡ told_to old caller ++ reply ∷ []) where
  shown_to : Option (Vec Reply) → List Reply
  shown_to found = unwrap_or (option_map (λ v. v.items) found) []

  -- what a client is told has the reply last, if it is the client's
  pub told_more : (client : Client) → told_to new client ≡ told_to old client ++ only_to caller client reply
  unfolding shown_to
  told_more client =
      ap shown_to (put client)
      ∙ on_test (λ b. shown_to (cond b (Some list) (get client_eq old client)) ≡ told_to old client ++ (if b then reply ∷ [] else []))
      (client_eq caller client)
      (λ same. grown ∙ ap (λ (c : Client). told_to old c ++ reply ∷ []) ((client_eq_decides caller client).0 same))
      (λ _. sym (append-nil (told_to old client)))

-- a client that was told nothing, beside others that were told nothing
module _ {S : Type 0} (old new : IndexMap Client (Vec Reply) S) (caller : Client) (list : Vec Reply)
    (put : (q : Client) → get client_eq new q ≡ cond (client_eq caller q) (Some list) (get client_eq old q)) where
  items_of : Option (Vec Reply) → List Reply
  items_of found = unwrap_or (option_map (λ v. v.items) found) []

  pub none_more : list.items ≡ [] → ((client : Client) → told_to old client ≡ []) → (client : Client) → told_to new client ≡ []
  unfolding items_of
  none_more is none client =
      ap items_of (put client) ∙ on_test (λ b. items_of (cond b (Some list) (get client_eq old client)) ≡ []) (client_eq caller client) (λ _. is) (λ _. none client)

-- where nobody is there, nobody was told anything
pub nobody_told : {S : Type 0} (told : IndexMap Client (Vec Reply) S) → told.entries ≡ [] → (client : Client) → told_to told client ≡ []
nobody_told told nobody client = ap (λ (es : List (Client × Vec Reply)). unwrap_or (option_map (λ v. v.items) (lookup (client_eq client) es)) []) nobody

-- one more of a list is answered
pub answered_more : {V A B : Type 0} (items : V → B) (f : A → B) (vs : List V) (v : V) (x : A) (xs ys : List A) → items v ≡ f x → ys ≡ x ∷ xs
    → map_list items (vs ++ v ∷ []) ++ map_list f xs ≡ map_list items vs ++ map_list f ys
answered_more items f [] v x xs ys is all = ap (λ b. b ∷ map_list f xs) is ∙ ap (map_list f) (sym all)
answered_more items f (w ∷ vs) v x xs ys is all = ap (λ bs. items w ∷ bs) (answered_more items f vs v x xs ys is all)
