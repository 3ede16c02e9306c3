-- What grains are told, one reply after another.
use Rattle.std.proofs.Common.{◌≡◌, ℕ, ◌+◌, ◌<◌, length, take, get_or, Bool, true, false, cond, List, [], ◌∷◌, ◌++◌, Option, Some, refl, ap, sym, ◌∙◌}
use Rattle.std.specs.Prelude.{map as map_list, option_map, unwrap_or, if◌then◌else◌}
use Rattle.std.specs.Borrow.{Bor}
use Rattle.std.specs.Global.{Vec}
use Rattle.std.specs.Ordering.{eq_by_cmp}
use Rattle.std.specs.BTreeMap.{BTreeMap, get}
use Rattle.std.proofs.lemmas.List.{append-nil, take_more}
use Rattle.std.proofs.lemmas.List.Elements.{filter-append}
use Rattle.grain_id.specs.Names.{Client, Grain, grain_cmp, grain_eq}
use Rattle.grain_id.proofs.Order.{grain_cmp_total, grain_cmp_exact, grain_ties, eq_by_cmp-Decides}
use Rattle.silo_event.specs.declared.reply.Party.TheVariants as party
use Rattle.silo_event.specs.declared.reply.Reply.{Reply}
use Rattle.line_service.specs.ServedText.{is_grain, replies_to_grain, line_of_reply}
use Rattle.line_service.specs.inside.Told.{replies_at, told_at, if_any, with_reply}

-- a reply behind others, or alone
any-more : (rs : List Reply) (r : Reply) → if_any (rs ++ r ∷ []) ≡ Some (unwrap_or (if_any rs) [] ++ r ∷ [])
any-more [] r = refl
any-more (x ∷ rs) r = refl

-- a reply behind others, of which the grain is told one more or none
told-next : (grain : Grain) (rs : List Reply) (r : Reply) → replies_to_grain grain (rs ++ r ∷ []) ≡ replies_to_grain grain rs ++ (if is_grain grain r.recipient then r ∷ [] else [])
told-next grain rs r = filter-append (λ (x : Reply). is_grain grain x.recipient) rs (r ∷ [])

module _ (grain : Grain) (rs : List Reply) (r : Reply) where
  -- what stands at the grain after a reply to a grain
  to_grain : (told : Grain) → r.recipient ≡ party.Grain told → if_any (replies_to_grain grain (rs ++ r ∷ [])) ≡ with_reply told r grain (if_any (replies_to_grain grain rs))
  to_grain told is =
      ap if_any (told-next grain rs r ∙ ap (λ p. replies_to_grain grain rs ++ (if is_grain grain p then r ∷ [] else [])) is)
      ∙ by_test (grain_eq told grain)
    where
      by_test : (b : Bool) → if_any (replies_to_grain grain rs ++ (if b then r ∷ [] else [])) ≡ (if b then Some (unwrap_or (if_any (replies_to_grain grain rs)) [] ++ r ∷ []) else if_any (replies_to_grain grain rs))
      by_test true = any-more (replies_to_grain grain rs) r
      by_test false = ap if_any (append-nil (replies_to_grain grain rs))

  -- and after a reply to a client
  to_client : (caller : Client) (id : ℕ) → r.recipient ≡ party.Client caller id → if_any (replies_to_grain grain (rs ++ r ∷ [])) ≡ if_any (replies_to_grain grain rs)
  to_client caller id is =
      ap if_any (told-next grain rs r ∙ ap (λ p. replies_to_grain grain rs ++ (if is_grain grain p then r ∷ [] else [])) is ∙ append-nil (replies_to_grain grain rs))

-- ---- the first replies of a list

module _ (rs : List Reply) (i : ℕ) (r : Reply) (within : i < length rs) (at : r ≡ get_or rs i r) where
  one_more : take (i + 1) rs ≡ take i rs ++ r ∷ []
  one_more = take_more rs i r within ∙ ap (λ x. take i rs ++ x ∷ []) (sym at)

  pub told_more : (grain told : Grain) → r.recipient ≡ party.Grain told → (before after : Option (List Reply))
      → before ≡ if_any (replies_to_grain grain (take i rs)) → after ≡ with_reply told r grain before
      → after ≡ if_any (replies_to_grain grain (take (i + 1) rs))
  told_more grain told is before after had added =
      added ∙ ap (with_reply told r grain) had
      ∙ sym (ap (λ all. if_any (replies_to_grain grain all)) one_more ∙ to_grain grain (take i rs) r told is)

  pub passed_over : (grain : Grain) (caller : Client) (id : ℕ) → r.recipient ≡ party.Client caller id → (before : Option (List Reply))
      → before ≡ if_any (replies_to_grain grain (take i rs)) → before ≡ if_any (replies_to_grain grain (take (i + 1) rs))
  passed_over grain caller id is before had =
      had ∙ sym (ap (λ all. if_any (replies_to_grain grain all)) one_more ∙ to_client grain (take i rs) r caller id is)

-- ---- one reply more in the map

pub replies_at-more : (old new : List (Bor Reply)) (r : Bor Reply) → new ≡ old ++ r ∷ [] → map_list (λ x. x.now) new ≡ map_list (λ x. x.now) old ++ r.now ∷ []
replies_at-more old new r is = ap (map_list (λ x. x.now)) is ∙ by_list old
  where
    by_list : (xs : List (Bor Reply)) → map_list (λ x. x.now) (xs ++ r ∷ []) ≡ map_list (λ x. x.now) xs ++ r.now ∷ []
    by_list [] = refl
    by_list (x ∷ xs) = ap (λ rs. x.now ∷ rs) (by_list xs)

module _ (old new : BTreeMap Grain (Vec (Bor Reply))) (told : Grain) (reply : Reply) (list : Vec (Bor Reply))
    (put : (q : Grain) → get grain_cmp new q ≡ cond (eq_by_cmp grain_cmp told q) (Some list) (get grain_cmp old q))
    (grown : replies_at list ≡ unwrap_or (told_at old told) [] ++ reply ∷ []) where
  pub reply_added : (q : Grain) → told_at new q ≡ with_reply told reply q (told_at old q)
  reply_added q = by_tie (eq_by_cmp grain_cmp told q) refl
    where
      by_tie : (b : Bool) → eq_by_cmp grain_cmp told q ≡ b → told_at new q ≡ with_reply told reply q (told_at old q)
      by_tie true tied =
          ap (option_map replies_at) (put q ∙ ap (λ b. cond b (Some list) (get grain_cmp old q)) tied)
          ∙ ap Some (grown ∙ ap (λ (g : Grain). unwrap_or (told_at old g) [] ++ reply ∷ []) ((eq_by_cmp-Decides grain_cmp_total grain_cmp_exact told q).0 tied))
          ∙ ap (λ b. if b then Some (unwrap_or (told_at old q) [] ++ reply ∷ []) else told_at old q) (sym (grain_ties told q ∙ tied))
      by_tie false untied =
          ap (option_map replies_at) (put q ∙ ap (λ b. cond b (Some list) (get grain_cmp old q)) untied)
          ∙ ap (λ b. if b then Some (unwrap_or (told_at old q) [] ++ reply ∷ []) else told_at old q) (sym (grain_ties told q ∙ untied))

-- the lines of replies behind references
pub lines_at : (rs : List (Bor Reply)) → map_list (λ r. line_of_reply r.now) rs ≡ map_list line_of_reply (map_list (λ r. r.now) rs)
lines_at [] = refl
lines_at (r ∷ rs) = ap (λ ls. line_of_reply r.now ∷ ls) (lines_at rs)
