-- Lanes of which no two are of one client, from the last on.
use Rattle.silo_model.proofs.Common.{◌∙◌, ◌∷◌, ◌≡◌, AllByRecursion, Client, List, Option, [], false, list_any, map_list, refl, sym, true}
use Rattle.silo_model.proofs.Common.{true≢false}
use Rattle.std.proofs.lemmas.Map.Keys.{IsDistinct-cons, IsDistinct-head, IsDistinct-tail}
use Rattle.lane_model.specs.Lanes.{AreDistinct, Lane, same_lane}
use Rattle.finite_maps.proofs.Lists.{list_any-map, none_passes}
use Rattle.std.proofs.lemmas.Bool.{or_from}

-- a client's lane is apart from these lanes exactly if none of them is the client's
none_from : (from : Option Client) (lanes : List Lane) → AllByRecursion (λ f. same_lane from f ≡ false) (map_list (λ (lane : Lane). lane.from) lanes) → list_any (λ (l : Lane). same_lane from l.from) lanes ≡ false
none_from from [] all = refl
none_from from (lane ∷ lanes) all = or_from _ _ all.0 (none_from from lanes all.1)

all_apart : (from : Option Client) (lanes : List Lane) → list_any (λ (l : Lane). same_lane from l.from) lanes ≡ false → AllByRecursion (λ f. same_lane from f ≡ false) (map_list (λ (lane : Lane). lane.from) lanes)
all_apart from lanes none =
    none_passes (same_lane from) (map_list (λ (lane : Lane). lane.from) lanes) (list_any-map (same_lane from) (λ (lane : Lane). lane.from) lanes ∙ none)

module _ (lane : Lane) (others : List Lane) where
  pub heads_apart : AreDistinct (lane ∷ others) → AllByRecursion (λ f. same_lane lane.from f ≡ false) (map_list (λ (l : Lane). l.from) others)
  heads_apart distinct = IsDistinct-head same_lane lane.from (map_list (λ (l : Lane). l.from) others) distinct

  pub others_distinct : AreDistinct (lane ∷ others) → AreDistinct others
  others_distinct distinct = IsDistinct-tail same_lane lane.from (map_list (λ (l : Lane). l.from) others) distinct

  pub one_more : list_any (λ (l : Lane). same_lane lane.from l.from) others ≡ false → AreDistinct others → AreDistinct (lane ∷ others)
  one_more none distinct = IsDistinct-cons same_lane lane.from (map_list (λ (l : Lane). l.from) others) (all_apart lane.from others none) distinct

  pub apart_from : AreDistinct (lane ∷ others) → list_any (λ (l : Lane). same_lane lane.from l.from) others ≡ false
  apart_from distinct = none_from lane.from others (heads_apart distinct)

  pub repeats : list_any (λ (l : Lane). same_lane lane.from l.from) others ≡ true → AreDistinct (lane ∷ others) → ⊥
  repeats found distinct = true≢false (sym found ∙ apart_from distinct)
