-- The places of lanes, as one lane more stands last.
use Rattle.std.proofs.Common.{◌≡◌, ℕ, Bool, true, false, cond, List, [], ◌∷◌, ◌++◌, length, Option, Some, None, refl, ap, sym, ◌∙◌, subst, arith, true≢false}
use Rattle.std.specs.Prelude.{◌||◌, slice_index_or}
use Rattle.std.specs.List.{list_any}
use Rattle.std.proofs.Math.Seq.{get_or-append_seam}
use Rattle.std.proofs.lemmas.Bool.{false_from_ne_true}
use Rattle.std.proofs.lemmas.List.{get_or_append_left, length-map, length_push, map-append}
use Rattle.std.proofs.lemmas.List.Folds.{list_any-append}
use Rattle.grain_id.specs.Names.{Client}
use Rattle.lane_model.specs.Lanes.{Lane, same_lane}
use Rattle.lane_model.proofs.Pass.{same_lane_decides}
use Rattle.line_service.specs.declared.lane_places.LanePlaces.{LanePlaces}
use Rattle.line_service.specs.inside.Places.{ArePlaced, IsPlaceOf, place_of}
use Rattle.line_service.proofs.Added.{froms_of}

module _ (gs : List (Option Client)) (giver : Option Client) where
  untied_apart : (other : Option Client) → same_lane giver other ≡ false → same_lane other giver ≡ false
  untied_apart other untied = false_from_ne_true _ (λ same. true≢false (sym ((same_lane_decides giver other).1 (sym ((same_lane_decides other giver).0 same))) ∙ untied))

  place_stays : (other : Option Client) (found : Option ℕ) → same_lane other giver ≡ false → IsPlaceOf gs other found → IsPlaceOf (gs ++ giver ∷ []) other found
  place_stays other None apart none =
      list_any-append (same_lane other) gs (giver ∷ []) ∙ ap (λ (t : Bool). t || list_any (same_lane other) (giver ∷ [])) none ∙ ap (λ (t : Bool). t || false) apart
  place_stays other (Some place) apart at =
      (omega (arith, at.0, length_push gs giver), λ d. get_or_append_left gs (giver ∷ []) d place at.0 ∙ at.1 d)

  place_of_last : (place : ℕ) → place ≡ length gs → IsPlaceOf (gs ++ giver ∷ []) giver (Some place)
  place_of_last place is =
      (omega (arith, is, length_push gs giver), λ d. ap (λ (n : ℕ). slice_index_or (gs ++ giver ∷ []) n d) is ∙ get_or-append_seam gs giver [] d)

  module _ (old new : LanePlaces) (place : ℕ) (is : place ≡ length gs) (put : (q : Option Client) → place_of new q ≡ cond (same_lane giver q) (Some place) (place_of old q)) where
    by_tie : (other : Option Client) (t : Bool) → same_lane giver other ≡ t → IsPlaceOf gs other (place_of old other)
        → IsPlaceOf (gs ++ giver ∷ []) other (cond t (Some place) (place_of old other))
    by_tie other true tied before = subst (λ (k : Option Client). IsPlaceOf (gs ++ giver ∷ []) k (Some place)) ((same_lane_decides giver other).0 tied) (place_of_last place is)
    by_tie other false untied before = place_stays other (place_of old other) (untied_apart other untied) before

    pub place_more : (other : Option Client) → IsPlaceOf gs other (place_of old other) → IsPlaceOf (gs ++ giver ∷ []) other (place_of new other)
    place_more other before = subst (IsPlaceOf (gs ++ giver ∷ []) other) (sym (put other)) (by_tie other (same_lane giver other) refl before)

-- the places of the lanes and one more
pub placed_more : (lanes : List Lane) (lane : Lane) (giver : Option Client) (old new : LanePlaces) (place : ℕ) → lane.from ≡ giver → place ≡ length lanes → ArePlaced old lanes
    → ((q : Option Client) → place_of new q ≡ cond (same_lane giver q) (Some place) (place_of old q))
    → ArePlaced new (lanes ++ lane ∷ [])
placed_more lanes lane giver old new place from_is is placed put = λ other.
    subst (λ (gs : List (Option Client)). IsPlaceOf gs other (place_of new other))
    (sym (map-append (λ (l : Lane). l.from) lanes (lane ∷ []) ∙ ap (λ (f : Option Client). froms_of lanes ++ f ∷ []) from_is))
    (place_more (froms_of lanes) giver old new place (is ∙ sym (length-map lanes (λ (l : Lane). l.from))) put other (placed other))
