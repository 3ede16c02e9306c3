-- Turns that a worker took, as one of them runs.
use Rattle.std.proofs.Common.{◌≡◌, List, [], ◌∷◌, ◌++◌, ap, sym, ◌∙◌}
use Rattle.std.specs.Prelude.{map as map_list}
use Rattle.std.proofs.lemmas.List.{append_assoc, map-append}
use Rattle.silo_event.specs.declared.opened_turn.OpenedTurn.{OpenedTurn}
use Rattle.lane_workers.specs.Turns.{Ran, turn_of}

-- the turn that runs next stands last among those that ran, and those behind it are left
pub one_ran : (had : List Ran) (left : List OpenedTurn) (turn : Ran) (opened : OpenedTurn) (ran : List Ran) (taken : List OpenedTurn) → ran ≡ had ++ turn ∷ [] → taken ≡ opened ∷ left → turn_of turn ≡ opened
    → map_list turn_of ran ++ left ≡ map_list turn_of had ++ taken
one_ran had left turn opened ran taken grown front same =
    ap (λ (rs : List Ran). map_list turn_of rs ++ left) grown
    ∙ ap (λ (ts : List OpenedTurn). ts ++ left) (map-append turn_of had (turn ∷ []))
    ∙ append_assoc (map_list turn_of had) (turn_of turn ∷ []) left
    ∙ ap (λ (t : OpenedTurn). map_list turn_of had ++ t ∷ left) same
    ∙ ap (λ (ts : List OpenedTurn). map_list turn_of had ++ ts) (sym front)
