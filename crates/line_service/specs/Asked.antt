-- What the lines of an input ask for: lanes of steps, and refusals.
use Rattle.std.specs.Prelude.{not, List, [], ◌∷◌, filter, flat_map, map as map_list, Option, Some, None, if◌then◌else◌}
use Rattle.grain_id.specs.Names.{Client}
use Rattle.silo_event.specs.declared.step.Step.{Step}
use Rattle.lane_model.specs.Lanes.{Lane, given_by, has_failed, lane_of, same_lane}
use Rattle.line_parser.specs.declared.line.Line.{Line}
use Rattle.line_parser.specs.declared.line.Line.TheVariants as line
use Rattle.line_parser.specs.declared.line.LineRefusal.{LineRefusal}
use Rattle.line_parser.specs.declared.line.LineRefusal.TheVariants.{NotARequest}

-- whose lane gives a step of an input, if one does: a step with the mark of a failure is given by none
abbrev pub giver_of : Step → Option (Option Client)
giver_of s = if has_failed s then None else lane_of s

-- ---- the lines that are refused

-- a step is refused if no lane gives it
abbrev pub refusal_if : Option (Option Client) → List LineRefusal
refusal_if None = NotARequest ∷ []
refusal_if (Some giver) = []

-- the refusal of a line, or none
abbrev pub refusal_in : Line → List LineRefusal
refusal_in line.Nothing = []
refusal_in (line.Refusal refusal) = refusal ∷ []
refusal_in (line.Step s) = refusal_if (giver_of s)

-- the refusals of the lines, in order
abbrev pub refusals_of : List Line → List LineRefusal
refusals_of lines = flat_map refusal_in lines

-- ---- the lines that ask

-- the step, if a lane gives it
abbrev pub step_if : Option (Option Client) → Step → List Step
step_if None s = []
step_if (Some giver) s = s ∷ []

-- the step that a line asks for, or none
abbrev pub step_in : Line → List Step
step_in line.Nothing = []
step_in (line.Refusal refusal) = []
step_in (line.Step s) = step_if (giver_of s) s

-- the steps that the lines ask for, in order
abbrev pub steps_of : List Line → List Step
steps_of lines = flat_map step_in lines

-- ---- lanes

-- the other givers
abbrev pub others_than : Option Client → List (Option Client) → List (Option Client)
others_than giver givers = filter (λ other. not (same_lane giver other)) givers

-- this giver first, if there is one, and then the others
abbrev pub with_first : Option (Option Client) → List (Option Client) → List (Option Client)
with_first None givers = givers
with_first (Some giver) givers = giver ∷ others_than giver givers

-- whose lanes give the steps, in the order of their first steps, each once
abbrev pub givers_of : List Step → List (Option Client)
givers_of [] = []
givers_of (s ∷ steps) = with_first (lane_of s) (givers_of steps)

-- the lane of this giver has the steps that it gives, in order
abbrev pub lane_from : List Step → Option Client → Lane
lane_from steps giver = record { from = giver; steps = given_by giver steps }

-- the lanes that give the steps
abbrev pub lanes_by : List Step → List Lane
lanes_by steps = map_list (lane_from steps) (givers_of steps)

-- the lanes that the lines ask for
abbrev pub lanes_of : List Line → List Lane
lanes_of lines = lanes_by (steps_of lines)
