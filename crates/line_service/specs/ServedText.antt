-- What is written for lanes that were served: refusals, each lane's replies, and what grains are told.
use Rattle.std.specs.Prelude.{◌≡◌, ℕ, Bool, false, List, [], ◌∷◌, ◌++◌, filter, flat_map, map as map_list, Option}
use Rattle.std.specs.FinMap as map
use Rattle.std.specs.FinMap.{FinMap}
use Rattle.std.specs.Io.KnownBytes.{Appends}
use Rattle.grain_id.specs.Names.{Grain, grain_cmp, grain_eq}
use Rattle.silo_event.specs.declared.reply.Party.{Party}
use Rattle.silo_event.specs.declared.reply.Party.TheVariants as party
use Rattle.silo_event.specs.declared.reply.Reply.{Reply}
use Rattle.line_parser.specs.declared.line.LineRefusal.{LineRefusal}
use Rattle.line_text.specs.Writing.{WrittenInPart}
use Rattle.line_text.specs.LineTexts.{ended, joined}
use Rattle.line_text.specs.Text.{line_of, refusal_line}
use Rattle.line_text.specs.declared.fault.LineFault.{LineFault}
use Rattle.line_text.specs.declared.fault.LineFault.TheVariants as fault

-- ---- what grains are told

-- this is the grain
abbrev pub is_grain : Grain → Party → Bool
is_grain grain (party.Client caller id) = false
is_grain grain (party.Grain told) = grain_eq told grain

-- the replies to the grain, in order
abbrev pub replies_to_grain : Grain → List Reply → List Reply
replies_to_grain grain replies = filter (λ (r : Reply). is_grain grain r.recipient) replies

-- the grain, if it is one
abbrev pub grain_of : Party → List Grain
grain_of (party.Client caller id) = []
grain_of (party.Grain grain) = grain ∷ []

-- the grains that are told something
abbrev pub grains_told : List Reply → List Grain
grains_told replies = flat_map (λ (r : Reply). grain_of r.recipient) replies

-- for each grain that is told something, the replies to it
abbrev pub replies_by_grain : List Reply → FinMap grain_cmp (List Reply)
replies_by_grain replies = map.from_entries (map_list (λ grain. (grain, replies_to_grain grain replies)) (grains_told replies))

-- ---- the lines, each with LF

-- of a reply, and of a refusal
abbrev pub line_of_reply : Reply → List ℕ
line_of_reply r = ended (line_of r)

abbrev pub line_of_refusal : LineRefusal → List ℕ
line_of_refusal refusal = ended (refusal_line refusal)

-- of each list of replies
abbrev pub replies_lines : List (List Reply) → List (List ℕ)
replies_lines lists = flat_map (map_list line_of_reply) lists

-- the refusals; then the replies of each lane; then, by grain ascending, the replies to grains
abbrev pub served_lines : List LineRefusal → List (List Reply) → List Reply → List (List ℕ)
served_lines refusals answers replies =
    map_list line_of_refusal refusals ++ (replies_lines answers ++ replies_lines (map.values (replies_by_grain replies)))

abbrev pub served_text : List LineRefusal → List (List Reply) → List Reply → List ℕ
served_text refusals answers replies = joined (served_lines refusals answers replies)

-- ---- lines that aren't all written

-- The first of them were written whole, and of the others nothing.
pub record WrittenInLines (before after : Option (List ℕ)) (lines : List (List ℕ)) : Type 0 where
  pub done : List (List ℕ)
  pub rest : List (List ℕ)
  pub parts : lines ≡ done ++ rest
  pub written : Appends before after (joined done)

-- If memory was refused, the lines before the one that was being made were written whole; if the writer failed, a part of the text.
abbrev pub StopsWriting : LineFault → List (List ℕ) → Option (List ℕ) → Option (List ℕ) → Type 0
StopsWriting fault.Memory lines before after = WrittenInLines before after lines
StopsWriting fault.Write lines before after = WrittenInPart before after (joined lines)
StopsWriting fault.Read lines before after = ⊥
StopsWriting fault.TooMuch lines before after = ⊥
