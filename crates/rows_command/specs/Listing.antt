-- The lines that the rows and the active grains of a checkpoint are: compact JSON, states as replies have values.
use Rattle.std.specs.Prelude.{ℕ, Bool, true, List, [], ◌∷◌, ◌++◌, Option, Some, None, codes, decimal, flat_map, if◌then◌else◌}
use Rattle.json.specs.Print.{quoted}
use Rattle.serde_json.specs.Written.{compact_text}
use Rattle.grain_id.specs.Names.{Grain, grain_text, same_text}
use Rattle.request_codec.specs.Json.{json_of}
use Rattle.request_codec.specs.Tree.{Tree}
use Rattle.grain_storage.specs.declared.row.Row.{Row}
use Rattle.silo_model.specs.Opening.{KeptGrain}

-- the JSON of a state, with no space in it
abbrev pub state_text : Tree → List ℕ
state_text state = compact_text (json_of state)

-- `,"state":V`, and nothing of a row that was cleared
abbrev pub content_text : Option Tree → List ℕ
content_text None = []
content_text (Some state) = codes ",\"state\":" ++ state_text state

-- `{"row":G,"version":N,"state":V}`, and its LF
abbrev pub row_line : Grain × Row → List ℕ
row_line r = codes "{\"row\":" ++ (quoted (grain_text r.0) ++ (codes ",\"version\":" ++ (decimal r.1.version ++
    (content_text r.1.content ++ (codes "}" ++ 10 ∷ [])))))

-- the version of the row on which an activation stands, null if there is none
abbrev pub version_text : Option ℕ → List ℕ
version_text None = codes "null"
version_text (Some version) = decimal version

-- `{"active":G,"version":N`
abbrev pub active_start : Grain → Option ℕ → List ℕ
active_start grain version = codes "{\"active\":" ++ (quoted (grain_text grain) ++ (codes ",\"version\":" ++ version_text version))

-- `,"last":T,"until":T`
abbrev pub times_text : ℕ → ℕ → List ℕ
times_text last until = codes ",\"last\":" ++ (decimal last ++ (codes ",\"until\":" ++ decimal until))

-- `,"state":V}`, and the line's LF
abbrev pub active_end : Tree → List ℕ
active_end state = codes ",\"state\":" ++ (state_text state ++ (codes "}" ++ 10 ∷ []))

-- `{"active":G,"version":N,"last":T,"until":T,"state":V}`, and its LF
abbrev pub active_line : Grain × KeptGrain → List ℕ
active_line g = active_start g.0 g.1.version ++ (times_text g.1.last g.1.until ++ active_end g.1.state)

-- whether the grain's lines are printed: all are, or those of one tenant
abbrev pub is_chosen : Option (List ℕ) → Grain → Bool
is_chosen None grain = true
is_chosen (Some tenant) grain = same_text grain.tenant tenant

-- the line of a grain that is chosen
abbrev pub chosen : {A : Type 0} → Option (List ℕ) → (Grain × A → List ℕ) → Grain × A → List ℕ
chosen tenant line entry = if is_chosen tenant entry.0 then line entry else []

-- the rows, and then the active grains, each in the order of the checkpoint
abbrev pub listing : Option (List ℕ) → List (Grain × Row) → List (Grain × KeptGrain) → List ℕ
listing tenant rows grains = flat_map (chosen tenant row_line) rows ++ flat_map (chosen tenant active_line) grains
