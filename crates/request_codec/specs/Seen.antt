-- The value that an owned tree shows.
use Rattle.std.specs.Prelude.{ℕ, List, map, String, string_bytes}
use Rattle.std.specs.declared.alloc.Global.{Global}
use Rattle.request_codec.specs.Tree as tree
use Rattle.request_codec.specs.Tree.{Tree, members_of, fields_of}
use Rattle.request_codec.specs.declared.datum.Datum.{Datum, fold-Datum}
use Rattle.request_codec.specs.declared.datum.Datum.TheOpen.{Datum-F}

abbrev pub named : {A : Type 0} → String Global × A → List ℕ × A
named e = (string_bytes e.0, e.1)

-- one level, with each member already seen as its value
abbrev pub seen_step : Datum-F Tree → Tree
seen_step Datum-F.Null = tree.null
seen_step (Datum-F.Bool b) = tree.truth b
seen_step (Datum-F.Int i) = tree.integer i
seen_step (Datum-F.Text s) = tree.text (string_bytes s)
seen_step (Datum-F.List v) = tree.list (members_of v.items)
seen_step (Datum-F.Map m) = tree.map (fields_of (map named m.entries))
seen_step (Datum-F.Bytes v) = tree.bytes v.items

abbrev pub value_of : Datum → Tree
value_of = fold-Datum Tree seen_step

-- a name and the value beside it
abbrev pub entry_of : String Global × Datum → List ℕ × Tree
entry_of e = (string_bytes e.0, value_of e.1)
