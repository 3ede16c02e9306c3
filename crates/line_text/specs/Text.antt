-- The exact text of a reply, of a refusal and of a step that isn't possible: compact JSON, its keys ascending.
use Rattle.std.specs.Prelude.{ℕ, List, ◌++◌, true, false, codes, decimal, Ok, Err, Result}
use Rattle.std.specs.Fmt.{signed_decimal}
use Rattle.json.specs.Print.{quoted}
use Rattle.grain_id.specs.Names.{grain_text, client_text}
use Rattle.request_codec.specs.Hex.{digits_of}
use Rattle.request_codec.specs.Tree as tree
use Rattle.request_codec.specs.Tree.{Tree, null, truth, integer, text, list, map, Members, no_members, member, Fields, no_fields, field}
use Rattle.silo_event.specs.Fault.{fault_code, fault_text}
use Rattle.silo_event.specs.declared.fault.Fault.{Fault}
use Rattle.silo_event.specs.declared.fault.Fault.TheVariants.{NotARequest, TooLong}
use Rattle.silo_event.specs.declared.reply.Reply.{Reply}
use Rattle.silo_event.specs.declared.reply.Party.{Party}
use Rattle.silo_event.specs.declared.reply.Party.TheVariants as party
use Rattle.line_parser.specs.declared.line.LineRefusal.{LineRefusal}
use Rattle.line_parser.specs.declared.line.LineRefusal.TheVariants as refusal

-- a value as compact JSON, bytes as an object of their digits beside `$hex`; `more_` has a comma before what is left, and
-- ends with the bracket
abbrev mutual
  pub text_of : Tree → List ℕ
  text_of null = codes "null"
  text_of (truth true) = codes "true"
  text_of (truth false) = codes "false"
  text_of (integer i) = signed_decimal i
  text_of (text s) = quoted s
  text_of (list no_members) = codes "[]"
  text_of (list (member v vs)) = codes "[" ++ (text_of v ++ more_members vs)
  text_of (map no_fields) = codes "{}"
  text_of (map (field n v fs)) = codes "{" ++ (quoted n ++ (codes ":" ++ (text_of v ++ more_fields fs)))
  text_of (tree.bytes b) = codes "{\"$hex\":\"" ++ (digits_of b ++ codes "\"}")

  pub more_members : Members → List ℕ
  more_members no_members = codes "]"
  more_members (member v vs) = codes "," ++ (text_of v ++ more_members vs)

  pub more_fields : Fields → List ℕ
  more_fields no_fields = codes "}"
  more_fields (field n v fs) = codes "," ++ (quoted n ++ (codes ":" ++ (text_of v ++ more_fields fs)))

-- `{"from":F,"id":I,"ok":V}`
abbrev pub done_line : List ℕ → ℕ → Tree → List ℕ
done_line from id v = codes "{\"from\":" ++ (quoted from ++ (codes ",\"id\":" ++
    (decimal id ++ (codes ",\"ok\":" ++ (text_of v ++ codes "}")))))

-- `{"error":C,"from":F,"id":I,"text":T}`
abbrev pub refused_line : List ℕ → ℕ → ℕ → List ℕ → List ℕ
refused_line from id code why = codes "{\"error\":" ++ (decimal code ++
    (codes ",\"from\":" ++ (quoted from ++ (codes ",\"id\":" ++ (decimal id ++ (codes ",\"text\":" ++ (quoted why ++ codes "}")))))))

-- `{"from":F,"ok":V}`
abbrev pub done_to_grain_line : List ℕ → Tree → List ℕ
done_to_grain_line from v = codes "{\"from\":" ++ (quoted from ++ (codes ",\"ok\":" ++ (text_of v ++ codes "}")))

-- `{"error":C,"from":F,"text":T}`
abbrev pub refused_to_grain_line : List ℕ → ℕ → List ℕ → List ℕ
refused_to_grain_line from code why = codes "{\"error\":" ++ (decimal code ++
    (codes ",\"from\":" ++ (quoted from ++ (codes ",\"text\":" ++ (quoted why ++ codes "}")))))

abbrev pub line_to : Party → Result Tree Fault → List ℕ
line_to (party.Client client id) (Ok v) = done_line (client_text client) id v
line_to (party.Client client id) (Err why) = refused_line (client_text client) id (fault_code why) (fault_text why)
line_to (party.Grain grain) (Ok v) = done_to_grain_line (grain_text grain) v
line_to (party.Grain grain) (Err why) = refused_to_grain_line (grain_text grain) (fault_code why) (fault_text why)

-- the line of a reply, without its LF
abbrev pub line_of : Reply → List ℕ
line_of reply = line_to reply.recipient reply.outcome

-- the fault that a refusal of a line stands for
abbrev pub fault_of : LineRefusal → Fault
fault_of refusal.NotARequest = NotARequest
fault_of refusal.TooLong = TooLong

-- `{"error":C,"text":T}`
abbrev pub fault_line : Fault → List ℕ
fault_line why = codes "{\"error\":" ++ (decimal (fault_code why) ++ (codes ",\"text\":" ++ (quoted (fault_text why) ++ codes "}")))

abbrev pub refusal_line : LineRefusal → List ℕ
refusal_line r = fault_line (fault_of r)

abbrev pub not_now_line : List ℕ
not_now_line = codes "{\"text\":\"not now\"}"
