-- The value of an argument that is spelled plainly: a text, a number or null, or a map of one of these.
use Rattle.std.proofs.Common.{◌≡◌, ℕ, ◌-◌, Bool, false, cond, List, [], ◌∷◌, ◌++◌, length, Some, None, refl, sym, ap, ◌∙◌, append_assoc, append-nil, arith}
use Rattle.std.specs.Prelude.{IsUtf8, bytes_eq}
use Rattle.std.specs.Int.{w32, to_be_bytes}
use Rattle.std.proofs.Math.Bool.{or-false}
use Rattle.json.specs.Token.{Token}
use Rattle.json.specs.Json.{value}
use Rattle.serde_json.specs.Data.{Data, no_members, member}
use Rattle.request_codec.specs.Json.{hex_name, json_depth, is_not_whole}
use Rattle.request_codec.specs.Lenient.{lenient_value, lenient_fields}
use Rattle.request_codec.specs.Written.{text_spelling, spelling, fields_spelling}
use Rattle.line_parser.specs.inside.Argument.{is_deep, AddsFaults, PutsFields, ReadsPlain, IsField}
use Rattle.line_parser.specs.inside.LineMembers.{TakesValue}
use Rattle.line_parser.specs.declared.faults.Faults.{Faults}
use Rattle.line_parser.proofs.FieldsRead.{last_placed, spelled_is}
use Rattle.line_parser.proofs.GrammarLoops.{member_read, members_over}
use Rattle.line_parser.proofs.Noted.{adds_as, deep_max, value_asked_for}
use Rattle.line_parser.proofs.PutValues.{put_map}

-- nothing is noted of it
abbrev nothing : Faults
nothing = record { too_deep = false; not_whole = false }

none_noted : AddsFaults nothing nothing false false
none_noted = record { depth = refl; numbers = refl }

pub plain_taken : (old new : List Token) (bytes after : List ℕ) → ReadsPlain old new bytes → after ≡ bytes → TakesValue old new None after
plain_taken old new bytes after reads is = value_asked_for old new after nothing nothing None refl refl (reads 126 [] after nothing nothing none_noted is) refl

-- ---- a map of one field

field_named : (b : Bool) (d : Data) → b ≡ false → cond b (Some d) None ≡ None
field_named b d is = ap (λ c. cond c (Some d) None) is

field_fields : (ts s r new : List Token) (name bytes head after : List ℕ) → ts ≡ Token.key name ∷ s → r ≡ Token.end_object ∷ new → bytes_eq name hex_name ≡ false → IsUtf8 name → ReadsPlain s r bytes → head ≡ 6 ∷ to_be_bytes w32 1 → after ≡ (head ++ text_spelling name) ++ bytes
    → PutsFields 125 ts new [] after nothing nothing
field_fields ts s r new name bytes head after key over other valid reads begins is =
    let v = reads 125 (head ++ text_spelling name) after nothing nothing none_noted is in
    let c = last_placed name v.json 0 in
    let one = member name v.json no_members in
    let all : after ≡ head ++ (text_spelling name ++ spelling (lenient_value v.json)) = v.bytes ∙ append_assoc head (text_spelling name) (spelling (lenient_value v.json)) in
    let fields = fields_spelling (lenient_fields one) in
    let spelled : text_spelling name ++ spelling (lenient_value v.json) ≡ fields = sym (spelled_is (c ∷ []) ∙ append-nil (text_spelling name ++ spelling (lenient_value v.json))) in
    record {
      json = one;
      no_bytes = field_named (bytes_eq name hex_name) v.json other;
      plain = or-false _ ∙ v.plain;
      read = member_read (value 125) no_members (length ts) name ts s r v.json (omega (arith, ap length key)) (rw key refl) v.read
          ∙ members_over (value 125) one (length ts - 1) r new (omega (arith, ap length key, v.shorter)) (rw over refl);
      formed = (valid, v.formed, tt, tt);
      noted = adds_as nothing nothing _ _ _ _ v.noted (sym (or-false (is_deep 125 (json_depth v.json))) ∙ deep_max 125 (json_depth v.json) 0) (sym (or-false (is_not_whole v.json)));
      bytes = all ∙ ap (λ l. head ++ l) spelled ∙ ap (λ l. l ++ fields) begins;
      shorter = omega (arith, ap length key, ap length over, v.shorter);
    }

pub field_taken : (old new : List Token) (name bytes head after : List ℕ) → IsField old new name bytes → IsUtf8 name → head ≡ 6 ∷ to_be_bytes w32 1 → after ≡ (head ++ text_spelling name) ++ bytes → TakesValue old new None after
field_taken old new name bytes head after f valid begins is =
    let fields = field_fields f.begun f.behind f.left new name bytes head after f.key f.over f.other valid f.reads begins is in
    value_asked_for old new after nothing nothing None refl refl (put_map 126 old f.begun new [] after nothing nothing nothing (omega arith) none_noted f.begins fields) refl
