use Rattle.std.proofs.Common.{◌≡◌, ℕ, List, ◌++◌, ◌∷◌, [], get_or, map, Some, option_map, string_bytes, string_cmp, subst, sym, ap, ◌∙◌, arith}
use Rattle.std.specs.List.Sorted.{IsStrictlySortedBy}
use Rattle.std.specs.Map.{keys_of}
use Rattle.std.proofs.lemmas.List.{map_push}
use Rattle.std.proofs.lemmas.Map.Keys.{sorted_tail}
use Rattle.serde_json.specs.View.{view, items_view, members_view}
use Rattle.serde_json.specs.declared.value.Value.{Value}
use Rattle.serde_json.proofs.Views.{view-Object}
use Rattle.request_codec.specs.Tree as tree
use Rattle.request_codec.specs.Tree.{Tree}
use Rattle.request_codec.specs.Seen.{value_of, entry_of}
use Rattle.request_codec.specs.Json.{hex_bytes, by_hex, value_of_json, members_of_json, fields_of_json}
use Rattle.request_codec.proofs.DatumValue.{value_of-Map}
use Rattle.request_codec.proofs.Entries.{Entry, AreBelow, insert_entry-last}
use Rattle.request_codec.proofs.JsonParts.{JsonEntry, items-next, items-done, fields-next, fields-done}
use Rattle.request_codec.proofs.JsonObjects.{AreBelowKeys, below_first, below_others}
use Rattle.request_codec.proofs.json_reader.+json_reading.Goals as goal

pub datum_of_json-returns-in_ok-map_of_json-in-None-hex_in : goal.datum_of_json-returns-in_ok-map_of_json-in-None-hex_in
datum_of_json-returns-in_ok-map_of_json-in-None-hex_in t c =
    let done = c.in_ok-map_of_json-in-None-hex_in in
    let ms = members_view c.in-Object.members.entries in
    ap (λ (v : Value). value_of_json (view v)) c.in-Object.is ∙ ap value_of_json (view-Object c.in-Object.members)
    ∙ ap (λ o. by_hex o (λ d. option_map tree.bytes (hex_bytes d)) (option_map tree.map (fields_of_json ms))) (sym c.in-None-hex_in.ensures)
    ∙ ap (option_map tree.map) done.ensures ∙ ap (λ (v : Tree). Some v) (sym (value_of-Map done.field-0))

pub items_of_json-items-preserved : goal.items_of_json-items-preserved
items_of_json-items-preserved t c =
    let d = c.in_ok-datum.datum in
    let x = c.item-item.result in
    let e : map value_of c.push.new.self.items ≡ map value_of c.items.found.items ++ value_of d ∷ [] = rw c.in_ok-push.ensures.items (map_push _ c.items.found.items d) in
    let read : value_of_json (view (get_or c.args.items.now c.items.item-index x)) ≡ Some (value_of d) = ap (λ (y : Value). value_of_json (view y)) (sym c.item-item.is) ∙ c.in_ok-datum.ensures in
    rw e (items-next (map value_of c.items.found.items) c.args.items.now c.items.item-index x (value_of d) (members_of_json (items_view c.args.items.now)) (omega arith) read c.items.invariant)

pub items_of_json-returns : goal.items_of_json-returns
items_of_json-returns t c = items-done (map value_of c.items.found.items) c.args.items.now c.items.item-index (members_of_json (items_view c.args.items.now)) (omega arith) c.items.invariant

pub map_of_json-members-preserved : goal.map_of_json-members-preserved
map_of_json-members-preserved t c =
    let l = c.members in
    let e : JsonEntry = (c.in-Some.name.now, c.in-Some.member.now) in
    let left = c.next.new.self in
    let d = c.in_ok-datum.datum in
    let key = c.in_ok-key.key in
    let copied : string_bytes key ≡ string_bytes e.0 = c.in_ok-key.ensures.cases in
    let sorted : IsStrictlySortedBy string_cmp (keys_of (e ∷ left)) = subst (λ (es : List JsonEntry). IsStrictlySortedBy string_cmp (keys_of es)) c.in-Some.ensures.steps l.invariant.ordered in
    let below = below_first l.found.entries l.name-iterator e left c.in-Some.ensures.steps l.invariant.below in
    let last : c.insert.new.self.entries ≡ l.found.entries ++ (key, d) ∷ [] =
    c.in_ok-insert.ensures.entries ∙ insert_entry-last l.found.entries key d (subst (λ (s : List ℕ). AreBelow l.found.entries s) (sym copied) below) in
    let grown : map entry_of c.insert.new.self.entries ≡ map entry_of l.found.entries ++ (string_bytes e.0, value_of d) ∷ [] =
    ap (λ (es : List Entry). map entry_of es) last ∙ map_push entry_of l.found.entries (key, d) ∙ ap (λ s. map entry_of l.found.entries ++ (s, value_of d) ∷ []) copied in
    record {
      ordered = sorted_tail string_cmp e.0 (keys_of left) sorted;
      below = subst (λ (es : List Entry). AreBelowKeys es left) (sym last) (below_others l.found.entries key d e left copied sorted below);
      so_far = rw grown (fields-next (map entry_of l.found.entries) l.name-iterator e left (value_of d) (fields_of_json (members_view c.args.members.now.entries)) c.in-Some.ensures.steps c.in_ok-datum.ensures l.invariant.so_far);
    }

pub map_of_json-returns : goal.map_of_json-returns
map_of_json-returns t c = fields-done (map entry_of c.members.found.entries) c.members.name-iterator (fields_of_json (members_view c.args.members.now.entries)) c.in-None.ensures.steps.0 c.members.invariant.so_far
