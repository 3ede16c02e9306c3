use Rattle.std.proofs.Common.{◌≡◌, ℕ, List, ◌++◌, ◌∷◌, [], ◌∙◌, map, string_bytes, subst, sym, ap}
use Rattle.std.proofs.lemmas.List.{map_push}
use Rattle.request_codec.specs.Seen.{value_of, entry_of}
use Rattle.request_codec.proofs.Builds.{entries_below}
use Rattle.request_codec.proofs.Entries.{Entry, AreBelow, insert_entry-last}
use Rattle.request_codec.proofs.datum_builder.DatumBuilderBuilder.add.Goals as goal

pub returns : goal.returns
returns c =
    let es = c.args.fields.now.entries in
    let key = c.in_ok-key.key in
    let d = c.args.field in
    let copied : string_bytes key ≡ c.args.name.now = c.in_ok-key.ensures.ok in
    let below = subst (λ (s : List ℕ). AreBelow es s) (sym copied) (entries_below es c.args.name.now c.requires) in
    let last : c.insert.new.self.entries ≡ es ++ (key, d) ∷ [] = c.in_ok-insert.ensures.entries ∙ insert_entry-last es key d below in
    ap (λ (fs : List Entry). map entry_of fs) last ∙ map_push entry_of es (key, d) ∙ ap (λ (s : List ℕ). map entry_of es ++ (s, value_of d) ∷ []) copied
