use Rattle.std.proofs.Common.{◌≡◌, ◌++◌, ap, codes, List, ℕ, string_bytes, subst, sym, ◌∙◌}
use Rattle.std.specs.Prelude.{OnOk, Option}
use Rattle.json.specs.Print.{quoted}
use Rattle.grain_id.specs.Names.{grain_text}
use Rattle.rows_command.specs.Listing.{version_text}
use Rattle.rows_command.proofs.lines.push_start.Goals as goal

pub returns-in-Some : goal.returns-in-Some
returns-in-Some c =
    let named : string_bytes c.in_ok-name.name ≡ quoted (grain_text c.args.grain.now) = c.in_ok-name.ensures ∙ ap quoted c.text.ensures.text in
    let Starts : List ℕ → Option ℕ → Type 0 =
    λ n v. OnOk c.write.result (string_bytes c.write.new.self ≡ string_bytes c.args.text.now ++ (codes "{\"active\":" ++ (n ++ (codes ",\"version\":" ++ version_text v)))) in
    subst (λ n. Starts n c.args.version) named (subst (Starts (string_bytes c.in_ok-name.name)) (sym c.in-Some.is) c.write.ensures.bytes)

pub returns : goal.returns
returns c =
    let named : string_bytes c.in_ok-name.name ≡ quoted (grain_text c.args.grain.now) = c.in_ok-name.ensures ∙ ap quoted c.text.ensures.text in
    let Starts : List ℕ → Option ℕ → Type 0 =
    λ n v. OnOk c.write-in-None.result (string_bytes c.write-in-None.new.self ≡ string_bytes c.args.text.now ++ (codes "{\"active\":" ++ (n ++ (codes ",\"version\":" ++ version_text v)))) in
    subst (λ n. Starts n c.args.version) named (subst (Starts (string_bytes c.in_ok-name.name)) (sym c.in-None.is) c.write-in-None.ensures.bytes)
