use Rattle.std.proofs.Common.{◌≡◌, ◌++◌, ℕ, List, string_bytes, sym, ap, subst, ◌∙◌, rules}
use Rattle.std.specs.Prelude.{IsUtf8}
use Rattle.std.proofs.lemmas.Str.{IsUtf8-append, IsUtf8-string_bytes}
use Rattle.json.specs.Print.{print}
use Rattle.line_text.proofs.Pushes.{quoted_after}
use Rattle.line_text.proofs.text.push_escaped.Goals as goal

pub text_of_bytes-requires : goal.text_of_bytes-requires
text_of_bytes-requires c =
    let front : c.new-writer.result.before ≡ string_bytes c.args.text.now = search rules in
    let same : c.string-written.new.self.before ≡ c.new-writer.result.before = c.string-written.ensures.room.0 in
    let all : c.into_inner.result.items ≡ string_bytes c.args.text.now ++ print c.string-written.new.self.tokens = c.into_inner.ensures.items ∙ ap (λ (l : List ℕ). l ++ print c.string-written.new.self.tokens) (same ∙ front) in
    subst IsUtf8 (sym all) (IsUtf8-append (string_bytes c.args.text.now) (print c.string-written.new.self.tokens) (IsUtf8-string_bytes c.args.text.now) c.into_inner.ensures.utf8)

pub returns : goal.returns
returns c =
    let front : c.new-writer.result.before ≡ string_bytes c.args.text.now = search rules in
    let same : c.string-written.new.self.before ≡ c.new-writer.result.before = c.string-written.ensures.room.0 in
    let all : string_bytes c.text_of_bytes.result ≡ string_bytes c.args.text.now ++ print c.string-written.new.self.tokens = c.text_of_bytes.ensures ∙ c.into_inner.ensures.items ∙ ap (λ (l : List ℕ). l ++ print c.string-written.new.self.tokens) (same ∙ front) in
    quoted_after c.string-written.result c.args.part.now (string_bytes c.args.text.now) (string_bytes c.text_of_bytes.result) c.new-writer.result.tokens c.string-written.new.self.tokens c.new-writer.ensures.tokens c.string-written.ensures.ok all
