use Rattle.std.proofs.Common.{◌++◌, ◌∷◌, ℕ, List, string_bytes, codes, decimal, sym, ap, ◌∙◌}
use Rattle.line_text.specs.Text.{text_of}
use Rattle.line_text.proofs.Plain.{client_text-before}
use Rattle.line_text.proofs.Pushes.{both_parts}
use Rattle.line_text.proofs.replies.push_done.Goals as goal

pub returns : goal.returns
returns c =
    let t0 : List ℕ = string_bytes c.args.text.now in
    let t1 : List ℕ = string_bytes c.push.new.text in
    let t2 : List ℕ = string_bytes c.push-2.new.text in
    let t3 : List ℕ = string_bytes c.push-3.new.text in
    let t4 : List ℕ = string_bytes c.push_natural.new.text in
    let t5 : List ℕ = string_bytes c.push-4.new.text in
    let t6 : List ℕ = string_bytes c.push_state.new.text in
    let t7 : List ℕ = string_bytes c.push-5.new.text in
    let name : List ℕ = c.text.result.now in
    let last : List ℕ = text_of c.args.state.now ++ codes "}" in
    let ok : List ℕ = codes ",\"ok\":" ++ last in
    let id : List ℕ = decimal c.args.id ++ ok in
    let a = both_parts t7 t6 t5 (text_of c.args.state.now) (codes "}") c.in_ok-push-5.ensures c.in_ok-push_state.ensures in
    let b = both_parts t7 t5 t4 (codes ",\"ok\":") last a c.in_ok-push-4.ensures in
    let d = both_parts t7 t4 t3 (decimal c.args.id) ok b c.in_ok-push_natural.ensures in
    let e = both_parts t7 t3 t2 (codes "\",\"id\":") id d c.in_ok-push-3.ensures in
    let f = both_parts t7 t2 t1 name (codes "\",\"id\":" ++ id) e c.in_ok-push-2.ensures in
    let all = both_parts t7 t1 t0 (codes "{\"from\":\"") (name ++ (codes "\",\"id\":" ++ id)) f c.in_ok-push.ensures in
    let rest : List ℕ = codes ",\"id\":" ++ id in
    all ∙ ap (λ (l : List ℕ). t0 ++ (codes "{\"from\":\"" ++ (l ++ (34 ∷ rest)))) c.text.ensures.text ∙ ap (λ (l : List ℕ). t0 ++ (codes "{\"from\":" ++ l)) (sym (client_text-before c.args.from.now rest c.text.ensures.well_formed))
