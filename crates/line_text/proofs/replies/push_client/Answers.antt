use Rattle.std.proofs.Common.{◌++◌, ◌∷◌, [], ℕ, List, string_bytes, codes, sym, ap, ◌∙◌}
use Rattle.line_text.proofs.Plain.{quoted-client_text}
use Rattle.line_text.proofs.Pushes.{both_parts}
use Rattle.line_text.proofs.replies.push_client.Goals as goal

pub returns : goal.returns
returns c =
    let t0 : List ℕ = string_bytes c.args.text.now in
    let t1 : List ℕ = string_bytes c.push.new.text in
    let t2 : List ℕ = string_bytes c.push-2.new.text in
    let t3 : List ℕ = string_bytes c.push-3.new.text in
    let name : List ℕ = c.text.result.now in
    let quote : List ℕ = codes "\"" in
    let all = both_parts t3 t1 t0 quote (name ++ quote) (both_parts t3 t2 t1 name quote c.in_ok-push-3.ensures c.in_ok-push-2.ensures) c.in_ok-push.ensures in
    all ∙ ap (λ (l : List ℕ). t0 ++ (34 ∷ (l ++ 34 ∷ []))) c.text.ensures.text ∙ ap (λ (l : List ℕ). t0 ++ l) (sym (quoted-client_text c.args.from.now c.text.ensures.well_formed))
