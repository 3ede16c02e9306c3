use Rattle.std.proofs.Common.{ℕ, ◌<◌, ◌≤◌, sym, subst, ◌∙◌}
use Rattle.serde_json.specs.View.{view}
use Rattle.request_codec.specs.Limits.{depth_limit}
use Rattle.request_codec.specs.Json.{json_depth}
use Rattle.request_codec.proofs.JsonDepths.{lenient_deep}
use Rattle.request_codec.proofs.JsonShown.{read_deep, read_not_whole, read_not_hex, read_whole}
use Rattle.request_codec.proofs.json_test.test_json.Goals as goal

pub returns-then-not-is_within : goal.returns-then-not-is_within
returns-then-not-is_within c = let d = view c.args.value.now in read_deep d (subst (λ (n : ℕ). depth_limit < n) (lenient_deep d) c.if-not-is_within.ensures)

pub returns-then-flaws : goal.returns-then-flaws
returns-then-flaws c =
    let d = view c.args.value.now in
    let within : json_depth d ≤ depth_limit = subst (λ (n : ℕ). n ≤ depth_limit) (lenient_deep d) c.if-not-is_within.ensures.0 in
    read_not_whole d within (sym c.note.ensures.whole ∙ c.if-flaws.true)

pub returns-then-flaws-2 : goal.returns-then-flaws-2
returns-then-flaws-2 c =
    let d = view c.args.value.now in
    let within : json_depth d ≤ depth_limit = subst (λ (n : ℕ). n ≤ depth_limit) (lenient_deep d) c.if-not-is_within.ensures.0 in
    read_not_hex d within (sym c.note.ensures.whole ∙ c.if-flaws.false) (sym c.note.ensures.hex ∙ c.if-flaws-2.true)

pub returns : goal.returns
returns c =
    let d = view c.args.value.now in
    let within : json_depth d ≤ depth_limit = subst (λ (n : ℕ). n ≤ depth_limit) (lenient_deep d) c.if-not-is_within.ensures.0 in
    (read_whole d within (sym c.note.ensures.whole ∙ c.if-flaws.false) (sym c.note.ensures.hex ∙ c.if-flaws-2.false), c.if-not-is_within.ensures.1)
