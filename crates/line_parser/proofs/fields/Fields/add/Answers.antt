use Rattle.std.proofs.Common.{◌≡◌, ℕ, List, true, false, true≢false, option_map, Some, Result, Ok, Err, is_err, inl, inr, refl, sym, ap, ◌∙◌}
use Rattle.std.specs.Prelude.{OnOk, OnErr}
use Rattle.request_codec.specs.Reading.{is_above}
use Rattle.line_parser.specs.inside.Fields.{Place}
use Rattle.line_parser.specs.declared.fields.Fields.{Fields}
use Rattle.line_parser.specs.declared.fields.Known.{Known}
use Rattle.line_parser.proofs.FieldsRead.{last_placed}
use Rattle.line_parser.proofs.Places.{Grows, one_held}
use Rattle.line_parser.proofs.fields.Fields.add.Goals as goal
use Rattle.line_parser.proofs.fields.Fields.add.Goals.{then-is_err+in_ok-push, else-is_err, then-self, else-self}

abbrev place : List ℕ → ℕ → ℕ → Place
place name start count = record { name = name; start = start; count = count }

on_err : {A E P : Type 0} (r : Result A E) → is_err r ≡ true → OnErr r P → P
on_err (Ok x) h p = absurd (true≢false (sym h))
on_err (Err e) h p = p

on_ok : {A E P : Type 0} (r : Result A E) → is_err r ≡ false → OnOk r P → P
on_ok (Ok x) h p = p
on_ok (Err e) h p = absurd (true≢false h)

pub returns : goal.returns
returns c placed d h long =
    let old = c.args.self.now in
    let field : Known = record { name = c.args.name; start = c.args.start; count = c.args.count } in
    let new : Fields = record { few = c.if-is_err.self.few; more = c.if-is_err.self.more; last = Some c.args.name; ascend = c.if-self.self } in
    let grows : Grows old new field = elim c.if-is_err.branch [
      | then-is_err+in_ok-push w ↦ inr (ap (λ s. s.few.items) w.self-is ∙ ap (λ v. v.items) (on_err c.try_push.result (sym c.is_err.ensures.value ∙ w.if-is_err.true) c.try_push.ensures.err), ap (λ s. s.more.items) w.self-is ∙ w.in_ok-push.ensures.items)
      | else-is_err w ↦ inl (ap (λ s. s.few.items) w.self-is ∙ on_ok c.try_push.result (sym w.if-is_err.ensures.value) c.try_push.ensures.ok, ap (λ s. s.more.items) w.self-is)
    ] in
    let stays : (c.if-is_err.self.ascend ≡ old.ascend) × (c.if-is_err.self.last ≡ old.last) = elim c.if-is_err.branch [
      | then-is_err+in_ok-push w ↦ (ap (λ s. s.ascend) w.self-is, ap (λ s. s.last) w.self-is)
      | else-is_err w ↦ (ap (λ s. s.ascend) w.self-is, ap (λ s. s.last) w.self-is)
    ] in
    let goes : new.ascend ≡ true → (old.ascend ≡ true) × (is_above (option_map (λ t. t.now) old.last) c.args.name.now ≡ true) = elim c.if-self.branch [
      | then-self w ↦ λ now. (sym stays.0 ∙ w.if-self.true, ap (λ o. is_above (option_map (λ t. t.now) o) c.args.name.now) (sym stays.1) ∙ sym w.may_follow-self.ensures ∙ sym w.self-is ∙ now)
      | else-self w ↦ λ now. absurd (true≢false (sym now ∙ w.self-is ∙ w.if-self.false))
    ] in
    one_held placed (last_placed c.args.name.now d c.args.start) old new field h grows (ap (place c.args.name.now c.args.start) (sym long)) goes refl
