use Rattle.std.proofs.Common.{◌≡◌, ◌+◌, ◌∷◌, ◌++◌, ap, subst, ◌∙◌, arith, slice_range}
use Rattle.line_text.specs.Reading.{HasNoBreak}
use Rattle.line_text.proofs.Pieces.{at_break_in, break_within, front_in}
use Rattle.line_text.proofs.buffer.Buffer.take_whole.Goals as goal

pub returns-clause-place : goal.returns-clause-place
returns-clause-place c =
    let s = c.args.self.now in
    let same = ap (λ l. slice_range l s.start s.end) c.deref.ensures.value in
    let within = break_within _ s.bytes.items s.start s.end c.in_ok-at.at same c.in_ok-at.ensures.some in
    (omega arith, omega (arith, within, s.in_bounds))

pub returns-clause-some : goal.returns-clause-some
returns-clause-some c =
    let s = c.args.self.now in
    let at = c.in_ok-at.at in
    let r = slice_range c.deref.result.now s.start s.end in
    let same = ap (λ l. slice_range l s.start s.end) c.deref.ensures.value in
    let within = break_within _ s.bytes.items s.start s.end at same c.in_ok-at.ensures.some in
    let front = front_in r s.bytes.items s.start s.end at same within (omega (arith, s.in_bounds, s.bytes.ok.0)) in
    let next : s.start + (at + 1) ≡ s.start + at + 1 = omega arith in
    at_break_in r s.bytes.items s.start s.end at same c.in_ok-at.ensures.some c.in_ok-at.ensures.is
    ∙ (λ i. front i ++ 10 ∷ slice_range s.bytes.items (next i) s.end)

pub returns-clause-one : goal.returns-clause-one
returns-clause-one c =
    let s = c.args.self.now in
    let at = c.in_ok-at.at in
    let r = slice_range c.deref.result.now s.start s.end in
    let same = ap (λ l. slice_range l s.start s.end) c.deref.ensures.value in
    let within = break_within _ s.bytes.items s.start s.end at same c.in_ok-at.ensures.some in
    subst HasNoBreak (front_in r s.bytes.items s.start s.end at same within (omega (arith, s.in_bounds, s.bytes.ok.0))) c.in_ok-at.ensures.first
