use Rattle.std.proofs.Common.{◌≡◌, ◌++◌, ap, string_bytes, ◌∙◌}
use Rattle.std.proofs.lemmas.Result.{on_ok_weaker}
use Rattle.rows_command.specs.Listing.{active_end, active_start, times_text}
use Rattle.rows_command.proofs.Puts.{put_three}
use Rattle.rows_command.proofs.lines.push_active.Goals as goal

pub returns : goal.returns
returns c =
    let parts = c.args.parts.now in
    let front = string_bytes c.push_start.new.text in
    let times : string_bytes c.push_times.new.text ≡ front ++ times_text parts.last parts.until =
    c.in_ok-push_times.ensures ∙ ap (λ n. front ++ times_text n parts.until) c.get.ensures.value in
    on_ok_weaker c.push_end.result (put_three (string_bytes c.args.text.now) (active_start c.args.grain.now parts.version) (times_text parts.last parts.until) (active_end parts.state) _ _ _ c.in_ok-push_start.ensures times) c.push_end.ensures
