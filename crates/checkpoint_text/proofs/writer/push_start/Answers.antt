use Rattle.std.proofs.Common.{◌≡◌, ◌++◌, codes, decimal, string_bytes, subst}
use Rattle.std.specs.Prelude.{OnOk}
use Rattle.std.proofs.lemmas.Result.{on_ok_weaker}
use Rattle.checkpoint_text.specs.Text.{named}
use Rattle.checkpoint_text.proofs.Put.{put_four}
use Rattle.checkpoint_text.proofs.writer.push_start.Goals as goal

pub returns : goal.returns
returns c =
    let k = c.args.parts.now in
    let clock : OnOk c.push_number-2.result (string_bytes c.push_number-2.new.text ≡ string_bytes c.push_number.new.text ++ named (codes "clock") (decimal k.kept.now.clock)) =
    subst (λ n. OnOk c.push_number-2.result (string_bytes c.push_number-2.new.text ≡ string_bytes c.push_number.new.text ++ named (codes "clock") (decimal n))) c.get.ensures.value c.push_number-2.ensures in
    on_ok_weaker c.push_number-2.result (put_four (string_bytes c.args.text.now) (named (codes "silo-checkpoint") (codes "1")) (named (codes "follows") k.follows.now) (named (codes "sends") (decimal k.sends)) (named (codes "clock") (decimal k.kept.now.clock)) _ _ _ _ c.in_ok-push_text.ensures c.in_ok-push_text-2.ensures c.in_ok-push_number.ensures) clock
