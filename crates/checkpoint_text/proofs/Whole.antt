-- A checkpoint's text is read back as the checkpoint.
use Rattle.std.proofs.Common.{◌≡◌, ℕ, ◌-◌, List, [], ◌∷◌, ◌++◌, length, take, Some, refl, ap, sym, ◌∙◌, arith, append_assoc}
use Rattle.std.specs.Prelude.{codes, decimal}
use Rattle.std.proofs.lemmas.List.{length-append}
use Rattle.std.proofs.lemmas.Option.{same_Some}
use Rattle.std.proofs.Math.Seq.{take-append_seam}
use Rattle.journal_text.proofs.FieldsBack.{plain_field}
use Rattle.log_text.specs.Sums.{after, spelled}
use Rattle.log_text.proofs.Marks.{length-spelled}
use Rattle.checkpoint_text.specs.Rules.{IsAccount, IsCheckpoint, IsGrain}
use Rattle.checkpoint_text.specs.Text.{Checkpoint, account_text, accounts_text, body_text, checkpoint_text, grain_line, grains_text, named, start_text, sum_line}
use Rattle.checkpoint_text.specs.inside.Reading.{account_at, body_at, body_of, grain_at, head_at}
use Rattle.checkpoint_text.proofs.Cuts.{named_back}
use Rattle.checkpoint_text.proofs.Back.{account_back, counted_back, grain_back, moment_back, number_back}

four_parted : (one two three four rest : List ℕ) → (one ++ two ++ three ++ four) ++ rest ≡ one ++ (two ++ (three ++ (four ++ rest)))
four_parted one two three four rest =
    append_assoc (one ++ two ++ three) four rest
    ∙ append_assoc (one ++ two) three (four ++ rest)
    ∙ append_assoc one two (three ++ (four ++ rest))

-- ---- the body

module _ (c : Checkpoint) (is : IsCheckpoint c) where
  head_back : (rest : List ℕ) → head_at (start_text c ++ rest) ≡ Some ((c.follows, c.sends), named (codes "clock") (decimal c.clock) ++ rest)
  head_back rest =
      let behind = named (codes "clock") (decimal c.clock) ++ rest in
      let sends = named (codes "sends") (decimal c.sends) ++ behind in
      let follows = named (codes "follows") c.follows ++ sends in
      ap head_at (four_parted (named (codes "silo-checkpoint") (codes "1")) (named (codes "follows") c.follows) (named (codes "sends") (decimal c.sends)) (named (codes "clock") (decimal c.clock)) rest)
      ∙ rw (named_back (codes "silo-checkpoint") (codes "1") follows refl refl, named_back (codes "follows") c.follows sends refl (plain_field c.follows is.follows), number_back (codes "sends") c.sends behind refl is.sends) refl

  pub body_back : body_at (body_text c) ≡ Some c
  body_back =
      let grains = grains_text c.grains ++ c.journal in
      let accounts = accounts_text c.accounts ++ grains in
      ap body_at (append_assoc (start_text c ++ accounts_text c.accounts) (grains_text c.grains) c.journal ∙ append_assoc (start_text c) (accounts_text c.accounts) grains)
      ∙ rw (
        head_back accounts,
        moment_back (codes "clock") c.clock accounts refl is.clock,
        counted_back (codes "accounts") account_at account_text IsAccount account_back c.accounts grains refl is.fewer.0 is.accounts,
        counted_back (codes "grains") grain_at grain_line IsGrain grain_back c.grains c.journal refl is.fewer.1 is.grains,
      ) refl

-- ---- the last line

length_sum : (body : List ℕ) → length (sum_line body) ≡ 21
unfolding named
length_sum body = omega (arith, length-append (codes "sum" ++ 32 ∷ spelled (after 0 body)) (10 ∷ []), length-append (codes "sum") (32 ∷ spelled (after 0 body)), length-spelled (after 0 body))

pub body_is : (c : Checkpoint) → body_of (checkpoint_text c) ≡ body_text c
body_is c =
    let body = body_text c in
    let all_but : length (body ++ sum_line body) - 21 ≡ length body = omega (arith, length-append body (sum_line body), length_sum body) in
    ap (λ n. take n (body ++ sum_line body)) all_but
    ∙ take-append_seam body (sum_line body)

-- the text of a checkpoint is read as it
pub read_back : (c : Checkpoint) → IsCheckpoint c → body_at (body_of (checkpoint_text c)) ≡ Some c
read_back c is = ap body_at (body_is c) ∙ body_back c is

pub one_text : (c d : Checkpoint) → IsCheckpoint c → IsCheckpoint d → checkpoint_text c ≡ checkpoint_text d → c ≡ d
one_text c d is also same = same_Some c d (sym (read_back c is) ∙ ap (λ t. body_at (body_of t)) same ∙ read_back d also)
