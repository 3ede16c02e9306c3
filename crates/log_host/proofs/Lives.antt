-- Lives one after another, and acts one after another.
use Rattle.std.proofs.Common.{◌∙◌, append-nil, sym, List, [], ◌∷◌, ◌++◌, append_assoc, refl, ap, ℕ, Some}
use Rattle.log_text.specs.Lines.{HasNoBreak, IsPrefixOf}
use Rattle.log_text.specs.Sums.{own_sums}
use Rattle.log_text.specs.Reading.{lines_of, recovered}
use Rattle.log_text.proofs.Prefixes.{prefixes_read}
use Rattle.log_text.proofs.Read.{reads_batches}
use Rattle.log_text.proofs.Spelled.{spells_plain}
use Rattle.log_text.proofs.Written.{written_whole}
use Rattle.log_host.specs.Acts.{Act, Always, Held, MayLeave, does, held_from, synced, told, wrote}
use Rattle.log_host.specs.Lasting.{Lasts, Log, answered, lines_in}
use Rattle.log_host.specs.Laws.{AreLives, LastsOn, Life, LivesLast, end_of, left_by, restarted}
use Rattle.log_host.proofs.Moments.{all_of, lines_append, prefix_trans}

pub at_end : (P : Held → Type 0) (h : Held) (acts : List Act) → Always P h acts → P (held_from h acts)
at_end P h [] always = always
at_end P h (act ∷ acts) always = at_end P (does h act) acts always.1

one_told : (h : Held) (act : Act) → IsPrefixOf h.said (does h act).said
one_told h (wrote bytes) = all_of h.said
one_told h synced = all_of h.said
one_told h (told bytes) = (bytes, refl)

-- nothing that was told is taken back
told_grows : (h : Held) (acts : List Act) → IsPrefixOf h.said (held_from h acts).said
told_grows h [] = all_of h.said
told_grows h (act ∷ acts) =
    prefix_trans h.said (does h act).said (held_from (does h act) acts).said (one_told h act) (told_grows (does h act) acts)

-- a log that is left answers more than the one before
leads_on : (log : Log) (left : List ℕ) (lives : List Life) → AreLives log left lives → IsPrefixOf (answered log left) (answered log (left_by left lives))
leads_on log left [] are = all_of (answered log left)
leads_on log left (life ∷ lives) are =
    let end = end_of log left life in
    let told_of : IsPrefixOf end.said (answered log life.left) = at_end (Lasts log) (restarted log left) life.acts are.0 life.left are.1 in
    let on : IsPrefixOf (answered log left) (answered log life.left) =
    prefix_trans (answered log left) end.said (answered log life.left) (told_grows (restarted log left) life.acts) told_of in
    prefix_trans (answered log left) (answered log life.left) (answered log (left_by life.left lives)) on (leads_on log life.left lives are.2)

pub lives_last : LivesLast
lives_last log left [] are = tt
lives_last log left (life ∷ lives) are =
    let end = end_of log left life in (
      prefix_trans end.said (answered log life.left) (answered log (left_by life.left lives))
          (at_end (Lasts log) (restarted log left) life.acts are.0 life.left are.1) (leads_on log life.left lives are.2),
      lives_last log life.left lives are.2,
    )

pub always_append : (P : Held → Type 0) (h : Held) (xs ys : List Act) → Always P h xs → Always P (held_from h xs) ys → Always P h (xs ++ ys)
always_append P h [] ys first then' = then'
always_append P h (x ∷ xs) ys first then' = (first.0, always_append P (does h x) xs ys first.1 then')

pub lasts_on : LastsOn
lasts_on log h old more new first behind = record {
  more = more ++ behind.more;
  acts = behind.acts ∙ ap Some (append_assoc old more behind.more);
  always = always_append (Lasts log) h more behind.more first behind.always;
}

-- ---- the lines of a log that is left are the first of those of a log that is left later

-- what is on the disk stays there, and in the file
record Stays (kept : List ℕ) (h : Held) : Type 0 where
  pub safe : IsPrefixOf kept h.safe
  pub file : IsPrefixOf kept h.file

one_stays : (kept : List ℕ) (h : Held) (act : Act) → Stays kept h → Stays kept (does h act)
one_stays kept h (wrote bytes) s = record {
  safe = s.safe;
  file = (s.file.0 ++ bytes, sym (append_assoc kept s.file.0 bytes) ∙ ap (λ l. l ++ bytes) s.file.1);
}
one_stays kept h synced s = record { safe = s.file; file = s.file }
one_stays kept h (told bytes) s = record { safe = s.safe; file = s.file }

all_stays : (kept : List ℕ) (h : Held) (acts : List Act) → Stays kept h → Stays kept (held_from h acts)
all_stays kept h [] s = s
all_stays kept h (act ∷ acts) s = all_stays kept (does h act) acts (one_stays kept h act s)

kept_then : (log : Log) (left : List ℕ) (life : Life) → MayLeave (end_of log left life) life.left → IsPrefixOf (restarted log left).file life.left
kept_then log left life may =
    let kept = (restarted log left).file in
    let s = all_stays kept (restarted log left) life.acts (record { safe = all_of kept; file = all_of kept }) in
    prefix_trans kept (end_of log left life).safe life.left s.safe may

lines_trans : (xs ys zs : List (List ℕ)) → IsPrefixOf xs ys → IsPrefixOf ys zs → IsPrefixOf xs zs
lines_trans xs ys zs p q = (p.0 ++ q.0, sym (append_assoc xs p.0 q.0) ∙ ap (λ l. l ++ q.0) p.1 ∙ q.1)

-- of a log whose name has no LF
lines_on : (log : Log) (left : List ℕ) (life : Life) → HasNoBreak log.name → MayLeave (end_of log left life) life.left
    → IsPrefixOf (lines_in log left) (lines_in log life.left)
lines_on log left life plain may =
    let kept = (restarted log left).file in
    let on = kept_then log left life may in
    let batches = recovered own_sums log.name log.first left in
    let read = prefixes_read own_sums log.name log.first kept on.0 in
    let same = written_whole own_sums log.name spells_plain plain log.first batches (reads_batches log.name log.first left) in (
      lines_of read.0,
      ap (λ bs. lines_of bs ++ lines_of read.0) (sym same) ∙ sym (lines_append (recovered own_sums log.name log.first kept) read.0) ∙ ap lines_of read.1
          ∙ ap (lines_in log) on.1,
    )

pub lines_stay : (log : Log) (left : List ℕ) (lives : List Life) → HasNoBreak log.name → AreLives log left lives
    → IsPrefixOf (lines_in log left) (lines_in log (left_by left lives))
lines_stay log left [] plain are = ([], append-nil (lines_in log left))
lines_stay log left (life ∷ lives) plain are =
    lines_trans (lines_in log left) (lines_in log life.left) (lines_in log (left_by life.left lives)) (lines_on log left life plain are.1) (lines_stay log life.left lives plain are.2)
