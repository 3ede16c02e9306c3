-- The moments of a commit: whatever a crash leaves, what was told is the beginning of what the log answers.
use Rattle.std.proofs.Common.{◌≡◌, ◌∙◌, List, [], ◌∷◌, ◌++◌, append_assoc, refl, ap, sym, subst, ℕ, Option, Some, inl, inr}
use Rattle.std.specs.Prelude.{take, drop}
use Rattle.std.proofs.lemmas.List.{append-nil, take-append-drop}
use Rattle.log_text.specs.Lines.{IsPrefixOf, ended}
use Rattle.log_text.specs.Sums.{own_sums, spelled}
use Rattle.log_text.specs.Batches.{AreBatches, Batch, IsBatch, batch_text, last_sum, lines_text, log_text, mark_behind, sum_behind, sum_of}
use Rattle.log_text.specs.Reading.{lines_of, recovered}
use Rattle.log_text.proofs.Marks.{length-spelled}
use Rattle.log_text.proofs.Passes.{log_append}
use Rattle.log_text.proofs.Prefixes.{prefixes_read}
use Rattle.log_text.proofs.Spelled.{spells_plain}
use Rattle.log_text.proofs.Written.{batch_on, written_reads, written_whole}
use Rattle.log_host.proofs.Known.{known}
use Rattle.log_host.specs.Acts.{Act, Adds, AddsPart, Always, Held, TellsPart, does, held_from, synced, told, wrote}
use Rattle.log_host.specs.Lasting.{Grows, IsAsked, IsSettled, Lasts, LastsFrom, Log, SettlesFrom, answered, lines_in}

-- ---- lists

pub prefix_trans : (xs ys zs : List ℕ) → IsPrefixOf xs ys → IsPrefixOf ys zs → IsPrefixOf xs zs
prefix_trans xs ys zs p q = (p.0 ++ q.0, sym (append_assoc xs p.0 q.0) ∙ ap (λ l. l ++ q.0) p.1 ∙ q.1)

pub some_of : (k : ℕ) (xs : List ℕ) → IsPrefixOf (take k xs) xs
some_of k xs = (drop k xs, take-append-drop k xs)

pub all_of : (xs : List ℕ) → IsPrefixOf xs xs
all_of xs = ([], append-nil xs)

pub held_on : (h : Held) (old more : List Act) → held_from h (old ++ more) ≡ held_from (held_from h old) more
held_on h [] more = refl
held_on h (a ∷ old) more = held_on (does h a) old more

pub lines_append : (batches others : List Batch) → lines_of (batches ++ others) ≡ lines_of batches ++ lines_of others
lines_append [] others = refl
lines_append (batch ∷ batches) others = ap (λ l. batch.lines ++ l) (lines_append batches others) ∙ sym (append_assoc batch.lines (lines_of batches) (lines_of others))

pub are_append : (batches : List Batch) (batch : Batch) → AreBatches batches → IsBatch batch → AreBatches (batches ++ batch ∷ [])
are_append [] batch are is = (is, tt)
are_append (b ∷ batches) batch are is = (are.0, are_append batches batch are.1 is)

last_append : (name : List ℕ) (sum : ℕ) (batches : List Batch) (batch : Batch)
    → last_sum own_sums name sum (batches ++ batch ∷ []) ≡ sum_of own_sums name (last_sum own_sums name sum batches) batch
last_append name sum [] batch = refl
last_append name sum (b ∷ batches) batch = last_append name (sum_of own_sums name sum b) batches batch

-- ---- what a log answers

-- a longer log answers more
pub answered_grows : (log : Log) → Grows log.answers → (xs more : List ℕ) → IsPrefixOf (answered log xs) (answered log (xs ++ more))
answered_grows log grows xs more =
    let read = prefixes_read own_sums log.name log.first xs more in
    let first = recovered own_sums log.name log.first xs in
    let on = grows (lines_of first) (lines_of read.0) in
    (on.0, on.1 ∙ ap log.answers (sym (lines_append first read.0) ∙ ap lines_of read.1))

-- what was told is the beginning of what the log on the disk answers: so of every log that a crash leaves
lasts_by : (log : Log) → Grows log.answers → (h : Held) → IsPrefixOf h.said (answered log h.safe) → Lasts log h
lasts_by log grows h told_of left may =
    prefix_trans h.said (answered log h.safe) (answered log left) told_of
    (subst (λ l. IsPrefixOf (answered log h.safe) (answered log l)) may.1 (answered_grows log grows h.safe may.0))

-- a settled log lasts
pub settled_lasts : (log : Log) → Grows log.answers → (h : Held) (sum : ℕ) → IsSettled log h sum → Lasts log h
settled_lasts log grows h sum settled =
    lasts_by log grows h ([], append-nil h.said ∙ settled.said ∙ ap (answered log) (sym settled.safe))

-- ---- a batch that is asked of a settled log

module _ (log : Log) (name : List ℕ) (h : Held) (sum : ℕ) (batch text : List ℕ) (a : IsAsked log name h sum batch text) (all : ℕ) where
  -- its text
  abbrev pub bytes : List ℕ
  bytes = batch_text own_sums log.name sum (record { lines = a.lines; told = spelled all })

  pub is_batch : IsBatch (record { lines = a.lines; told = spelled all })
  is_batch = (a.are, (length-spelled all, spells_plain all))

  pub read_then : recovered own_sums log.name log.first (h.file ++ bytes) ≡ a.settled.batches ++ record { lines = a.lines; told = spelled all } ∷ []
  read_then =
      let b : Batch = record { lines = a.lines; told = spelled all } in
      ap (λ l. recovered own_sums log.name log.first (l ++ bytes)) a.settled.file
      ∙ written_reads own_sums log.name spells_plain a.plain log.first a.settled.batches bytes a.settled.are
      ∙ ap (λ s. a.settled.batches ++ recovered own_sums log.name s bytes) (sym a.settled.behind)
      ∙ ap (λ l. a.settled.batches ++ recovered own_sums log.name sum l) (sym (append-nil bytes))
      ∙ ap (λ l. a.settled.batches ++ l) (batch_on own_sums log.name spells_plain a.plain sum b [] is_batch)

  pub read_now : recovered own_sums log.name log.first h.file ≡ a.settled.batches
  read_now =
      ap (recovered own_sums log.name log.first) a.settled.file
      ∙ written_whole own_sums log.name spells_plain a.plain log.first a.settled.batches a.settled.are

  -- the lines of the log with it, and what they answer
  lines_then : lines_in log (h.file ++ bytes) ≡ lines_in log h.file ++ a.lines
  lines_then =
      let b : Batch = record { lines = a.lines; told = spelled all } in
      ap lines_of read_then
      ∙ lines_append a.settled.batches (b ∷ [])
      ∙ ap (λ l. lines_of a.settled.batches ++ l) (append-nil a.lines)
      ∙ ap (λ bs. lines_of bs ++ a.lines) (sym read_now)

  answers_then : answered log (h.file ++ bytes) ≡ h.said ++ text
  answers_then = ap log.answers lines_then ∙ a.answer

  was_told : IsPrefixOf h.said (answered log h.safe)
  was_told = ([], append-nil h.said ∙ a.settled.said ∙ ap (answered log) (sym a.settled.safe))

  now_told : (some : List ℕ) → IsPrefixOf some text → IsPrefixOf (h.said ++ some) (answered log (h.file ++ bytes))
  now_told some p = (p.0, append_assoc h.said some p.0 ∙ ap (λ l. h.said ++ l) p.1 ∙ sym answers_then)

  none_told : IsPrefixOf h.said (answered log (h.file ++ bytes))
  none_told = (text, sym answers_then)

  pub lasts_now : Lasts log h
  lasts_now = lasts_by log a.grows h was_told

  in_write : (some : List ℕ) → Always (Lasts log) h (wrote some ∷ [])
  in_write some = (lasts_now, lasts_by log a.grows (does h (wrote some)) was_told)

  in_tell : (some : List ℕ) → IsPrefixOf some text → Always (Lasts log) h (wrote bytes ∷ synced ∷ told some ∷ [])
  in_tell some p = (
    lasts_now,
    (
      lasts_by log a.grows (does h (wrote bytes)) was_told,
      (
        lasts_by log a.grows (does (does h (wrote bytes)) synced) none_told,
        lasts_by log a.grows (does (does (does h (wrote bytes)) synced) (told some)) (now_told some p),
      ),
    ),
  )

  in_sync : Always (Lasts log) h (wrote bytes ∷ synced ∷ [])
  in_sync = (
    lasts_now,
    (
      lasts_by log a.grows (does h (wrote bytes)) was_told,
      lasts_by log a.grows (does (does h (wrote bytes)) synced) none_told,
    ),
  )

  -- ---- how far it came

  pub nothing_done : (old : List Act) (new : Option (List Act)) → new ≡ Some old → LastsFrom log h old new
  nothing_done old new is = record { more = []; acts = is ∙ ap Some (sym (append-nil old)); always = lasts_now }

  pub partly_written : (old : List Act) (new : Option (List Act)) (some : List ℕ) → AddsPart (Some old) new wrote some → LastsFrom log h old new
  partly_written old new some (inl none) = record { more = []; acts = none; always = lasts_now }
  partly_written old new some (inr part) = record { more = wrote (take part.0 some) ∷ []; acts = part.1; always = in_write (take part.0 some) }

  pub written : (old : List Act) (mid new : Option (List Act)) (some : List ℕ) → mid ≡ Some (old ++ wrote some ∷ []) → Adds mid new [] → LastsFrom log h old new
  written old mid new some is adds =
      record {
        more = wrote some ∷ [];
        acts = subst (λ o. Adds o new []) is adds ∙ ap Some (append-nil (old ++ wrote some ∷ []));
        always = in_write some;
      }

  two : (old : List Act) (x y : Act) (more : List Act) → ((old ++ x ∷ []) ++ y ∷ []) ++ more ≡ old ++ x ∷ y ∷ more
  two old x y more = append_assoc (old ++ x ∷ []) (y ∷ []) more ∙ append_assoc old (x ∷ []) (y ∷ more)

  pub partly_told : (old : List Act) (new : Option (List Act)) (before after : Option (List ℕ))
      → TellsPart (Some ((old ++ wrote bytes ∷ []) ++ synced ∷ [])) new before after text → LastsFrom log h old new
  partly_told old new before after (inl none) =
      record { more = wrote bytes ∷ synced ∷ []; acts = none.0 ∙ ap Some (two old (wrote bytes) synced []); always = in_sync }
  partly_told old new before after (inr part) =
      record {
        more = wrote bytes ∷ synced ∷ told (take part.0 text) ∷ [];
        acts = part.1 ∙ ap Some (two old (wrote bytes) synced (told (take part.0 text) ∷ []));
        always = in_tell (take part.0 text) (some_of part.0 text);
      }

  pub all_told : (old : List Act) (new : Option (List Act)) → new ≡ Some (((old ++ wrote bytes ∷ []) ++ synced ∷ []) ++ told text ∷ []) → LastsFrom log h old new
  all_told old new is =
      record {
        more = wrote bytes ∷ synced ∷ told text ∷ [];
        acts = is ∙ ap Some (two old (wrote bytes) synced (told text ∷ []));
        always = in_tell text (all_of text);
      }

  settled_then : IsSettled log (held_from h (wrote bytes ∷ synced ∷ told text ∷ [])) (sum_of own_sums log.name sum (record { lines = a.lines; told = spelled all }))
  settled_then =
      let b : Batch = record { lines = a.lines; told = spelled all } in
      record {
        batches = a.settled.batches ++ b ∷ [];
        are = are_append a.settled.batches b a.settled.are is_batch;
        file =
            ap (λ l. l ++ bytes) a.settled.file
            ∙ ap (λ s. log_text own_sums log.name log.first a.settled.batches ++ batch_text own_sums log.name s b) a.settled.behind
            ∙ ap (λ l. log_text own_sums log.name log.first a.settled.batches ++ l) (sym (append-nil (batch_text own_sums log.name (last_sum own_sums log.name log.first a.settled.batches) b)))
            ∙ sym (log_append own_sums log.name log.first a.settled.batches (b ∷ []));
        behind = ap (λ s. sum_of own_sums log.name s b) a.settled.behind ∙ sym (last_append log.name log.first a.settled.batches b);
        safe = refl;
        said = sym answers_then;
      }

  pub settles : (old : List Act) (new : Option (List Act))
      → new ≡ Some (((old ++ wrote bytes ∷ []) ++ synced ∷ []) ++ told text ∷ [])
      → SettlesFrom log h sum a.lines old new (sum_of own_sums log.name sum (record { lines = a.lines; told = spelled all })) all
  settles old new is = record {
    more = wrote bytes ∷ synced ∷ told text ∷ [];
    acts = is ∙ ap Some (two old (wrote bytes) synced (told text ∷ []));
    always = in_tell text (all_of text);
    settled = settled_then;
    file = refl;
    lines = lines_then;
  }

  -- ---- what the writer made

  pub written_bytes : (put : List ℕ) → put ≡ batch ++ ended (mark_behind own_sums name sum batch (spelled all)) → put ≡ bytes
  written_bytes put is =
      is
      ∙ ap (λ l. l ++ ended (mark_behind own_sums name sum l (spelled all))) a.bytes
      ∙ ap (λ n. lines_text a.lines ++ ended (mark_behind own_sums n sum (lines_text a.lines) (spelled all))) (sym a.same)

  pub written_sum : (next : ℕ) → next ≡ sum_behind own_sums name sum batch (spelled all)
      → next ≡ sum_of own_sums log.name sum (record { lines = a.lines; told = spelled all })
  written_sum next is =
      is
      ∙ ap (λ l. sum_behind own_sums name sum l (spelled all)) a.bytes
      ∙ ap (λ n. sum_behind own_sums n sum (lines_text a.lines) (spelled all)) (sym a.same)

  -- the acts behind the sync, if these bytes were written
  pub put_and_synced : (start mid new : Option (List Act)) (acts : List Act) (put : List ℕ) → start ≡ Some acts
      → put ≡ batch ++ ended (mark_behind own_sums name sum batch (spelled all))
      → Adds start mid (wrote put ∷ []) → Adds mid new (synced ∷ []) → new ≡ Some ((acts ++ wrote bytes ∷ []) ++ synced ∷ [])
  put_and_synced start mid new acts put is made first second =
      known mid new (acts ++ wrote bytes ∷ []) (synced ∷ [])
      (known start mid acts (wrote put ∷ []) is first ∙ ap (λ l. Some (acts ++ wrote l ∷ [])) (written_bytes put made)) second
