-- Laws of a log's bytes. The sums may be any.
use Rattle.std.specs.Prelude.{◌≡◌, ◌≢◌, ℕ, ◌<◌, ◌^◌, true, List, [], ◌++◌, length, Some, None, ◌⊎◌}
use Rattle.log_text.specs.Lines.{HasNoBreak, IsPrefixOf, whole_lines}
use Rattle.log_text.specs.Sums.{SpellsPlain, Sums, own_sums}
use Rattle.log_text.specs.Batches.{AreBatches, Batch, IsBatch, batch_text, last_sum, lines_text, log_text}
use Rattle.log_text.specs.Reading.{asked_first, fault_in, left_in, marks, may_end, recovered}

-- What is read of the first bytes of a log are the first batches of what is read of all.
abbrev pub PrefixesRead : Type 0
PrefixesRead = (sums : Sums) (name : List ℕ) (sum : ℕ) (bytes more : List ℕ)
    → IsPrefixOf (recovered sums name sum bytes) (recovered sums name sum (bytes ++ more))

-- What was written is read, whatever stands behind it, and then what is read of that.
abbrev pub WrittenReads : Type 0
WrittenReads = (sums : Sums) (name : List ℕ) → SpellsPlain sums → HasNoBreak name
    → (sum : ℕ) (batches : List Batch) (tail : List ℕ) → AreBatches batches
    → recovered sums name sum (log_text sums name sum batches ++ tail)
    ≡ batches ++ recovered sums name (last_sum sums name sum batches) tail

-- What is read stands there, each byte of it, with the sums of its lines: no batch is made up.
abbrev pub ReadStands : Type 0
ReadStands = (sums : Sums) (name : List ℕ) (sum : ℕ) (bytes : List ℕ)
    → log_text sums name sum (recovered sums name sum bytes) ++ left_in sums name sum bytes ≡ bytes

-- The first bytes of what was written are not refused, wherever they end.
abbrev pub PrefixesPass : Type 0
PrefixesPass = (sums : Sums) (name : List ℕ) → SpellsPlain sums → HasNoBreak name
    → (sum : ℕ) (batches : List Batch) (bytes more : List ℕ) → AreBatches batches → bytes ++ more ≡ log_text sums name sum batches
    → fault_in sums name (left_in sums name sum bytes) ≡ None

-- Nor is what was written with something behind it that has no mark, or one in its place: a crash in the middle of a batch leaves no more.
abbrev pub EndsPass : Type 0
EndsPass = (sums : Sums) (name : List ℕ) → SpellsPlain sums → HasNoBreak name
    → (sum : ℕ) (batches : List Batch) (tail : List ℕ) → AreBatches batches → may_end sums name (marks name 0 (whole_lines tail)) ≡ true
    → fault_in sums name (left_in sums name sum (log_text sums name sum batches ++ tail)) ≡ None

-- Where the text of a batch stands in a log that isn't refused, behind whatever sum, it stands in what is read, or begins where the
-- reading ends: what is cut off has no batch behind something else.
abbrev pub BatchesKept : Type 0
BatchesKept = (name : List ℕ) → HasNoBreak name
    → (sum other : ℕ) (batch : Batch) (front rest : List ℕ) → IsBatch batch → batch.lines ≢ []
    → (bytes : List ℕ) → bytes ≡ front ++ (batch_text own_sums name other batch ++ rest) → length bytes < 2 ^ 64
    → (left : List ℕ) → left ≡ left_in own_sums name sum bytes → fault_in own_sums name left ≡ None
    → ((before : List ℕ) × (before ++ left ≡ rest)) ⊎ (left ≡ batch_text own_sums name other batch ++ rest)

-- So a batch behind what was written and something else, without a mark, is refused.
abbrev pub LostRefused : Type 0
LostRefused = (name : List ℕ) → HasNoBreak name
    → (sum other : ℕ) (batches : List Batch) (batch : Batch) (junk rest : List ℕ)
    → AreBatches batches → IsBatch batch → batch.lines ≢ []
    → junk ≢ [] → marks name 0 (whole_lines (junk ++ lines_text batch.lines)) ≡ [] → length (junk ++ lines_text batch.lines) < 2 ^ 64
    → (left : List ℕ) → left ≡ junk ++ (batch_text own_sums name other batch ++ rest)
    → fault_in own_sums name (left_in own_sums name sum (log_text own_sums name sum batches ++ left))
    ≡ Some (asked_first (whole_lines left))

-- No two lists of batches have one text.
abbrev pub OneText : Type 0
OneText = (sums : Sums) (name : List ℕ) → SpellsPlain sums → HasNoBreak name
    → (sum : ℕ) (batches others : List Batch) → AreBatches batches → AreBatches others
    → log_text sums name sum batches ≡ log_text sums name sum others → batches ≡ others

-- What is read are batches, as what is written: lines without LF, and sixteen bytes of what was told.
abbrev pub ReadsBatches : Type 0
ReadsBatches = (name : List ℕ) (sum : ℕ) (bytes : List ℕ) → AreBatches (recovered own_sums name sum bytes)
