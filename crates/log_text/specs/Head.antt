-- What stands before the batches: the form of the log, the words of the silo that it was begun for, its number, and the sum of these.
use Rattle.std.specs.Prelude.{◌≡◌, ℕ, List, [], ◌∷◌, ◌++◌, length, take, flat_map, codes, decimal, Option, Some, None}
use Rattle.log_text.specs.Lines.{HasNoBreak, ended}
use Rattle.log_text.specs.Sums.{after, spelled}

-- `silo-log 1`, and its LF: the form
abbrev pub form_line : List ℕ
form_line = codes "silo-log 1\n"

-- what stands in the head before its number
abbrev pub head_start : List ℕ → List ℕ
head_start words = form_line ++ (words ++ codes "of ")

-- what stands in it before its sum
abbrev pub summed_head : List ℕ → List ℕ → List ℕ
summed_head words number = head_start words ++ (number ++ 32 ∷ [])

-- the form, the lines of the words, and `of NUMBER SUM`
abbrev pub head_text : List ℕ → List ℕ → List ℕ
head_text words number = summed_head words number ++ ended (spelled (after 0 (summed_head words number)))

-- the name of the log, with which each of its marks begins: the first eight digits of its number
abbrev pub name_of : List ℕ → List ℕ
name_of number = take 8 number

-- the sum before its first batch: that of the head
abbrev pub first_sum : List ℕ → List ℕ → ℕ
first_sum words number = after 0 (head_text words number)

-- sixteen bytes without LF
abbrev pub IsNumber : List ℕ → Type 0
IsNumber number = (length number ≡ 16) × HasNoBreak number

-- The number and the sum in what may be a head with these words, and what stands behind it; or the bytes have no such form.
abbrev pub ReadsHead : List ℕ → List ℕ → Option (List ℕ × List ℕ × List ℕ) → Type 0
ReadsHead words bytes (Some head) = IsNumber head.0 × HasNoBreak head.1 × (bytes ≡ summed_head words head.0 ++ (ended head.1 ++ head.2))
ReadsHead words bytes None = (number sum behind : List ℕ) → IsNumber number → HasNoBreak sum
    → bytes ≡ summed_head words number ++ (ended sum ++ behind) → ⊥

-- The number in the head of a log that was begun with these words, and what stands behind the head; or the bytes are no such log.
abbrev pub CutsHead : List ℕ → List ℕ → Option (List ℕ × List ℕ) → Type 0
CutsHead words bytes (Some cut) = IsNumber cut.0 × (bytes ≡ head_text words cut.0 ++ cut.1)
CutsHead words bytes None = (number behind : List ℕ) → IsNumber number → bytes ≡ head_text words number ++ behind → ⊥

-- Words of a silo: the logic of its kinds, how many sends are delivered behind a line, the age, the kinds with an age of their own, and
-- the tenants with their limits.
pub record Words : Type 0 where
  pub kinds : ℕ
  pub sends : ℕ
  pub age : ℕ
  pub ages : List (List ℕ × ℕ)
  pub tenants : List (List ℕ × (ℕ × ℕ))

-- `LABEL N`, and its LF
abbrev pub number_line : List ℕ → ℕ → List ℕ
number_line label n = label ++ (32 ∷ ended (decimal n))

-- `kind KIND AGE`
abbrev pub kind_line : List ℕ × ℕ → List ℕ
kind_line entry = codes "kind " ++ number_line entry.0 entry.1

-- `tenant TENANT ACT MAIL`
abbrev pub tenant_line : List ℕ × (ℕ × ℕ) → List ℕ
tenant_line entry = codes "tenant " ++ (entry.0 ++ (32 ∷ number_line (decimal entry.1.0) entry.1.1))

-- the lines of the words
abbrev pub words_text : Words → List ℕ
words_text w =
    number_line (codes "kinds") w.kinds
    ++ (number_line (codes "sends") w.sends
    ++ (number_line (codes "age") w.age
    ++ (flat_map kind_line w.ages ++ flat_map tenant_line w.tenants)))
