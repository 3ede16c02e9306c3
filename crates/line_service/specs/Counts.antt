-- How many lines, answers, refusals by code and steps there are.
use Rattle.std.specs.Prelude.{◌==◌, ◌++◌, ◌∷◌, ℕ, List, [], Ok, Err, Result, codes, decimal, filter, flat_map, if◌then◌else◌, length}
use Rattle.std.specs.Prelude.{map as map_list}
use Rattle.request_codec.specs.Tree.{Tree}
use Rattle.silo_event.specs.Fault.{fault_code}
use Rattle.silo_event.specs.declared.fault.Fault.{Fault}
use Rattle.silo_event.specs.declared.reply.Reply.{Reply}
use Rattle.line_parser.specs.declared.line.LineRefusal.{LineRefusal}
use Rattle.line_text.specs.Text.{fault_of}

-- the code of a reply: 0 if it is an answer
abbrev pub code_of : Result Tree Fault → ℕ
code_of (Ok value) = 0
code_of (Err why) = fault_code why

-- the code of each refusal of a line, and of each reply
abbrev pub codes_of : List LineRefusal → List Reply → List ℕ
codes_of refusals replies = map_list (λ r. fault_code (fault_of r)) refusals ++ map_list (λ (r : Reply). code_of r.outcome) replies

-- how often the code is there
abbrev pub count_of : ℕ → List ℕ → ℕ
count_of code list = length (filter (λ c. c == code) list)

-- the line that tells how many there are of what the label says
abbrev pub count_line : List ℕ → ℕ → List ℕ
count_line label count = codes "silo: " ++ (label ++ (codes ": " ++ (decimal count ++ codes "\n")))

-- the line that tells how many refusals have this code, if some have it
abbrev pub refusals_line : ℕ → ℕ → List ℕ
refusals_line code count = if count == 0 then [] else codes "silo: refusals " ++ (decimal code ++ (codes ": " ++ (decimal count ++ codes "\n")))

-- the codes of refusals, ascending
unfoldable pub all_codes : List ℕ
all_codes = 10 ∷ 11 ∷ 12 ∷ 13 ∷ 14 ∷ 20 ∷ 21 ∷ 22 ∷ 40 ∷ 41 ∷ 42 ∷ 43 ∷ 53 ∷ 54 ∷ 56 ∷ 60 ∷ 61 ∷ 62 ∷ 63 ∷ 70 ∷ []

-- the lines of refusals
abbrev pub refusals_lines : List ℕ → List ℕ → List ℕ
refusals_lines list all = flat_map (λ code. refusals_line code (count_of code list)) all

-- how many lines, answers, refusals and steps
abbrev pub counts_text : ℕ → List ℕ → ℕ → List ℕ
counts_text lines list steps = count_line (codes "lines") lines ++ (count_line (codes "answers") (count_of 0 list)
    ++ (refusals_lines list all_codes ++ count_line (codes "steps") steps))
