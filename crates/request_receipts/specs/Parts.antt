-- What is kept, in the parts that a checkpoint has.
use Rattle.std.specs.Prelude.{ℕ, List, map, string_bytes, Option, Some, None}
use Rattle.std.specs.FinMap as finite
use Rattle.std.specs.declared.alloc.Global.{Global}
use Rattle.std.specs.declared.string.String.{String}
use Rattle.request_receipts.specs.Receipts.{Caller, Receipts, Receipt as Kept}
use Rattle.request_receipts.specs.declared.caller.Receipt.{Receipt}

abbrev pub receipt_of : Receipt → Kept
receipt_of receipt = (receipt.number, receipt.line.items)

-- the receipts, as they are seen
abbrev pub all_of : List Receipt → List Kept
all_of receipts = map receipt_of receipts

-- callers, each by its name's bytes
abbrev pub all_named : List (String Global × Caller) → List (List ℕ × Caller)
all_named callers = map (λ e. (string_bytes e.0, e.1)) callers

-- what is kept with one caller more; as it was, if something of the caller is kept
abbrev pub with_caller : Receipts → List ℕ → Option Caller → Caller → Receipts
with_caller r who None c = record r { callers = finite.insert r.callers who c }
with_caller r who (Some was) c = r
