-- One part after another.
use Rattle.std.proofs.Common.{◌≡◌, ℕ, List, ◌++◌, length, Result, Ok, Err, ap, ◌∙◌, append_assoc, arith}
use Rattle.std.specs.Prelude.{⊤}
use Rattle.std.proofs.lemmas.List.{length-append}
use Rattle.request_codec.specs.Written.{Puts}
use Rattle.request_codec.specs.declared.fault.CodecFault.{CodecFault}
use Rattle.request_codec.specs.declared.fault.CodecFault.TheVariants as faults

-- the second of two parts
pub Puts-then : (limit : ℕ) (old front mid new back : List ℕ) (r : Result ⊤ CodecFault) → mid ≡ old ++ front → Puts limit mid new r back → Puts limit old new r (front ++ back)
Puts-then limit old front mid new back (Ok u) e p = (p.0 ∙ ap (λ (s : List ℕ). s ++ back) e ∙ append_assoc old front back, p.1)
Puts-then limit old front mid new back (Err faults.Memory) e p = tt
Puts-then limit old front mid new back (Err faults.TooDeep) e p = absurd p
Puts-then limit old front mid new back (Err faults.NotWhole) e p = absurd p
Puts-then limit old front mid new back (Err faults.NotHex) e p = absurd p
Puts-then limit old front mid new back (Err faults.NotAMessage) e p = absurd p
Puts-then limit old front mid new back (Err faults.TooLong) e p = omega (arith, p, ap (λ (s : List ℕ). length s) e, length-append old front, length-append front back)

-- a first part that did not fit
pub Puts-front : (limit : ℕ) (old new after front back : List ℕ) (e : CodecFault) → Puts limit old new (Err e) front → Puts limit old after (Err e) (front ++ back)
Puts-front limit old new after front back faults.Memory p = tt
Puts-front limit old new after front back faults.TooDeep p = absurd p
Puts-front limit old new after front back faults.NotWhole p = absurd p
Puts-front limit old new after front back faults.NotHex p = absurd p
Puts-front limit old new after front back faults.NotAMessage p = absurd p
Puts-front limit old new after front back faults.TooLong p = omega (arith, p, length-append front back)

-- a part of a whole that did not fit
pub Puts-part : (limit : ℕ) (old new after begun part rest whole : List ℕ) (e : CodecFault) → begun ++ (part ++ rest) ≡ old ++ whole → Puts limit begun new (Err e) part → Puts limit old after (Err e) whole
Puts-part limit old new after begun part rest whole faults.Memory e p = tt
Puts-part limit old new after begun part rest whole faults.TooDeep e p = absurd p
Puts-part limit old new after begun part rest whole faults.NotWhole e p = absurd p
Puts-part limit old new after begun part rest whole faults.NotHex e p = absurd p
Puts-part limit old new after begun part rest whole faults.NotAMessage e p = absurd p
Puts-part limit old new after begun part rest whole faults.TooLong e p =
    omega (arith, p, ap (λ (s : List ℕ). length s) e, length-append begun (part ++ rest), length-append part rest, length-append old whole)
