use Rattle.std.proofs.Common.{◌≡◌, ◌*◌, ◌++◌, take, drop}
use Rattle.request_codec.specs.Hex.{digits_of}
use Rattle.request_codec.proofs.bytes.hexadecimal.encode_into.Given as goal

abbrev pub invariant-bytes : goal.invariant-bytes
invariant-bytes l = take (2 * l.i) l.out ++ digits_of (drop l.i l.bytes) ≡ digits_of l.bytes
