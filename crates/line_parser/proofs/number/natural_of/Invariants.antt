use Rattle.std.proofs.Common.{◌≡◌, take}
use Rattle.std.specs.Str.Parse.{AllDigits, digits_value}
use Rattle.line_parser.proofs.number.natural_of.Given as goal

abbrev pub invariant-loop-byte : goal.invariant-loop-byte
invariant-loop-byte l = record {
  value : l.n ≡ digits_value 10 (take l.byte-index l.bytes);
  digits : AllDigits 10 (take l.byte-index l.bytes);
}
