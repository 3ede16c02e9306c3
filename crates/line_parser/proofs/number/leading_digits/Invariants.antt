use Rattle.std.proofs.Common.{◌≡◌, ◌≤◌, ◌-◌, length, take}
use Rattle.std.specs.Str.Parse.{AllDigits, digits_value}
use Rattle.line_parser.proofs.number.leading_digits.Given as goal

abbrev pub invariant-digits : goal.invariant-digits
invariant-digits l = record {
  value : l.n ≡ digits_value 10 (take l.i l.bytes);
  digits : AllDigits 10 (take l.i l.bytes);
  within : l.i ≤ length l.bytes;
  few : l.i ≤ 18;
}

abbrev pub decreases-digits : goal.decreases-digits
decreases-digits l = length l.bytes - l.i
