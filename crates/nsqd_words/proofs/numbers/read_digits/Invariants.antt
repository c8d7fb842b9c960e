use Rattle.std.proofs.Common.{◌≡◌, ◌≤◌, ◌<◌, ◌^◌, length, take}
use Rattle.std.specs.Char.{is_ascii_digit}
use Rattle.std.specs.List.{AllPass}
use Rattle.std.specs.Str.Parse.{digits_value}
use Rattle.nsqd_words.proofs.numbers.read_digits.Given as goal

abbrev pub invariant-loop-digit : goal.invariant-loop-digit
invariant-loop-digit l = record {
  some : 1 ≤ length l.text;
  few : length l.text ≤ l.most;
  value : l.n ≡ digits_value 10 (take l.digit-index l.text);
  small : l.n < 10 ^ l.digit-index;
  digits : AllPass is_ascii_digit (take l.digit-index l.text);
}
