use Rattle.std.proofs.Common.{◌≡◌, ◌^◌, ◌+◌, true, min, take}
use Rattle.std.specs.Char.{is_digit}
use Rattle.std.specs.List.{list_all}
use Rattle.std.specs.Str.Parse.{digits_value}
use Rattle.osm_text.proofs.digits.size_of_many.Given as goal

abbrev pub invariant-loop-byte : goal.invariant-loop-byte
invariant-loop-byte l = record {
  read : l.size ≡ min (digits_value 10 (take l.byte-index l.bytes)) (2 ^ 63 + 1);
  digits : list_all (λ c. is_digit c 10) (take l.byte-index l.bytes) ≡ true;
}
