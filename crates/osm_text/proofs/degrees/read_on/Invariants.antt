use Rattle.std.proofs.Common.{◌≡◌, ◌<◌, ◌+◌, ◌^◌, drop}
use Rattle.std.specs.Char.{is_digit}
use Rattle.std.specs.List.{list_all}
use Rattle.std.specs.Str.Parse.{digits_value_after}
use Rattle.osm_text.proofs.degrees.read_on.Given as goal

abbrev pub invariant-loop-byte : goal.invariant-loop-byte
invariant-loop-byte l = record {
  read : digits_value_after 10 l.number l.bytes ≡ digits_value_after 10 l.total (drop l.byte-index l.bytes);
  digits : list_all (λ c. is_digit c 10) l.bytes ≡ list_all (λ c. is_digit c 10) (drop l.byte-index l.bytes);
  small : l.total < 10 ^ (l.seen + l.byte-index);
}
