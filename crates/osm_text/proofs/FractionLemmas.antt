-- The nine digits of a fraction.
use Rattle.std.proofs.Common.{◌≡◌, ◌<◌, ◌≤◌, ◌^◌, ℕ, length, decimal, arith}
use Rattle.std.proofs.lemmas.Fmt.{length-decimal-le}
use Rattle.std.proofs.lemmas.List.{length-append, length-replicate}
use Rattle.osm_text.specs.Numbers.{nine_digits}

-- nine digits are nine
pub length-nine_digits : (n : ℕ) → n < 10 ^ 9 → length (nine_digits n) ≡ 9
length-nine_digits n small =
    let fits : length (decimal n) ≤ 9 = length-decimal-le 9 n (omega arith) small (omega arith) in
    rw (length-append, length-replicate) (omega arith)
