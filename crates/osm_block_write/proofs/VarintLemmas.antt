-- Varints of two to five bytes.
use Rattle.std.proofs.Common.{◌≡◌, ℕ, ◌+◌, ◌-◌, ◌<◌, ◌≤◌, [], ◌∷◌, ap, ◌∙◌, arith}
use Rattle.std.specs.Prelude.{◌%◌, ◌/◌}
use Rattle.osm_wire.specs.Written.{shortest_varint, varint_within}
use Rattle.osm_wire.proofs.WrittenLemmas.{varint_within-last, varint_within-more}

-- two bytes
two_within : (left n : ℕ) → 1 < left → 128 ≤ n → n / 128 < 128 →
    varint_within left n ≡ (n % 128 + 128) ∷ n / 128 ∷ []
two_within left n room more last =
    varint_within-more left n (omega (arith, room)) more
    ∙ ap (λ rest. (n % 128 + 128) ∷ rest) (varint_within-last (left - 1) (n / 128) (omega (arith, room)) last)

-- three bytes, by the second seven bits
three_within : (left n : ℕ) → 2 < left → 128 ≤ n → 128 ≤ n / 128 → n / 128 / 128 < 128 →
    varint_within left n ≡ (n % 128 + 128) ∷ (n / 128 % 128 + 128) ∷ n / 128 / 128 ∷ []
three_within left n room more second last =
    varint_within-more left n (omega (arith, room)) more
    ∙ ap (λ rest. (n % 128 + 128) ∷ rest) (two_within (left - 1) (n / 128) (omega (arith, room)) second last)

-- four bytes
four_within : (left n : ℕ) → 3 < left → 128 ≤ n → 128 ≤ n / 128 → 128 ≤ n / 128 / 128 → n / 128 / 128 / 128 < 128 →
    varint_within left n
    ≡ (n % 128 + 128) ∷ (n / 128 % 128 + 128) ∷ (n / 128 / 128 % 128 + 128) ∷ n / 128 / 128 / 128 ∷ []
four_within left n room more second third last =
    varint_within-more left n (omega (arith, room)) more
    ∙ ap (λ rest. (n % 128 + 128) ∷ rest) (three_within (left - 1) (n / 128) (omega (arith, room)) second third last)

-- five bytes
five_within : (left n : ℕ) → 4 < left → 128 ≤ n → 128 ≤ n / 128 → 128 ≤ n / 128 / 128 → 128 ≤ n / 128 / 128 / 128 →
    n / 128 / 128 / 128 / 128 < 128 →
    varint_within left n
    ≡ (n % 128 + 128) ∷ (n / 128 % 128 + 128) ∷ (n / 128 / 128 % 128 + 128) ∷ (n / 128 / 128 / 128 % 128 + 128)
    ∷ n / 128 / 128 / 128 / 128 ∷ []
five_within left n room more second third fourth last =
    varint_within-more left n (omega (arith, room)) more
    ∙ ap (λ rest. (n % 128 + 128) ∷ rest)
    (four_within (left - 1) (n / 128) (omega (arith, room)) second third fourth last)

-- the shortest varint of two bytes
pub two_bytes : (n : ℕ) → 128 ≤ n → n / 128 < 128 → shortest_varint n ≡ (n % 128 + 128) ∷ n / 128 ∷ []
unfolding shortest_varint
two_bytes n more last = two_within 10 n (omega arith) more last

-- the shortest varint of three bytes
pub three_bytes : (n : ℕ) → 128 ≤ n → 128 ≤ n / 128 → n / 128 / 128 < 128 →
    shortest_varint n ≡ (n % 128 + 128) ∷ (n / 128 % 128 + 128) ∷ n / 128 / 128 ∷ []
unfolding shortest_varint
three_bytes n more second last = three_within 10 n (omega arith) more second last

-- the shortest varint of four bytes
pub four_bytes : (n : ℕ) → 128 ≤ n → 128 ≤ n / 128 → 128 ≤ n / 128 / 128 → n / 128 / 128 / 128 < 128 →
    shortest_varint n
    ≡ (n % 128 + 128) ∷ (n / 128 % 128 + 128) ∷ (n / 128 / 128 % 128 + 128) ∷ n / 128 / 128 / 128 ∷ []
unfolding shortest_varint
four_bytes n more second third last = four_within 10 n (omega arith) more second third last

-- the shortest varint of five bytes
pub five_bytes : (n : ℕ) → 128 ≤ n → 128 ≤ n / 128 → 128 ≤ n / 128 / 128 → 128 ≤ n / 128 / 128 / 128 →
    n / 128 / 128 / 128 / 128 < 128 →
    shortest_varint n
    ≡ (n % 128 + 128) ∷ (n / 128 % 128 + 128) ∷ (n / 128 / 128 % 128 + 128) ∷ (n / 128 / 128 / 128 % 128 + 128)
    ∷ n / 128 / 128 / 128 / 128 ∷ []
unfolding shortest_varint
five_bytes n more second third fourth last = five_within 10 n (omega arith) more second third fourth last
