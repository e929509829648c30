-- How the number at the beginning of bytes follows from its bytes, one more at a time.
use Rattle.std.proofs.Common.{◌≡◌, ◌∙◌, ◌<◌, ◌≤◌, ◌+◌, ◌*◌, ◌%◌, ◌^◌, ◌++◌, ◌∷◌, [], ℕ, true, false, List, Some, None, Ok, Err, length, take, get_or, suc, refl, ap, sym, inl, inr, lit<, arith, mul_assoc, length-take}
use Rattle.std.specs.Prelude.{nat_lt, min}
use Rattle.std.specs.List.{position, position_or_len}
use Rattle.std.proofs.lemmas.Bool.{lt-ltb, le-ltb, ltb-false, cases_lt}
use Rattle.std.proofs.lemmas.List.{take_more, take_all, get_or-take, length-take-le}
use Rattle.std.proofs.lemmas.List.Sums.{position_or_len_is, fails_before_first}
use Rattle.std.proofs.lemmas.Nat.{pow-add, mul-le}
use Rattle.std.proofs.Math.Nat.{mod-eq_of_lt}
use Rattle.std.proofs.Math.Pow.{pow_mono}
use Rattle.osm_wire.specs.Varints.{varint_value, is_last_byte, leading_number}
use Rattle.osm_wire.specs.declared.error.WireError.TheVariants.{Short, Overlong}
use Rattle.osm_wire.proofs.AnswerLemmas.{chosen}

-- the first `size` bytes go on
abbrev pub GoOn : List ℕ → ℕ → Type 0
GoOn bytes size = (k : ℕ) → k < size → is_last_byte (get_or bytes k 0) ≡ false

-- one byte more at the end counts seven bits further up for each byte before it
pub varint_value-push : (bytes : List ℕ) (byte : ℕ) →
    varint_value (bytes ++ byte ∷ []) ≡ varint_value bytes + byte % 128 * 2 ^ (7 * length bytes)
varint_value-push [] byte = grind arith
varint_value-push (first ∷ bytes) byte =
    let more = varint_value-push bytes byte in
    let power : 2 ^ (7 * length bytes + 7) ≡ 2 ^ (7 * length bytes) * 128 = pow-add 2 (7 * length bytes) 7 in
    let further : 2 ^ (7 * suc (length bytes)) ≡ 2 ^ (7 * length bytes) * 128 = ap (λ n. 2 ^ n) (omega arith) ∙ power in
    rw (more, further) (omega (arith, mul_assoc (byte % 128) (2 ^ (7 * length bytes)) 128))

-- the number of one byte more
pub varint_value_more : (bytes : List ℕ) (size : ℕ) → size < length bytes →
    varint_value (take (size + 1) bytes) ≡ varint_value (take size bytes) + get_or bytes size 0 % 128 * 2 ^ (7 * size)
varint_value_more bytes size within =
    rw (
      take_more bytes size 0 within,
      varint_value-push (take size bytes) (get_or bytes size 0),
      length-take-le size bytes (omega (arith, within)),
    )
    refl

-- seven bits more take the power of two 128 times
power_more : (size : ℕ) → 2 ^ (7 * (size + 1)) ≡ 2 ^ (7 * size) * 128
power_more size = ap (λ n. 2 ^ n) (omega arith) ∙ pow-add 2 (7 * size) 7

-- bytes stand for less than all their bits can
pub varint_value-small : (bytes : List ℕ) → varint_value bytes < 2 ^ (7 * length bytes)
varint_value-small [] = lit< tt
varint_value-small (byte ∷ bytes) =
    let less = varint_value-small bytes in
    let power : 2 ^ (7 * suc (length bytes)) ≡ 2 ^ (7 * length bytes) * 128 =
    ap (λ n. 2 ^ n) (omega arith) ∙ pow-add 2 (7 * length bytes) 7 in
    rw power (omega (arith, less))

-- the first byte below 128, where those before it go on
pub position-at : (bytes : List ℕ) (size : ℕ) → size < length bytes → GoOn bytes size →
    is_last_byte (get_or bytes size 0) ≡ true → position is_last_byte bytes ≡ Some size
position-at bytes size within more ends =
    let first : position_or_len is_last_byte bytes ≡ size =
    position_or_len_is is_last_byte bytes size 0 (omega (arith, within)) more (λ _. ends) in
    rw (first, lt-ltb size (length bytes) within) refl

-- there is no byte below 128, where all go on
pub position-none : (bytes : List ℕ) → GoOn bytes (length bytes) → position is_last_byte bytes ≡ None
position-none bytes more =
    let first : position_or_len is_last_byte bytes ≡ length bytes =
    position_or_len_is is_last_byte bytes (length bytes) 0 (omega arith) more
    (λ within. absurd (omega (arith, within))) in
    rw (first, le-ltb (length bytes) (length bytes) (omega arith)) refl

-- all bytes go on, where there is none below 128
pub none-goes_on : (bytes : List ℕ) → position is_last_byte bytes ≡ None → GoOn bytes (length bytes)
none-goes_on bytes none k below =
    let first : ℕ = position_or_len is_last_byte bytes in
    elim (chosen (nat_lt first (length bytes)) (Some first) None None none) [
      | inl both ↦ cc
      | inr both ↦
          let far = ltb-false (position_or_len is_last_byte bytes) (length bytes) both.0 in
          fails_before_first is_last_byte bytes k 0 (omega (arith, far, below))
    ]

-- the bytes of a prefix of bytes are those of the bytes
pub take-GoOn : (bytes : List ℕ) (count size : ℕ) → size ≤ count → GoOn bytes size → GoOn (take count bytes) size
take-GoOn bytes count size within more k below =
    rw (get_or-take count bytes k 0 (omega (arith, below, within))) (more k below)

-- and the other way round
pub GoOn-take : (bytes : List ℕ) (count size : ℕ) → size ≤ count → GoOn (take count bytes) size → GoOn bytes size
GoOn-take bytes count size within more k below = sym (get_or_taken k below) ∙ more k below
  where
    get_or_taken : (k : ℕ) → k < size → is_last_byte (get_or (take count bytes) k 0) ≡ is_last_byte (get_or bytes k 0)
    get_or_taken k below = ap (λ byte. is_last_byte byte) (get_or-take count bytes k 0 (omega (arith, below, within)))

-- one byte more that goes on
pub GoOn-more : (bytes : List ℕ) (size : ℕ) → GoOn bytes size → 128 ≤ get_or bytes size 0 → GoOn bytes (size + 1)
GoOn-more bytes size more goes_on k below = elim (cases_lt k size) [
  | inl before ↦ more k before
  | inr last ↦
      let same : k ≡ size = omega (arith, below, last) in
      rw same (le-ltb (get_or bytes size 0) 128 goes_on)
]

-- a byte below 128 among the first ten ends the number
pub leading_number-ends : (bytes : List ℕ) (size number : ℕ) → size ≤ 9 → size < length bytes → GoOn bytes size →
    get_or bytes size 0 < 128 → number ≡ varint_value (take (size + 1) bytes) → number < 2 ^ 64 →
    leading_number bytes ≡ Ok (number, size + 1)
unfolding leading_number
leading_number-ends bytes size number short within more ends value fits =
    let long : length (take 10 bytes) ≡ min 10 (length bytes) = length-take 10 bytes in
    let found : position is_last_byte (take 10 bytes) ≡ Some size =
    position-at (take 10 bytes) size (omega (arith, long, within, short))
    (take-GoOn bytes 10 size (omega (arith, short)) more)
    (rw (get_or-take 10 bytes size 0 (omega (arith, short))) (lt-ltb (get_or bytes size 0) 128 ends)) in
    rw (found, sym value, lt-ltb number (2 ^ 64) fits) refl

-- one byte below 128 is its number
pub leading_number-one : (bytes : List ℕ) → 0 < length bytes → get_or bytes 0 0 < 128 →
    leading_number bytes ≡ Ok (get_or bytes 0 0, 1)
leading_number-one bytes within ends =
    leading_number-ends bytes 0 (get_or bytes 0 0) (omega arith) within (λ k below. absurd (omega (arith, below))) ends
    (omega (arith, varint_value_more bytes 0 within, ends)) (omega (arith, ends))

-- nine bytes that go on and a tenth of at most 1 are a number
pub leading_number-ten : (bytes : List ℕ) (number tenth : ℕ) → 9 < length bytes →
    position is_last_byte (take 9 bytes) ≡ None →
    number ≡ varint_value (take 9 bytes) → number < 2 ^ 63 → get_or bytes 9 0 ≡ tenth → tenth ≤ 1 →
    leading_number bytes ≡ Ok (number + tenth * 2 ^ 63, 10)
leading_number-ten bytes number tenth within none value small is least =
    let nine : length (take 9 bytes) ≡ 9 = length-take-le 9 bytes (omega (arith, within)) in
    let more : GoOn bytes 9 = GoOn-take bytes 9 9 (omega arith) (rw nine at (none-goes_on (take 9 bytes) none)) in
    let next = varint_value_more bytes 9 within in
    leading_number-ends bytes 9 (number + tenth * 2 ^ 63) (omega arith) within more (omega (arith, is, least))
    (omega (arith, next, is, least, value)) (omega (arith, small, least))

-- seven bits more below the 64th
pub number_more : (bytes : List ℕ) (size number : ℕ) → size < 9 → size < length bytes →
    number ≡ varint_value (take size bytes) → number < 2 ^ (7 * size) →
    (number + get_or bytes size 0 % 128 * 2 ^ (7 * size) % 2 ^ 64 ≡ varint_value (take (size + 1) bytes))
    × (number + get_or bytes size 0 % 128 * 2 ^ (7 * size) % 2 ^ 64 < 2 ^ (7 * (size + 1)))
    × (number + get_or bytes size 0 % 128 * 2 ^ (7 * size) % 2 ^ 64 < 2 ^ 64)
number_more bytes size number short within value small =
    let byte : ℕ = get_or bytes size 0 in
    let power = power_more size in
    let bound : 2 ^ (7 * (size + 1)) ≤ 2 ^ 63 = pow_mono {j = 63} (omega (arith, short)) in
    let digit : byte % 128 * 2 ^ (7 * size) ≤ 127 * 2 ^ (7 * size) =
    mul-le (byte % 128) (2 ^ (7 * size)) 127 (2 ^ (7 * size)) (omega arith) (omega arith) in
    let kept : byte % 128 * 2 ^ (7 * size) % 2 ^ 64 ≡ byte % 128 * 2 ^ (7 * size) =
    mod-eq_of_lt (omega (arith, digit, power, bound, small)) in (
      rw (kept, value) (sym (varint_value_more bytes size within)),
      rw kept (omega (arith, digit, power, small)),
      rw kept (omega (arith, digit, power, bound, small)),
    )

-- fewer than ten bytes that go on are short
pub leading_number-short : (bytes : List ℕ) → length bytes < 10 → position is_last_byte bytes ≡ None →
    leading_number bytes ≡ Err Short
unfolding leading_number
leading_number-short bytes few none =
    rw (take_all 10 bytes (omega (arith, few)), none, lt-ltb (length bytes) 10 few) refl

-- the number of ten bytes whose last is above 1 has more than 64 bits
overlong_value : (bytes : List ℕ) → 9 < length bytes → 1 < get_or bytes 9 0 → get_or bytes 9 0 < 128 →
    2 ^ 64 ≤ varint_value (take 10 bytes)
overlong_value bytes within much ends =
    rw (varint_value_more bytes 9 within) (omega (arith, mod-eq_of_lt ends, much))

-- nine bytes that go on and a tenth above 1 are overlong
pub leading_number-overlong : (bytes : List ℕ) → 9 < length bytes → position is_last_byte (take 9 bytes) ≡ None →
    1 < get_or bytes 9 0 → leading_number bytes ≡ Err Overlong
unfolding leading_number
leading_number-overlong bytes within none much =
    let nine : length (take 9 bytes) ≡ 9 = length-take-le 9 bytes (omega (arith, within)) in
    let ten : length (take 10 bytes) ≡ 10 = length-take-le 10 bytes (omega (arith, within)) in
    let more : GoOn bytes 9 = GoOn-take bytes 9 9 (omega arith) (rw nine at (none-goes_on (take 9 bytes) none)) in
    elim (cases_lt (get_or bytes 9 0) 128) [
      | inl ends ↦
          let found : position is_last_byte (take 10 bytes) ≡ Some 9 =
          position-at (take 10 bytes) 9 (omega (arith, ten)) (take-GoOn bytes 10 9 (omega arith) more)
          (rw (get_or-take 10 bytes 9 0 (omega arith)) (lt-ltb (get_or bytes 9 0) 128 ends)) in
          rw (found, le-ltb (varint_value (take 10 bytes)) (2 ^ 64) (overlong_value bytes within much ends)) refl
      | inr goes_on ↦
          let none_of_ten : position is_last_byte (take 10 bytes) ≡ None =
          position-none (take 10 bytes)
          (rw ten (take-GoOn bytes 10 10 (omega arith) (GoOn-more bytes 9 more goes_on))) in
          rw (none_of_ten, le-ltb (length bytes) 10 (omega (arith, within))) refl
    ]

-- the first byte goes on, where it isn't the last of its varint
first-goes_on : (bytes : List ℕ) → 0 < length bytes → position is_last_byte (take 1 bytes) ≡ None → GoOn bytes 1
first-goes_on bytes within none =
    let one : length (take 1 bytes) ≡ 1 = length-take-le 1 bytes (omega (arith, within)) in
    GoOn-take bytes 1 1 (omega arith) (rw one at (none-goes_on (take 1 bytes) none))

-- the number of two bytes
pub leading_number-two : (bytes : List ℕ) → 4 < length bytes → position is_last_byte (take 1 bytes) ≡ None →
    get_or bytes 1 0 < 128 →
    leading_number bytes ≡ Ok (get_or bytes 0 0 % 128 + get_or bytes 1 0 % 128 * 128, 2)
leading_number-two bytes within none ends =
    leading_number-ends bytes 1 (get_or bytes 0 0 % 128 + get_or bytes 1 0 % 128 * 128) (omega arith)
    (omega (arith, within)) (first-goes_on bytes (omega (arith, within)) none) ends
    (omega (
      arith,
      varint_value_more bytes 0 (omega (arith, within)),
      varint_value_more bytes 1 (omega (arith, within)),
    ))
    (omega arith)

-- the number of three bytes
pub leading_number-three : (bytes : List ℕ) → 4 < length bytes → position is_last_byte (take 1 bytes) ≡ None →
    128 ≤ get_or bytes 1 0 → get_or bytes 2 0 < 128 →
    leading_number bytes
    ≡ Ok (get_or bytes 0 0 % 128 + get_or bytes 1 0 % 128 * 128 + get_or bytes 2 0 % 128 * 16384, 3)
leading_number-three bytes within none second ends =
    let one = first-goes_on bytes (omega (arith, within)) none in
    leading_number-ends bytes 2
    (get_or bytes 0 0 % 128 + get_or bytes 1 0 % 128 * 128 + get_or bytes 2 0 % 128 * 16384) (omega arith)
    (omega (arith, within)) (GoOn-more bytes 1 one second) ends
    (omega (
      arith,
      varint_value_more bytes 0 (omega (arith, within)),
      varint_value_more bytes 1 (omega (arith, within)),
      varint_value_more bytes 2 (omega (arith, within)),
    ))
    (omega arith)

-- the number of four bytes
pub leading_number-four : (bytes : List ℕ) → 4 < length bytes → position is_last_byte (take 1 bytes) ≡ None →
    128 ≤ get_or bytes 1 0 → 128 ≤ get_or bytes 2 0 → get_or bytes 3 0 < 128 →
    leading_number bytes
    ≡ Ok (
      get_or bytes 0 0 % 128 + get_or bytes 1 0 % 128 * 128 + get_or bytes 2 0 % 128 * 16384
          + get_or bytes 3 0 % 128 * 2097152,
      4,
    )
leading_number-four bytes within none second third ends =
    let one = first-goes_on bytes (omega (arith, within)) none in
    let two = GoOn-more bytes 1 one second in
    leading_number-ends bytes 3
    (get_or bytes 0 0 % 128 + get_or bytes 1 0 % 128 * 128 + get_or bytes 2 0 % 128 * 16384
    + get_or bytes 3 0 % 128 * 2097152)
    (omega arith) (omega (arith, within)) (GoOn-more bytes 2 two third) ends
    (omega (
      arith,
      varint_value_more bytes 0 (omega (arith, within)),
      varint_value_more bytes 1 (omega (arith, within)),
      varint_value_more bytes 2 (omega (arith, within)),
      varint_value_more bytes 3 (omega (arith, within)),
    ))
    (omega arith)

-- the number of five bytes
pub leading_number-five : (bytes : List ℕ) → 4 < length bytes → position is_last_byte (take 1 bytes) ≡ None →
    128 ≤ get_or bytes 1 0 → 128 ≤ get_or bytes 2 0 → 128 ≤ get_or bytes 3 0 → get_or bytes 4 0 < 128 →
    leading_number bytes
    ≡ Ok (
      get_or bytes 0 0 % 128 + get_or bytes 1 0 % 128 * 128 + get_or bytes 2 0 % 128 * 16384
          + get_or bytes 3 0 % 128 * 2097152 + get_or bytes 4 0 % 128 * 268435456,
      5,
    )
leading_number-five bytes within none second third fourth ends =
    let one = first-goes_on bytes (omega (arith, within)) none in
    let two = GoOn-more bytes 1 one second in
    let three = GoOn-more bytes 2 two third in
    leading_number-ends bytes 4
    (get_or bytes 0 0 % 128 + get_or bytes 1 0 % 128 * 128 + get_or bytes 2 0 % 128 * 16384
    + get_or bytes 3 0 % 128 * 2097152 + get_or bytes 4 0 % 128 * 268435456)
    (omega arith) (omega (arith, within)) (GoOn-more bytes 3 three fourth) ends
    (omega (
      arith,
      varint_value_more bytes 0 (omega (arith, within)),
      varint_value_more bytes 1 (omega (arith, within)),
      varint_value_more bytes 2 (omega (arith, within)),
      varint_value_more bytes 3 (omega (arith, within)),
      varint_value_more bytes 4 (omega (arith, within)),
    ))
    (omega arith)
