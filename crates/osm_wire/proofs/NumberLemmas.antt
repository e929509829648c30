-- The number at the beginning of bytes is the one that they spell, and it is refused as it should be.
use Rattle.std.proofs.Common.{◌≡◌, ◌∙◌, ◌<◌, ◌≤◌, ◌-◌, ◌+◌, ◌*◌, ◌%◌, ◌^◌, ◌++◌, ℕ, List, Option, Some, None, Ok, Err, length, take, get_or, refl, ap, sym, subst, inl, inr, arith, length-take, length-append}
use Rattle.std.specs.Prelude.{nat_lt, min}
use Rattle.std.specs.List.{position}
use Rattle.std.specs.Result.{result_unwrap_or}
use Rattle.std.proofs.lemmas.Bool.{ltb-true, ltb-false, cases_lt}
use Rattle.std.proofs.lemmas.List.{take_at, take_all, get_or-take, get_or_append_left, length-take-le}
use Rattle.std.proofs.lemmas.List.Quantifiers.{position-Some}
use Rattle.std.proofs.Math.Pow.{pow_mono}
use Rattle.osm_wire.specs.Refusals.{RefusesNumber}
use Rattle.osm_wire.specs.Varints.{SpellsNumber, varint_value, is_last_byte, leading_number, number_ending, number_fitting}
use Rattle.osm_wire.specs.declared.error.WireError.{WireError}
use Rattle.osm_wire.specs.declared.error.WireError.TheVariants.{Short, Overlong, Group, BadWire}
use Rattle.osm_wire.proofs.AnswerLemmas.{chosen, err_ok, same_error}
use Rattle.osm_wire.proofs.VarintLemmas.{GoOn, GoOn-take, leading_number-ends, leading_number-overlong, leading_number-short, none-goes_on, position-at, position-none, take-GoOn, varint_value-small, varint_value_more}

-- what is refused is answered so
pub leading_number-refused : (bytes : List ℕ) (error : WireError) → RefusesNumber bytes error →
    leading_number bytes ≡ Err error
leading_number-refused bytes Short is = leading_number-short bytes is.0 is.1
leading_number-refused bytes Overlong is = leading_number-overlong bytes is.0 is.1 is.2
leading_number-refused bytes BadWire is = absurd is
leading_number-refused bytes Group is = absurd is

-- what bytes spell is read, whatever follows
pub leading_number-spelled : (bytes rest : List ℕ) (n : ℕ) → SpellsNumber bytes n →
    leading_number (bytes ++ rest) ≡ Ok (n, length bytes)
leading_number-spelled bytes rest n s =
    let before : ℕ = length bytes - 1 in
    let first = position-Some is_last_byte bytes before 0 s.ended in
    let size : length bytes ≡ before + 1 = omega (arith, first.0) in
    let same : (k : ℕ) → k < length bytes → get_or (bytes ++ rest) k 0 ≡ get_or bytes k 0 =
    λ k below. get_or_append_left bytes rest 0 k below in
    let long : length (bytes ++ rest) ≡ length bytes + length rest = length-append bytes rest in
    let begin : take (before + 1) (bytes ++ rest) ≡ bytes = take_at bytes rest (before + 1) size in
    let read =
    leading_number-ends (bytes ++ rest) before n (omega (arith, s.within, size)) (omega (arith, long, size))
    (λ k below. rw (same k (omega (arith, below, size))) (first.2 k below))
    (rw (same before first.0) (ltb-true (get_or bytes before 0) 128 first.1)) (rw begin (sym s.value)) s.fits in
    read ∙ ap (λ k. Ok (n, k)) (sym size)

-- a number that is read fits
fitting-read : (value size n taken : ℕ) → number_fitting value size ≡ Ok (n, taken) →
    (value ≡ n) × (size ≡ taken) × (value < 2 ^ 64)
fitting-read value size n taken read =
    elim (chosen (nat_lt value (2 ^ 64)) (Ok (value, size)) (Err Overlong) (Ok (n, taken)) read) [
      | inl both ↦
          let same = ap (λ r. result_unwrap_or r (0, 0)) both.1 in
          (ap (λ p. p.0) same, ap (λ p. p.1) same, ltb-true value (2 ^ 64) both.0)
      | inr both ↦ absurd (err_ok both.1)
    ]

-- what is read was spelled, by the place of its last byte
ending-read : (bytes : List ℕ) (n size : ℕ) (last : Option ℕ) → position is_last_byte (take 10 bytes) ≡ last →
    number_ending bytes last ≡ Ok (n, size) → (size ≤ length bytes) × SpellsNumber (take size bytes) n
ending-read bytes n size None found read =
    elim (chosen (nat_lt (length bytes) 10) (Err Short) (Err Overlong) (Ok (n, size)) read) [
      | inl both ↦ absurd (err_ok both.1)
      | inr both ↦ absurd (err_ok both.1)
    ]
ending-read bytes n size (Some last) found read =
    let is = fitting-read (varint_value (take (last + 1) bytes)) (last + 1) n size read in
    let first = position-Some is_last_byte (take 10 bytes) last 0 found in
    let ten : length (take 10 bytes) ≡ min 10 (length bytes) = length-take 10 bytes in
    let long : length (take (last + 1) bytes) ≡ last + 1 =
    length-take-le (last + 1) bytes (omega (arith, first.0, ten)) in
    let same : (k : ℕ) → k < last + 1 → get_or (take (last + 1) bytes) k 0 ≡ get_or (take 10 bytes) k 0 =
    λ k below. get_or-take (last + 1) bytes k 0 below
    ∙ sym (get_or-take 10 bytes k 0 (omega (arith, below, first.0, ten))) in
    let ended : position is_last_byte (take (last + 1) bytes) ≡ Some last =
    position-at (take (last + 1) bytes) last (omega (arith, long))
    (λ k below. rw (same k (omega (arith, below))) (first.2 k below)) (rw (same last (omega arith)) first.1) in
    let spelled : SpellsNumber (take (last + 1) bytes) n = record {
      ended = ended ∙ ap (λ k. Some k) (omega (arith, long));
      within = omega (arith, long, first.0, ten);
      value = is.0;
      fits = omega (arith, is.2, is.0);
    } in
    rw (sym is.1) (omega (arith, first.0, ten), spelled)

-- what is read was spelled
pub leading_number-read : (bytes : List ℕ) (n size : ℕ) → leading_number bytes ≡ Ok (n, size) →
    (size ≤ length bytes) × SpellsNumber (take size bytes) n
unfolding leading_number
leading_number-read bytes n size read = ending-read bytes n size (position is_last_byte (take 10 bytes)) refl read

-- more than 64 bits up to a last byte among the first ten, of which those before it go on, are overlong
overlong-value : (bytes : List ℕ) (last : ℕ) → last ≤ 9 → last < length bytes → GoOn bytes last →
    2 ^ 64 ≤ varint_value (take (last + 1) bytes) → RefusesNumber bytes Overlong
overlong-value bytes last short within more large =
    let long : length (take (last + 1) bytes) ≡ last + 1 = length-take-le (last + 1) bytes (omega (arith, within)) in
    let small : varint_value (take (last + 1) bytes) < 2 ^ (7 * (last + 1)) =
    rw long at (varint_value-small (take (last + 1) bytes)) in
    elim (cases_lt last 9) [
      | inl before ↦
          let bound : 2 ^ (7 * (last + 1)) ≤ 2 ^ 63 = pow_mono {j = 63} (omega (arith, before)) in
          absurd (omega (arith, small, bound, large))
      | inr after ↦
          let nine : last ≡ 9 = omega (arith, short, after) in
          let ten : 9 < length bytes = omega (arith, nine, within) in
          let long_nine : length (take 9 bytes) ≡ 9 = length-take-le 9 bytes (omega (arith, ten)) in
          let below : varint_value (take 9 bytes) < 2 ^ 63 = rw long_nine at (varint_value-small (take 9 bytes)) in
          let whole : 2 ^ 64 ≤ varint_value (take 9 bytes) + get_or bytes 9 0 % 128 * 2 ^ 63 =
          rw (varint_value_more bytes 9 ten) at (rw nine at large) in (
            ten,
            position-none (take 9 bytes) (rw long_nine (take-GoOn bytes 9 9 (omega arith) (rw nine at more))),
            omega (arith, below, whole),
          )
    ]

-- what is answered as an error is refused, by the place of the last byte
ending-refuses : (bytes : List ℕ) (error : WireError) (last : Option ℕ) → position is_last_byte (take 10 bytes) ≡ last →
    number_ending bytes last ≡ Err error → RefusesNumber bytes error
ending-refuses bytes error None found answer =
    elim (chosen (nat_lt (length bytes) 10) (Err Short) (Err Overlong) (Err error) answer) [
      | inl both ↦
          let few : length bytes < 10 = ltb-true (length bytes) 10 both.0 in
          let none : position is_last_byte bytes ≡ None = rw (take_all 10 bytes (omega (arith, few))) at found in
          subst (λ (e : WireError). RefusesNumber bytes e) (same_error both.1) (few, none)
      | inr both ↦
          let many : 10 ≤ length bytes = ltb-false (length bytes) 10 both.0 in
          let ten : length (take 10 bytes) ≡ 10 = length-take-le 10 bytes many in
          let more : GoOn bytes 10 =
          GoOn-take bytes 10 10 (omega arith) (rw ten at (none-goes_on (take 10 bytes) found)) in
          let nine : length (take 9 bytes) ≡ 9 = length-take-le 9 bytes (omega (arith, many)) in
          let high : 128 ≤ get_or bytes 9 0 = ltb-false (get_or bytes 9 0) 128 (more 9 (omega arith)) in
          subst (λ (e : WireError). RefusesNumber bytes e) (same_error both.1) (
            omega (arith, many),
            position-none (take 9 bytes)
                (rw nine (take-GoOn bytes 9 9 (omega arith) (λ k below. more k (omega (arith, below))))),
            omega (arith, high),
          )
    ]
ending-refuses bytes error (Some last) found answer =
    let first = position-Some is_last_byte (take 10 bytes) last 0 found in
    let ten : length (take 10 bytes) ≡ min 10 (length bytes) = length-take 10 bytes in
    let value : ℕ = varint_value (take (last + 1) bytes) in
    elim (chosen (nat_lt value (2 ^ 64)) (Ok (value, last + 1)) (Err Overlong) (Err error) answer) [
      | inl both ↦ absurd (err_ok (sym both.1))
      | inr both ↦
          subst (λ (e : WireError). RefusesNumber bytes e) (same_error both.1)
          (overlong-value bytes last (omega (arith, first.0, ten)) (omega (arith, first.0, ten))
          (GoOn-take bytes 10 last (omega (arith, first.0, ten)) first.2)
          (ltb-false (varint_value (take (last + 1) bytes)) (2 ^ 64) both.0))
    ]

-- what is answered as an error is refused
pub leading_number-refuses : (bytes : List ℕ) (error : WireError) → leading_number bytes ≡ Err error →
    RefusesNumber bytes error
unfolding leading_number
leading_number-refuses bytes error answer = ending-refuses bytes error
    (position is_last_byte (take 10 bytes)) refl answer

-- a spelled number has bytes
pub SpellsNumber-some : (bytes : List ℕ) (n : ℕ) → SpellsNumber bytes n → 0 < length bytes
SpellsNumber-some bytes n s = omega (arith, (position-Some is_last_byte bytes (length bytes - 1) 0 s.ended).0)
