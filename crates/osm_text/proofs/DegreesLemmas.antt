-- Numbers moved by powers of ten, and digits read on.
use Rattle.std.proofs.Common.{◌≡◌, ◌<◌, ◌≤◌, ◌+◌, ◌*◌, ◌/◌, ◌^◌, ◌++◌, ◌∷◌, ℕ, Bool, true, false, List, [], length, drop, get_or, Option, None, Some, IfSome, refl, arith, sym, add-one}
use Rattle.std.specs.Prelude.{if◌then◌else◌, not, nat_lt}
use Rattle.std.specs.Char.{is_digit, digit_value}
use Rattle.std.specs.Option.{unwrap_or}
use Rattle.std.specs.Str.Parse.{digits_value, digits_value_after}
use Rattle.std.specs.List.{list_all, position, position_or_len}
use Rattle.std.proofs.Math.Nat.{one-le-pow, pow-le-pow_right, div-eq_of_lt, mul-div-mul_right, le-mul_of_pos_right}
use Rattle.std.proofs.lemmas.Nat.{pow-add, div-mul-add}
use Rattle.std.proofs.lemmas.Bool.{lt-leb, lt-ltb, le-leb, ltb-false}
use Rattle.std.proofs.Math.Seq.{drop-cons}
use Rattle.std.proofs.lemmas.List.{length-append}
use Rattle.std.proofs.lemmas.List.Folds.{list_all-append}
use Rattle.std.proofs.lemmas.List.Sums.{prefix_len-le-length}
use Rattle.osm_text.specs.Numbers.{are_digits}
use Rattle.osm_text.specs.Nano.{limited}
use Rattle.osm_text.proofs.KeptLemmas.{kept_some}

-- a power of ten is above 0
pub pow-some : (tens : ℕ) → 0 < 10 ^ tens
pow-some tens = let one = one-le-pow tens 10 (omega arith) in omega arith

-- fewer tens are no larger a power
pub pow-within : (tens most : ℕ) → tens ≤ most → 10 ^ tens ≤ 10 ^ most
pow-within tens most within = pow-le-pow_right {n = 10} (omega arith) within

-- one ten more
pow-more : (tens next : ℕ) → next ≡ tens + 1 → 10 ^ next ≡ 10 ^ tens * 10
pow-more tens next one = rw one (pow-add 10 tens 1)

-- nothing is left of a number that is divided by as many tens as it may have digits
pub divided-none : (number tens most : ℕ) → number < 10 ^ most → most ≤ tens → number / 10 ^ tens ≡ 0
divided-none number tens most small within = let bound = pow-within most tens within in div-eq_of_lt (omega arith)

-- a number above 0 with more than 18 tens is too large
pub limited-tens : (number tens : ℕ) → 0 < number → 18 < tens → None ≡ limited (number * 10 ^ tens)
limited-tens number tens some many =
    let bound : 10 ^ 19 ≤ 10 ^ tens = pow-within 19 tens (omega arith) in
    let more = le-mul_of_pos_right (10 ^ tens) some in
    rw (lt-leb (number * 10 ^ tens) (10 ^ 18) (omega arith))

-- a number that is too large is so with tens
pub limited-large : (number tens : ℕ) → 10 ^ 18 < number → None ≡ limited (number * 10 ^ tens)
limited-large number tens large =
    let more = le-mul_of_pos_right number (pow-some tens) in
    rw (lt-leb (number * 10 ^ tens) (10 ^ 18) (omega arith))

-- tens above and below cancel, where there are more above
pub moved-up : (number up down more : ℕ) → up ≡ more + down → number * 10 ^ more ≡ number * 10 ^ up / 10 ^ down
moved-up number up down more sum =
    let tens : number * 10 ^ up ≡ number * 10 ^ more * 10 ^ down + 0 = rw (sum, pow-add 10 more down) (omega arith) in
    rw tens (sym (div-mul-add (number * 10 ^ more) (10 ^ down) 0 (pow-some down)))

-- and where there are more below
pub moved-down : (number up down more : ℕ) → down ≡ more + up → number / 10 ^ more ≡ number * 10 ^ up / 10 ^ down
moved-down number up down more sum =
    rw (sum, pow-add 10 more up) (sym (mul-div-mul_right number (10 ^ more) (pow-some up)))

-- the place of a test, or the end where it isn't there
place-at : (within : Bool) (place end : ℕ) → (within ≡ false → place ≡ end) →
    unwrap_or (if within then Some place else None) end ≡ place
place-at true place end at_end = refl
place-at false place end at_end = sym (at_end refl)

-- the first place that passes, or else the end
pub place-or_end : (test : ℕ → Bool) (bytes : List ℕ) →
    unwrap_or (position test bytes) (length bytes) ≡ position_or_len test bytes
place-or_end test bytes =
    place-at (nat_lt (position_or_len test bytes) (length bytes)) (position_or_len test bytes) (length bytes)
    (λ is. let past = ltb-false (position_or_len test bytes) (length bytes) is in
    let within = prefix_len-le-length (λ b. not (test b)) bytes in omega arith)

-- it is a place in the bytes
pub place-within : (test : ℕ → Bool) (bytes : List ℕ) → position_or_len test bytes ≤ length bytes
place-within test bytes = prefix_len-le-length (λ b. not (test b)) bytes

-- digits read on after those before them
pub digits_value_after-append : (n : ℕ) (before after : List ℕ) →
    digits_value_after 10 n (before ++ after) ≡ digits_value_after 10 (digits_value_after 10 n before) after
digits_value_after-append n [] after = refl
digits_value_after-append n (c ∷ cs) after = digits_value_after-append (n * 10 + digit_value c) cs after

-- what was read of the digits before a point, and then of those after it, is the number of both
pub read-joined : (before after : List ℕ) (leading : ℕ) (read : Option ℕ) → 0 < length before + length after →
    length before + length after ≤ 38 →
    Some leading ≡ (if list_all (λ c. is_digit c 10) before then Some (digits_value_after 10 0 before) else None) →
    read ≡ (if list_all (λ c. is_digit c 10) after then Some (digits_value_after 10 leading after) else None) →
    read ≡ (if are_digits 38 (before ++ after) then Some (digits_value 10 (before ++ after)) else None)
read-joined before after leading read some within first second =
    let kept = kept_some (list_all (λ c. is_digit c 10) before) (digits_value_after 10 0 before) leading first in
    rw (
      length-append,
      lt-ltb 0 (length before + length after) some,
      le-leb (length before + length after) 38 within,
      list_all-append (λ c. is_digit c 10) before after,
      kept.1,
      digits_value_after-append 0 before after,
      ← kept.0,
    ) second

-- a number below a power of ten is below a larger one
pub below-within : (read : Option ℕ) (tens most : ℕ) → tens ≤ most → IfSome read (λ n. n < 10 ^ tens) →
    IfSome read (λ n. n < 10 ^ most)
below-within None tens most within below = tt
below-within (Some n) tens most within below = let bound = pow-within tens most within in omega (arith, below)

-- one digit more is read on
pub read-more : (bytes : List ℕ) (number total seen i digit : ℕ) → i < length bytes → digit < 10 →
    Some digit ≡ (if is_digit (get_or bytes i 0) 10 then Some (digit_value (get_or bytes i 0)) else None) →
    digits_value_after 10 number bytes ≡ digits_value_after 10 total (drop i bytes) →
    list_all (λ c. is_digit c 10) bytes ≡ list_all (λ c. is_digit c 10) (drop i bytes) →
    total < 10 ^ (seen + i) →
    (digits_value_after 10 number bytes ≡ digits_value_after 10 (total * 10 + digit) (drop (i + 1) bytes)) ×
    (list_all (λ c. is_digit c 10) bytes ≡ list_all (λ c. is_digit c 10) (drop (i + 1) bytes)) ×
    (total * 10 + digit < 10 ^ (seen + (i + 1)))
read-more bytes number total seen i digit within low is read digits small =
    let kept = kept_some (is_digit (get_or bytes i 0) 10) (digit_value (get_or bytes i 0)) digit is in
    let next = drop-cons bytes i 0 within in
    let tens : 10 ^ (seen + (i + 1)) ≡ 10 ^ (seen + i) * 10 =
    pow-more (seen + i) (seen + (i + 1)) (omega arith) in (
      rw (add-one, kept.0) (rw next at read),
      rw add-one (rw (next, kept.1) at digits),
      omega arith,
    )
