-- Numbers that are written by their differences, by zigzag or by their bits are read back.
use Rattle.std.proofs.Common.{◌≡◌, ◌∙◌, ◌<◌, ◌+◌, ◌*◌, ◌/◌, ◌%◌, ◌^◌, ◌∷◌, [], ℕ, ℤ, pos, negsuc, ◌+ℤ◌, List, length, map, refl, ap, arith}
use Rattle.std.specs.Prelude.{◌-ℤ◌, FitsSigned}
use Rattle.std.specs.Int.{Width, w32, w64, cast_signed, cast_unsigned, int_wrap}
use Rattle.std.specs.List.{AllByRecursion as Each}
use Rattle.std.proofs.lemmas.Bool.{eq-eqb, ne_eqb}
use Rattle.std.proofs.lemmas.List.{length-map}
use Rattle.std.proofs.lemmas.Int.{SFits-int_wrap, int_wrap-add_right, int_wrap-add_same, int_wrap_fits, ints, to_z-of_z, to_z_pos}
use Rattle.osm_wire.specs.Integers.{int32, int64, sint32, uint32, unzigzagged, zigzagged}
use Rattle.osm_block_read.specs.Numbers.{running, summed}
use Rattle.osm_block_write.specs.Columns.{deltas, differences_from}
use Rattle.osm_pbf.proofs.SizeLemmas.{differences-length}

-- the sums of differences, from a number on that is the one before up to the width, are the numbers
summed-from : (w : Width) (from before : ℤ) (numbers : List ℤ) → int_wrap w from ≡ int_wrap w before →
    Each (FitsSigned w) numbers →
    map (int_wrap w) (running from (map (int_wrap w) (differences_from before numbers))) ≡ numbers
summed-from w from before [] same fit = refl
summed-from w from before (n ∷ numbers) same fit =
    let whole : before +ℤ (n -ℤ before) ≡ n = omega (arith, ints) in
    let sum : int_wrap w (from +ℤ int_wrap w (n -ℤ before)) ≡ int_wrap w n =
    int_wrap-add_right w from (n -ℤ before) ∙ int_wrap-add_same w from before (n -ℤ before) same
    ∙ ap (int_wrap w) whole in
    let next = from +ℤ int_wrap w (n -ℤ before) in
    ap
    (λ x. x ∷ map (int_wrap w) (running next (map (int_wrap w) (differences_from n numbers))))
    (sum ∙ int_wrap_fits w n fit.0)
    ∙ ap (λ more. n ∷ more) (summed-from w next n numbers sum fit.1)

-- delta coded numbers are summed to the numbers
pub deltas-summed : (w : Width) (numbers : List ℤ) → Each (FitsSigned w) numbers → summed w (deltas w numbers) ≡ numbers
deltas-summed w numbers fit = summed-from w (pos 0) (pos 0) numbers refl fit

-- a signed number's zigzag code is that of the number
pub zigzag-back : (z : ℤ) → unzigzagged (zigzagged z) ≡ z
zigzag-back (pos n) =
    let half : 2 * n / 2 ≡ n = omega arith in
    rw (eq-eqb (2 * n % 2) 0 (omega arith), half) refl
zigzag-back (negsuc n) =
    let half : (2 * n + 1) / 2 ≡ n = omega arith in
    rw (ne_eqb ((2 * n + 1) % 2) 0 (λ is. absurd (omega (arith, is))), half) refl

-- so it is with each of a list
pub zigzags-back : (numbers : List ℤ) → map unzigzagged (map zigzagged numbers) ≡ numbers
zigzags-back [] = refl
zigzags-back (z ∷ numbers) =
    ap (λ x. x ∷ map unzigzagged (map zigzagged numbers)) (zigzag-back z) ∙ ap (λ more. z ∷ more) (zigzags-back numbers)

-- a zigzag code of a number of 64 bits has 64 bits
pub zigzag-fits64 : (z : ℤ) → FitsSigned w64 z → zigzagged z < 2 ^ 64
zigzag-fits64 (pos n) fits = omega (arith, fits.sfits)
zigzag-fits64 (negsuc n) fits = omega (arith, fits.sfits)

-- a zigzag code of a number of 32 bits has 32 bits
zigzag-fits32 : (z : ℤ) → FitsSigned w32 z → zigzagged z < 2 ^ 32
zigzag-fits32 (pos n) fits = omega (arith, fits.sfits)
zigzag-fits32 (negsuc n) fits = omega (arith, fits.sfits)

-- and is read back of 32 bits
sint32-back : (z : ℤ) → FitsSigned w32 z → sint32 (zigzagged z) ≡ z
sint32-back z fits =
    let low : zigzagged z % 2 ^ 32 ≡ zigzagged z = omega (arith, zigzag-fits32 z fits) in
    ap unzigzagged low ∙ zigzag-back z

-- a delta coded column of 64 bits is read back
pub column64-back : (numbers : List ℤ) → Each (FitsSigned w64) numbers →
    summed w64 (map unzigzagged (map zigzagged (deltas w64 numbers))) ≡ numbers
column64-back numbers fit = ap (summed w64) (zigzags-back (deltas w64 numbers)) ∙ deltas-summed w64 numbers fit

-- codes of 32 bits are read back
sint32s-back : (numbers : List ℤ) → map sint32 (map zigzagged (map (int_wrap w32) numbers)) ≡ map (int_wrap w32) numbers
sint32s-back [] = refl
sint32s-back (z ∷ numbers) =
    ap (λ x. x ∷ map sint32 (map zigzagged (map (int_wrap w32) numbers)))
    (sint32-back (int_wrap w32 z) (SFits-int_wrap w32 z))
    ∙ ap (λ more. int_wrap w32 z ∷ more) (sint32s-back numbers)

-- a delta coded column of 32 bits is read back
pub column32-back : (numbers : List ℤ) → Each (FitsSigned w32) numbers →
    summed w32 (map sint32 (map zigzagged (deltas w32 numbers))) ≡ numbers
column32-back numbers fit =
    ap (summed w32) (sint32s-back (differences_from (pos 0) numbers)) ∙ deltas-summed w32 numbers fit

-- each code of 64 bits has 64 bits
codes64 : (numbers : List ℤ) → Each (λ n. n < 2 ^ 64) (map zigzagged (map (int_wrap w64) numbers))
codes64 [] = tt
codes64 (z ∷ numbers) = (zigzag-fits64 (int_wrap w64 z) (SFits-int_wrap w64 z), codes64 numbers)

-- each code of 32 bits has 64 bits too
codes32 : (numbers : List ℤ) → Each (λ n. n < 2 ^ 64) (map zigzagged (map (int_wrap w32) numbers))
codes32 [] = tt
codes32 (z ∷ numbers) = (
  omega (arith, zigzag-fits32 (int_wrap w32 z) (SFits-int_wrap w32 z)),
  codes32 numbers,
)

-- each code of a delta coded column of 64 bits has 64 bits
pub column64-codes : (numbers : List ℤ) → Each (λ n. n < 2 ^ 64) (map zigzagged (deltas w64 numbers))
column64-codes numbers = codes64 (differences_from (pos 0) numbers)

-- so has each of a delta coded column of 32 bits
pub column32-codes : (numbers : List ℤ) → Each (λ n. n < 2 ^ 64) (map zigzagged (deltas w32 numbers))
column32-codes numbers = codes32 (differences_from (pos 0) numbers)

-- a delta coded column has as many codes as numbers
pub codes-length : (w : Width) (numbers : List ℤ) → length (map zigzagged (deltas w numbers)) ≡ length numbers
codes-length w numbers =
    length-map (deltas w numbers) zigzagged ∙ length-map (differences_from (pos 0) numbers) (int_wrap w)
    ∙ differences-length (pos 0) numbers

-- a number below 2^32 is its low 32 bits
pub uint32-back : (n : ℕ) → n < 2 ^ 32 → uint32 n ≡ n
uint32-back n small = omega (arith, small)

-- a number below 2^31 is read back as a signed number of 32 bits
pub int32-back : (n : ℕ) → n < 2 ^ 31 → int32 n ≡ pos n
int32-back n small = ap (cast_signed w32) (uint32-back n (omega (arith, small))) ∙ to_z_pos w32 n small

-- a number below 2^63 is read back as a signed number of 64 bits
pub int64-back : (n : ℕ) → n < 2 ^ 63 → int64 n ≡ pos n
int64-back n small = to_z_pos w64 n small

-- the bits of a signed number are read back
pub id-back : (z : ℤ) → FitsSigned w64 z → int64 (cast_unsigned w64 z) ≡ z
id-back z fits = to_z-of_z w64 z fits

-- and are 64
pub id-fits : (z : ℤ) → FitsSigned w64 z → cast_unsigned w64 z < 2 ^ 64
id-fits (pos n) fits = omega (arith, fits.sfits)
id-fits (negsuc n) fits = omega (arith, fits.sfits)
