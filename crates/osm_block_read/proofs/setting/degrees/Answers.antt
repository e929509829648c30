use Rattle.std.proofs.Common.{◌≡◌, ◌≤◌, ◌^◌, ◌+ℤ◌, ◌*ℤ◌, ℤ, SFits, to_z, of_z, w32, w64, arith}
use Rattle.std.specs.Int.{w128}
use Rattle.std.specs.Prelude.{unsigned_abs}
use Rattle.std.proofs.lemmas.Int.{ints, to_z-of_z, fits_signed_from_abs, unsigned_abs-mul}
use Rattle.std.proofs.lemmas.Nat.{mul-le}
use Rattle.osm_block_read.proofs.setting.degrees.Goals as goal

-- a number of 64 or 32 bits as one of 128
wide64 : (z : ℤ) → SFits w64 z → to_z w128 (of_z w128 (to_z w64 (of_z w64 z))) ≡ z
wide64 z fits = omega (arith, ints)

wide32 : (z : ℤ) → SFits w32 z → to_z w128 (of_z w128 (to_z w32 (of_z w32 z))) ≡ z
wide32 z fits = omega (arith, ints)

-- the product has 128 bits
product : (g v : ℤ) → SFits w32 g → SFits w64 v → unsigned_abs (g *ℤ v) ≤ 2 ^ 94
product g v fits_g fits_v =
    let small_g : unsigned_abs g ≤ 2 ^ 31 = omega (arith, ints, fits_g) in
    let small_v : unsigned_abs v ≤ 2 ^ 63 = omega (arith, ints, fits_v) in
    rw (unsigned_abs-mul g v) (mul-le (unsigned_abs g) (unsigned_abs v) (2 ^ 31) (2 ^ 63) small_g small_v)

total : (o p : ℤ) → SFits w64 o → unsigned_abs p ≤ 2 ^ 94 → SFits w128 (o +ℤ p)
total o p fits small = omega (arith, ints, fits, small)

pub overflow_add-result : goal.overflow_add-result
overflow_add-result c =
    let p = product c.args.granularity c.args.value c.ranges.granularity c.ranges.value in
    rw (
      wide64 c.args.offset c.ranges.offset,
      wide32 c.args.granularity c.ranges.granularity,
      wide64 c.args.value c.ranges.value,
      to_z-of_z w128 (c.args.granularity *ℤ c.args.value) (fits_signed_from_abs w128
          (c.args.granularity *ℤ c.args.value) (omega (arith, p))),
    )
    (total c.args.offset (c.args.granularity *ℤ c.args.value) c.ranges.offset p)

pub returns : goal.returns
returns c =
    let p = product c.args.granularity c.args.value c.ranges.granularity c.ranges.value in
    let sum = total c.args.offset (c.args.granularity *ℤ c.args.value) c.ranges.offset p in
    rw (
      wide64 c.args.offset c.ranges.offset,
      wide32 c.args.granularity c.ranges.granularity,
      wide64 c.args.value c.ranges.value,
      to_z-of_z w128 (c.args.granularity *ℤ c.args.value) (fits_signed_from_abs w128
          (c.args.granularity *ℤ c.args.value) (omega (arith, p))),
    )
    (to_z-of_z w128 (c.args.offset +ℤ (c.args.granularity *ℤ c.args.value)) sum)
