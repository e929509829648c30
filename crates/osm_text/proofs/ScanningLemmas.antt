-- From the marks of compared lanes to the position of the first byte that passes a test.
use Rattle.std.proofs.Common.{◌≡◌, ◌∙◌, ℕ, ◌+◌, ◌-◌, ◌%◌, ◌^◌, ◌<◌, ◌≤◌, Bool, true, false, List, length, take, drop, get_or, map, replicate, bit_or, cond, eqb, leb, None, Some, refl, ap, arith, inl, inr}
use Rattle.std.specs.Prelude.{if◌then◌else◌, ◌==◌, ◌||◌, nat_le}
use Rattle.std.specs.Int.{trailing_zeros, w64}
use Rattle.std.specs.List.{position, position_or_len}
use Rattle.std.proofs.lemmas.Bool.{cases_lt, lt-ltb, le-ltb}
use Rattle.std.proofs.lemmas.List.{length-map}
use Rattle.std.proofs.lemmas.List.Sums.{fails_before_first, passes_at_first, position_or_len_is}
use Rattle.std.proofs.lemmas.Simd.{map-map, mask_l-mod, length-chunk, get_or-chunk, first_set_mask_l, zip2_splat, zip2_of_maps}
use lib.Lanes.{chunk, zip2, mask_l, top}
use Rattle.osm_text.specs.Escapes.{is_reserved}
use Rattle.osm_text.specs.Scanning.{is_one_of_two}

-- the lowest mark of lanes is that of the first that passes
first-from_marks : (test : ℕ → Bool) (f : ℕ → ℕ) (v z : List ℕ) (n run : ℕ) → length v ≡ n → n ≤ 64 → z ≡ map f v →
    ((x : ℕ) → top 7 (f x) ≡ test x) →
    run ≡ (if mask_l (map (top 7) z) % 2 ^ 64 == 0 then n else trailing_zeros w64 (mask_l (map (top 7) z) % 2 ^ 64)) →
    run ≡ position_or_len test v
first-from_marks test f v z n run long few lanes agree found =
    let mask : mask_l (map (top 7) z) % 2 ^ 64 ≡ mask_l (map test v) =
    ap (λ l. mask_l (map (top 7) l) % 2 ^ 64) lanes
    ∙ ap (λ l. mask_l l % 2 ^ 64) (map-map (top 7) f v)
    ∙ ap (λ (t : ℕ → Bool). mask_l (map t v) % 2 ^ 64) (λ i x. agree x i)
    ∙ mask_l-mod (map test v) 64 (omega (arith, length-map v test, long)) in
    found ∙ ap (λ m. if m == 0 then n else trailing_zeros w64 m) mask ∙ first_set_mask_l test v n long few

-- a lane that is set is marked
marked : (a : Bool) → top 7 (cond a 255 0) ≡ a
marked true = refl
marked false = refl

-- a lane is set where one of two is
set-either : (a b : Bool) → bit_or (cond a 255 0) (cond b 255 0) ≡ cond (a || b) 255 0
set-either true true = refl
set-either true false = refl
set-either false true = refl
set-either false false = refl

-- the lanes of a test, which are set where it passes
abbrev lanes_of : (ℕ → Bool) → List ℕ → List ℕ
lanes_of test v = map (λ x. cond (test x) 255 0) v

-- the lanes of two tests, joined
either-lanes : (p q : ℕ → Bool) (v : List ℕ) {a b : List ℕ} → a ≡ lanes_of p v → b ≡ lanes_of q v →
    zip2 bit_or a b ≡ lanes_of (λ x. p x || q x) v
either-lanes p q v first second =
    zip2_of_maps bit_or _ _ v first second ∙ ap (λ (f : ℕ → ℕ). map f v) (λ i x. set-either (p x) (q x) i)

-- the lanes that equal a byte
abbrev equal_lanes : List ℕ → ℕ → ℕ → List ℕ
equal_lanes v n b = zip2 (λ a c. cond (eqb a c) 255 0) v (replicate n b)

-- the lanes that are no greater than a byte
abbrev low_lanes : List ℕ → ℕ → ℕ → List ℕ
low_lanes v n b = zip2 (λ a c. cond (leb a c) 255 0) v (replicate n b)

-- they are the lanes of that test
equal-set : (v : List ℕ) (n b : ℕ) → length v ≡ n → equal_lanes v n b ≡ lanes_of (λ x. x == b) v
equal-set v n b long = zip2_splat _ v n b long

-- and these of that
low-set : (v : List ℕ) (n b : ℕ) → length v ≡ n → low_lanes v n b ≡ lanes_of (λ x. nat_le x b) v
low-set v n b long = zip2_splat _ v n b long

-- the first mark of lanes
abbrev first_mark : List ℕ → ℕ → ℕ
first_mark z n =
    let m = mask_l (map (top 7) z) % 2 ^ 64 in
    if m == 0 then n else trailing_zeros w64 m

-- of the lanes of a load the first mark is that of the first byte that passes
first-of_test : (test : ℕ → Bool) (bytes : List ℕ) (at n run : ℕ) (z : List ℕ) → at + n ≤ length bytes → n ≤ 64 →
    z ≡ lanes_of test (chunk at n bytes) → run ≡ first_mark z n → run ≡ position_or_len test (take n (drop at bytes))
first-of_test test bytes at n run z room few lanes found =
    first-from_marks test _ (chunk at n bytes) z n run (length-chunk at n bytes room) few lanes (λ x. marked (test x))
    found

-- the first of two bytes
pub first-of_two : (bytes : List ℕ) (at n one other run : ℕ) → at + n ≤ length bytes → n ≤ 64 →
    run ≡ first_mark (zip2 bit_or (equal_lanes (chunk at n bytes) n one) (equal_lanes (chunk at n bytes) n other)) n →
    run ≡ position_or_len (is_one_of_two one other) (take n (drop at bytes))
first-of_two bytes at n one other run room few found =
    let v = chunk at n bytes in
    let long = length-chunk at n bytes room in
    first-of_test (is_one_of_two one other) bytes at n run _ room few
    (either-lanes (λ x. x == one) (λ x. x == other) v (equal-set v n one long) (equal-set v n other long)) found

-- the first reserved byte
pub first-of_reserved : (bytes : List ℕ) (at n run : ℕ) → at + n ≤ length bytes → n ≤ 64 →
    run ≡ first_mark (zip2 bit_or (zip2 bit_or (zip2 bit_or (zip2 bit_or (zip2 bit_or
    (low_lanes (chunk at n bytes) n 32) (equal_lanes (chunk at n bytes) n 37))
    (equal_lanes (chunk at n bytes) n 44)) (equal_lanes (chunk at n bytes) n 61))
    (equal_lanes (chunk at n bytes) n 64)) (equal_lanes (chunk at n bytes) n 127)) n →
    run ≡ position_or_len is_reserved (take n (drop at bytes))
first-of_reserved bytes at n run room few found =
    let v = chunk at n bytes in
    let long = length-chunk at n bytes room in
    let percent = either-lanes (λ x. nat_le x 32) (λ x. x == 37) v (low-set v n 32 long) (equal-set v n 37 long) in
    let comma = either-lanes _ (λ x. x == 44) v percent (equal-set v n 44 long) in
    let equals = either-lanes _ (λ x. x == 61) v comma (equal-set v n 61 long) in
    let at_sign = either-lanes _ (λ x. x == 64) v equals (equal-set v n 64 long) in
    first-of_test is_reserved bytes at n run _ room few
    (either-lanes _ (λ x. x == 127) v at_sign (equal-set v n 127 long)) found

-- a run within the bytes ends at their first byte that passes, where none does before the run
pub position-in_run : (test : ℕ → Bool) (bytes : List ℕ) (at base n run : ℕ) →
    ((k : ℕ) → k < at → test (get_or bytes k 0) ≡ false) → base ≤ at → base + n ≤ length bytes →
    run ≡ position_or_len test (take n (drop base bytes)) → run < n → Some (base + run) ≡ position test bytes
position-in_run test bytes at base n run none before room is short =
    let long = length-chunk base n bytes room in
    let here = get_or-chunk base n bytes run 0 short in
    let passes = passes_at_first test (take n (drop base bytes)) 0 (omega (arith, is, long)) in
    let first : position_or_len test bytes ≡ base + run =
    position_or_len_is test bytes (base + run) 0 (omega arith)
    (λ k below. elim (cases_lt k at) [
      | inl early ↦ none k early
      | inr late ↦
          let back : base + (k - base) ≡ k = omega arith in
          let there = get_or-chunk base n bytes (k - base) 0 (omega arith) in
          rw (there, back) at (fails_before_first test (take n (drop base bytes)) (k - base) 0 (omega (arith, is)))
    ])
    (λ _. rw (← is, here) at passes) in
    rw (first, lt-ltb (base + run) (length bytes) (omega arith))

-- a run that isn't cut short adds bytes that don't pass
pub none-in_run : (test : ℕ → Bool) (bytes : List ℕ) (at base n run : ℕ) →
    ((k : ℕ) → k < at → test (get_or bytes k 0) ≡ false) → base ≤ at → base + n ≤ length bytes →
    run ≡ position_or_len test (take n (drop base bytes)) → n ≤ run →
    (k : ℕ) → k < base + n → test (get_or bytes k 0) ≡ false
none-in_run test bytes at base n run none before room is whole k below =
    elim (cases_lt k at) [
      | inl early ↦ none k early
      | inr late ↦
          let back : base + (k - base) ≡ k = omega arith in
          let there = get_or-chunk base n bytes (k - base) 0 (omega arith) in
          rw (there, back) at (fails_before_first test (take n (drop base bytes)) (k - base) 0 (omega (arith, is)))
    ]

-- where no byte passes there is no position
pub position-none : (test : ℕ → Bool) (bytes : List ℕ) →
    ((k : ℕ) → k < length bytes → test (get_or bytes k 0) ≡ false) → None ≡ position test bytes
position-none test bytes none =
    let past : position_or_len test bytes ≡ length bytes =
    position_or_len_is test bytes (length bytes) 0 (omega arith) none (λ below. absurd (omega arith)) in
    rw (past, le-ltb (length bytes) (length bytes) (omega arith))
