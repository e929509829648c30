-- Sums that are wrapped on the way are the sums wrapped at the end.
use Rattle.std.proofs.Common.{◌≡◌, ◌∙◌, ◌<◌, ◌⊎◌, inl, inr, ◌+◌, ◌∷◌, [], ℕ, zero, suc, ℤ, pos, ◌+ℤ◌, List, length, map, get_or, refl, sym, ap, add-one, arith}
use Rattle.std.proofs.lemmas.List.{length-map, get_or-map, nil_from_length}
use Rattle.std.specs.Int.{Width, int_wrap}
use Rattle.std.proofs.lemmas.Int.{int_wrap-add_left}
use Rattle.osm_block_read.specs.DenseCodes.{sum_before}
use Rattle.osm_block_read.specs.Numbers.{running, summed}

-- a start that was wrapped gives the same wrapped sums
pub running-wrapped : (w : Width) (from : ℤ) (xs : List ℤ) →
    map (int_wrap w) (running (int_wrap w from) xs) ≡ map (int_wrap w) (running from xs)
running-wrapped w from [] = refl
running-wrapped w from (x ∷ xs) =
    let same = int_wrap-add_left w from x in
    let tail =
    sym (running-wrapped w (int_wrap w from +ℤ x) xs) ∙ ap (λ s. map (int_wrap w) (running s xs)) same
    ∙ running-wrapped w (from +ℤ x) xs in
    rw (same, tail) refl

-- a running sum has as many numbers as its list
length-running : (from : ℤ) (xs : List ℤ) → length (running from xs) ≡ length xs
length-running from [] = refl
length-running from (x ∷ xs) = ap suc (length-running (from +ℤ x) xs)

pub length-summed : (w : Width) (value : ℕ → ℤ) (codes : List ℕ) → length (summed w (map value codes)) ≡ length codes
length-summed w value codes =
    length-map (running (pos 0) (map value codes)) (int_wrap w) ∙ length-running (pos 0) (map value codes)
    ∙ length-map codes value

-- each running sum is the one before and the number at its place
running-next : (from : ℤ) (xs : List ℤ) (n : ℕ) → suc n < length xs →
    get_or (running from xs) (suc n) (pos 0) ≡ get_or (running from xs) n (pos 0) +ℤ get_or xs (suc n) (pos 0)
running-next from [] n within = absurd (omega (arith, within))
running-next from (x ∷ []) n within = absurd (omega (arith, within))
running-next from (x ∷ y ∷ xs) zero within = refl
running-next from (x ∷ y ∷ xs) (suc n) within = running-next (from +ℤ x) (y ∷ xs) n (omega (arith, within))

-- the sum at a place is that of the codes up to it
pub summed-at : (w : Width) (value : ℕ → ℤ) (codes : List ℕ) (n : ℕ) → n < length codes →
    get_or (summed w (map value codes)) n (pos 0) ≡ sum_before w value codes (suc n)
summed-at w value [] zero within = absurd (omega (arith, within))
summed-at w value (code ∷ codes) zero within = refl
summed-at w value codes (suc n) within =
    let xs : List ℤ = map value codes in
    let long : length xs ≡ length codes = length-map codes value in
    let sums : length (running (pos 0) xs) ≡ length codes = length-running (pos 0) xs ∙ long in
    get_or-map (int_wrap w) (running (pos 0) xs) (suc n) (pos 0) (pos 0) (omega (arith, within, sums))
    ∙ ap (int_wrap w) (running-next (pos 0) xs n (omega (arith, within, long)))
    ∙ ap (λ x. int_wrap w (get_or (running (pos 0) xs) n (pos 0) +ℤ x))
    (get_or-map value codes (suc n) 0 (pos 0) within)
    ∙ sym (int_wrap-add_left w (get_or (running (pos 0) xs) n (pos 0)) (value (get_or codes (suc n) 0)))
    ∙ ap (λ sum. int_wrap w (sum +ℤ value (get_or codes (suc n) 0)))
    (sym (get_or-map (int_wrap w) (running (pos 0) xs) n (pos 0) (pos 0) (omega (arith, within, sums)))
    ∙ summed-at w value codes n (omega (arith, within)))

-- no codes sum up to 0
sum_before-none : (w : Width) (value : ℕ → ℤ) (n : ℕ) → value 0 ≡ pos 0 → int_wrap w (pos 0) ≡ pos 0 →
    sum_before w value [] n ≡ pos 0
sum_before-none w value zero none wrapped = refl
sum_before-none w value (suc n) none wrapped =
    ap (λ sum. int_wrap w (sum +ℤ value 0)) (sum_before-none w value n none wrapped)
    ∙ ap (λ x. int_wrap w (pos 0 +ℤ x)) none ∙ wrapped

-- the sum at a place of a list that is empty, or has this length
pub sum-at : (w : Width) (value : ℕ → ℤ) (codes : List ℕ) (count n : ℕ) → value 0 ≡ pos 0 → int_wrap w (pos 0) ≡ pos 0 →
    (length codes ≡ 0) ⊎ (length codes ≡ count) → n < count →
    get_or (summed w (map value codes)) n (pos 0) ≡ sum_before w value codes (suc n)
sum-at w value codes count n none wrapped (inl empty) within =
    let none_left : codes ≡ [] = nil_from_length codes empty in
    ap (λ list. get_or (summed w (map value list)) n (pos 0)) none_left
    ∙ sym (sum_before-none w value (suc n) none wrapped)
    ∙ ap (λ list. sum_before w value list (suc n)) (sym none_left)
sum-at w value codes count n none wrapped (inr full) within = summed-at w value codes n (omega (arith, full, within))

-- the sum of one code more
pub sum_before-more : (w : Width) (value : ℕ → ℤ) (codes : List ℕ) (n : ℕ) (sum next : ℤ) →
    sum ≡ sum_before w value codes n →
    next ≡ int_wrap w (sum +ℤ value (get_or codes n 0)) → next ≡ sum_before w value codes (n + 1)
sum_before-more w value codes n sum next before is =
    is ∙ ap (λ s. int_wrap w (s +ℤ value (get_or codes n 0))) before ∙ ap (sum_before w value codes) (sym (add-one n))

-- the same of sums that have gone through their bits, and of a slice of the codes
pub sum-added : (w : Width) (value : ℕ → ℤ) (codes slice : List ℕ) (n : ℕ) (sum held next shown : ℤ) →
    sum ≡ sum_before w value codes n →
    next ≡ int_wrap w (held +ℤ value (get_or slice n 0)) → slice ≡ codes → held ≡ sum → shown ≡ next →
    shown ≡ sum_before w value codes (n + 1)
sum-added w value codes slice n sum held next shown before is same kept stays =
    stays
    ∙ sum_before-more w value codes n sum next before
    (is ∙ ap (λ s. int_wrap w (s +ℤ value (get_or slice n 0))) kept
    ∙ ap (λ list. int_wrap w (sum +ℤ value (get_or list n 0))) same)
