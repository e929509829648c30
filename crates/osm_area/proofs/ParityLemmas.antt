-- Odd and even numbers, and how many pass in a list with one element more.
use Rattle.std.proofs.Common.{◌≡◌, ◌+◌, ◌<◌, ◌%◌, ℕ, zero, suc, Bool, true, false, cond, List, [], ◌∷◌, ◌++◌, refl, ap, sym, arith, ◌∙◌}
use Rattle.std.specs.Prelude.{not}
use Rattle.std.specs.List.{count_by}
use Rattle.std.proofs.lemmas.List.Sums.{sum_by-append}
use Rattle.osm_area.specs.Edges.{is_odd}
use mathlib.Core.Bool.{beq}

-- one where a test holds, else nothing
abbrev pub one_if : Bool → ℕ
one_if b = cond b 1 0

-- by the rest of a division by 2
odd-next_by : (n r : ℕ) → n % 2 ≡ r → r < 2 → is_odd (n + 1) ≡ not (is_odd n)
odd-next_by n zero even _ = let next : (n + 1) % 2 ≡ 1 = omega arith in rw (even, next) refl
odd-next_by n (suc zero) odd _ = let next : (n + 1) % 2 ≡ 0 = omega arith in rw (odd, next) refl
odd-next_by n (suc (suc r)) e less = absurd (omega arith)

-- the number after an odd one is even, and the other way round
pub odd-next : (n : ℕ) → is_odd (n + 1) ≡ not (is_odd n)
odd-next n = odd-next_by n (n % 2) refl (omega arith)

-- one that counts turns odd and even
pub odd-more : (n : ℕ) (more : Bool) → is_odd (n + cond more 1 0) ≡ not (beq more (is_odd n))
odd-more n true = odd-next n ∙ not-beq_true (is_odd n) where
  not-beq_true : (b : Bool) → not b ≡ not (beq true b)
  not-beq_true true = refl
  not-beq_true false = refl
odd-more n false = ap is_odd (omega arith) ∙ not-beq_false (is_odd n) where
  not-beq_false : (b : Bool) → b ≡ not (beq false b)
  not-beq_false true = refl
  not-beq_false false = refl

-- a list with one element more
pub count_by-more : {X : Type 0} (p : X → Bool) (xs : List X) (x : X) →
    count_by p (xs ++ x ∷ []) ≡ count_by p xs + cond (p x) 1 0
count_by-more p xs x = omega (arith, sum_by-append (λ y. cond (p y) 1 0) xs (x ∷ []))

-- a sum is odd where one of its parts is
pub odd-sum : (m n : ℕ) → is_odd (m + n) ≡ not (beq (is_odd m) (is_odd n))
odd-sum zero n = ap is_odd (omega arith) ∙ beq_even (is_odd n) where
  beq_even : (b : Bool) → b ≡ not (beq false b)
  beq_even true = refl
  beq_even false = refl
odd-sum (suc m) n =
    let whole : suc m + n ≡ m + n + 1 = omega arith in
    let part : suc m ≡ m + 1 = omega arith in
    ap is_odd whole ∙ odd-next (m + n) ∙ ap not (odd-sum m n) ∙
    sym (ap (λ b. not (beq b (is_odd n))) (ap is_odd part ∙ odd-next m) ∙ turned (is_odd m) (is_odd n)) where
      turned : (a b : Bool) → not (beq (not a) b) ≡ not (not (beq a b))
      turned true true = refl
      turned true false = refl
      turned false true = refl
      turned false false = refl

-- one or the other of three, taken from the left or from the right
pub xor-rest : (a b c : Bool) → not (beq a (not (beq b c))) ≡ not (beq (not (beq a b)) c)
xor-rest true true true = refl
xor-rest true true false = refl
xor-rest true false true = refl
xor-rest true false false = refl
xor-rest false true true = refl
xor-rest false true false = refl
xor-rest false false true = refl
xor-rest false false false = refl

-- a list with one element more before it
pub count_by-first : {X : Type 0} (p : X → Bool) (x : X) (xs : List X) →
    count_by p (x ∷ xs) ≡ one_if (p x) + count_by p xs
count_by-first p x xs = omega (arith, sum_by-append (λ y. cond (p y) 1 0) (x ∷ []) xs)
