-- Sums over the numbers below n: by their terms, and where one term changes.
use Rattle.std.proofs.Common.{◌≡◌, ℕ, zero, suc, ◌<◌, ◌≤◌, ◌+◌, ◌*◌, inl, inr, refl, sym, ap, arith}
use Rattle.std.specs.Prelude.{◌≢◌}
use Rattle.std.proofs.lemmas.Bool.{cases_eq}
use Rattle.osm_net.specs.Meaning.{sum_below}

pub sum_same : (f g : ℕ → ℕ) (n : ℕ) → ((k : ℕ) → k < n → f k ≡ g k) → sum_below f n ≡ sum_below g n
sum_same f g zero same = refl
sum_same f g (suc n) same =
    let below = sum_same f g n (λ k less. same k (omega arith)) in let last = same n (omega arith) in omega arith

pub sum_up : (f g : ℕ → ℕ) (n : ℕ) → ((k : ℕ) → k < n → f k ≤ g k) → sum_below f n ≤ sum_below g n
sum_up f g zero up = omega arith
sum_up f g (suc n) up =
    let below = sum_up f g n (λ k less. up k (omega arith)) in let last = up n (omega arith) in omega arith

-- where two functions agree at all numbers but one, their sums differ by what they differ there
pub sum_one : (f g : ℕ → ℕ) (at n : ℕ) → at < n → ((k : ℕ) → k ≢ at → f k ≡ g k) →
    sum_below f n + g at ≡ sum_below g n + f at
sum_one f g at zero known same = absurd (omega (arith, known))
sum_one f g at (suc n) known same = elim (cases_eq at n) [
  | inl is ↦
      let below = sum_same f g n (λ k less. same k (λ there. omega (arith, less, there, is))) in
      let here : f at ≡ f n = ap f is in
      let there : g at ≡ g n = ap g is in
      omega (arith, below, here, there)
  | inr not ↦
      let below = sum_one f g at n (omega (arith, known, not)) same in
      let last = same n (λ there. not (sym there)) in
      omega (arith, below, last)
]

pub sum_none : (n : ℕ) → sum_below (λ k. 0) n ≡ 0
sum_none zero = refl
sum_none (suc n) = let below = sum_none n in omega arith

pub sum_twice : (f : ℕ → ℕ) (n : ℕ) → sum_below (λ k. f k + f k) n ≡ 2 * sum_below f n
sum_twice f zero = refl
sum_twice f (suc n) = let below = sum_twice f n in omega arith

-- one term is no more than the sum
pub sum_term : (f : ℕ → ℕ) (at n : ℕ) → at < n → f at ≤ sum_below f n
sum_term f at zero known = absurd (omega (arith, known))
sum_term f at (suc n) known = elim (cases_eq at n) [
  | inl is ↦ let here : f at ≡ f n = ap f is in omega (arith, here)
  | inr not ↦ let below = sum_term f at n (omega (arith, known, not)) in omega (arith, below)
]
