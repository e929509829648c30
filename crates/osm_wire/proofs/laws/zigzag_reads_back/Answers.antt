use Rattle.std.proofs.Common.{◌≡◌, ◌+◌, ◌*◌, ◌/◌, ◌%◌, ℕ, ℤ, pos, negsuc, refl, inl, inr, arith}
use Rattle.std.proofs.lemmas.Bool.{cases_eq, eq-eqb, ne_eqb}
use Rattle.osm_wire.specs.Integers.{unzigzagged, zigzagged}
use Rattle.osm_wire.proofs.laws.zigzag_reads_back.Goals as goal

-- a signed number's code is that of the number
signed : (z : ℤ) → unzigzagged (zigzagged z) ≡ z
signed (pos n) =
    let half : 2 * n / 2 ≡ n = omega arith in
    rw (eq-eqb (2 * n % 2) 0 (omega arith), half) refl
signed (negsuc n) =
    let half : (2 * n + 1) / 2 ≡ n = omega arith in
    rw (ne_eqb ((2 * n + 1) % 2) 0 (λ is. absurd (omega (arith, is))), half) refl

-- a code is that of its number
code : (n : ℕ) → zigzagged (unzigzagged n) ≡ n
code n = elim (cases_eq (n % 2) 0) [
  | inl even ↦ rw (eq-eqb (n % 2) 0 even) (omega (arith, even))
  | inr odd ↦ rw (ne_eqb (n % 2) 0 odd) (omega (arith, odd))
]

pub returns-clause-signed : goal.returns-clause-signed
returns-clause-signed c = signed

pub returns-clause-code : goal.returns-clause-code
returns-clause-code c = code
