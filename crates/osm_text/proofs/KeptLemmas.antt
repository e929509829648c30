-- What a number tells that was kept by a test.
use Rattle.std.proofs.Common.{◌≡◌, ℕ, Bool, true, false, None, Some, refl}
use Rattle.std.specs.Prelude.{if◌then◌else◌}

-- a number kept by a test is that number, and the test passed
pub kept_some : (test : Bool) (n k : ℕ) → Some k ≡ (if test then Some n else None) → (k ≡ n) × (test ≡ true)
kept_some true n k is = (cc, refl)
kept_some false n k is = cc

-- where a test kept no number, it failed
pub kept_none : (test : Bool) (n : ℕ) → None ≡ (if test then Some n else None) → test ≡ false
kept_none true n is = cc
kept_none false n is = refl
