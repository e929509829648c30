-- What a file took of bytes that were to be written, where it tells what it holds.
-- Here the bytes are parted once; the code writes them piece by piece, up to a write that fails.
use Rattle.std.specs.Prelude.{◌≡◌, ℕ, List, ◌++◌, Option}
use Rattle.std.specs.Io.KnownBytes.{Appends}

-- known bytes grow by a prefix of these
abbrev pub AppendsPrefix : Option (List ℕ) → Option (List ℕ) → List ℕ → Type 0
AppendsPrefix before now bytes = (taken rest : List ℕ) × (bytes ≡ taken ++ rest) × Appends before now taken
