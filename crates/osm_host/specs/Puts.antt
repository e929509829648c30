-- What a sink took of bytes that it didn't take whole.
-- Here only their count is told; the code of a sink stops where its device did.
use Rattle.std.specs.Prelude.{ℕ, ◌≡◌, ◌≤◌, List, length, take, Option}
use Rattle.std.specs.Io.KnownBytes.{append_known}

-- a sink took a prefix of these bytes
abbrev pub TakesPrefix : List ℕ → Option (List ℕ) → Option (List ℕ) → Type 0
TakesPrefix bytes before now = (k : ℕ) × (k ≤ length bytes) × (now ≡ append_known before (take k bytes))
