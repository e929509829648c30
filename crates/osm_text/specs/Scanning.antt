-- Searches for the first of two bytes.
-- Here a byte is tested alone; the code compares sixteen at once.
use Rattle.std.specs.Prelude.{ℕ, Bool, ◌==◌, ◌||◌}

-- a byte is one of two
abbrev pub is_one_of_two : ℕ → ℕ → ℕ → Bool
is_one_of_two one other b = (b == one) || (b == other)
