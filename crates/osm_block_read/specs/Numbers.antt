-- Lists of numbers that blocks code by their differences.
-- Here the differences of a whole list are summed, and each sum is then taken to its bits; the code wraps on the way.
use Rattle.std.specs.Prelude.{ℤ, pos, ◌+ℤ◌, List, [], ◌∷◌, map}
use Rattle.std.specs.Int.{Width, int_wrap}

-- the sums of a list's numbers up to each of them, from a number on
abbrev pub running : ℤ → List ℤ → List ℤ
running from [] = []
running from (x ∷ xs) = (from +ℤ x) ∷ running (from +ℤ x) xs

-- the numbers of a list of differences: their sums from 0 on, each taken modulo the width as a signed number
abbrev pub summed : Width → List ℤ → List ℤ
summed w differences = map (int_wrap w) (running (pos 0) differences)
