-- Sets of ids, as the test of whether an id is in the set.
-- Here a set is told by its test alone; the code keeps the ids in lists and tables.
use Rattle.std.specs.Prelude.{◌≡◌, ℤ, Bool, true, false, ◌||◌, List}
use Rattle.std.specs.List.{list_any}
use Rattle.std.specs.Ordering.{int_eq}

-- an id is among some ids
abbrev pub among : List ℤ → ℤ → Bool
among ids id = list_any (int_eq id) ids

-- no id is in the empty set
abbrev pub no_ids : ℤ → Bool
no_ids id = false

-- the set with one id more
abbrev pub with_id : ℤ → (ℤ → Bool) → ℤ → Bool
with_id new ids id = int_eq new id || ids id

-- the ids of one set or another
abbrev pub either : (ℤ → Bool) → (ℤ → Bool) → ℤ → Bool
either some others id = some id || others id

-- a set holds all ids of another
abbrev pub HoldsAll : (ℤ → Bool) → (ℤ → Bool) → Type 0
HoldsAll set other = (id : ℤ) → other id ≡ true → set id ≡ true
