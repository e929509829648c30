-- One list is a prefix of another, whatever their elements.
-- Here both lists are whole; the code gives and takes them element by element.
use Rattle.std.specs.Prelude.{◌≡◌, List, ◌++◌}

-- a list is a prefix of another: the other is that list and then a rest
pub record IsPrefix {T : Type 0} (prefix whole : List T) : Type 0 where
  pub rest : List T
  pub joined : whole ≡ prefix ++ rest
