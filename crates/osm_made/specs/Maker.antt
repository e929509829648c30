-- A generator as contracts see it: what it makes, and how far it is.
-- Here what it has yet to give is a list; the code makes each item when it is asked for.
use Rattle.std.specs.Prelude.{ℕ, ◌-◌, ◌≤◌, List, drop}
use Rattle.osm_entity.specs.Items.{ItemValue}
use Rattle.osm_made.specs.Generator.{made_list}

-- a generator: how many items it makes, of which seed, and how many it gave
pub record MadeValue : Type 0 where
  pub count : ℕ
  pub seed : ℕ
  pub given : ℕ

-- what a generator has yet to give: all its items but those that it gave
abbrev pub items_to_come : MadeValue → List ItemValue
items_to_come m = drop m.given (made_list m.count m.seed)

-- how many items a generator has yet to give
abbrev pub count_to_come : MadeValue → ℕ
count_to_come m = m.count - m.given

-- a generator gave no more than it makes
abbrev pub IsGenerator : MadeValue → Type 0
IsGenerator m = m.given ≤ m.count
