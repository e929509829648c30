-- Which of two items of one key a merge gives.
-- Here the rule is told by numbers and a tie; the code compares the fields of both entities.
use Rattle.std.specs.Prelude.{refl, ℕ, Bool, true, false, ◌&&◌, ◌||◌, ◌==◌, nat_lt, if◌then◌else◌, Option, Some, None}
use Rattle.osm_entity.specs.Items.{ItemValue, key_of}
use Rattle.osm_entity.specs.declared.kind.Key.{Key}
use Rattle.osm_entity.specs.declared.options.Resolution.{Resolution}
use Rattle.osm_entity.specs.declared.options.Resolution.TheVariants.{Version, Timestamp, LastSource}
use Rattle.osm_merge.specs.Rules.{Choice, HasKey, IsChoice}
use Rattle.osm_merge.specs.declared.heads.Side.{Side}
use Rattle.osm_merge.specs.declared.heads.Side.TheVariants.{First, Second}

-- a number leads another where it is greater, or where they are equal and a second number is greater than its other
abbrev pub leads : ℕ → ℕ → ℕ → ℕ → Bool
leads a b c d = nat_lt b a || (a == b) && nat_lt d c

-- whether input 0's item is given: by version and then time, by time and then version, or never
abbrev pub prefers_first : Resolution → ItemValue → ItemValue → Bool
prefers_first Version x y = leads x.entity.version y.entity.version x.entity.time y.entity.time
prefers_first Timestamp x y = leads x.entity.time y.entity.time x.entity.version y.entity.version
prefers_first LastSource x y = false

-- the one item that there is, and of two the one that the resolution prefers
abbrev pub chosen_by : Resolution → Choice
chosen_by resolution first None = first
chosen_by resolution None (Some y) = Some y
chosen_by resolution (Some x) (Some y) = if prefers_first resolution x y then Some x else Some y

-- a choice as seen from one input: its own item comes first
abbrev pub seen_from : Side → Choice → Choice
seen_from First choose own other = choose own other
seen_from Second choose own other = choose other own

resolved_key : (resolution : Resolution) (key : Key) (a b : Option ItemValue) → HasKey key a → HasKey key b →
    HasKey key (chosen_by resolution a b)
resolved_key resolution key a None left right = left
resolved_key resolution key None (Some y) left right = right
resolved_key resolution key (Some x) (Some y) left right = either (prefers_first resolution x y)
  where
    either : (b : Bool) → HasKey key (if b then Some x else Some y)
    either true = left
    either false = right

-- the resolutions are choices
pub chosen_by_is_choice : (resolution : Resolution) → IsChoice (chosen_by resolution)
chosen_by_is_choice resolution = record { nothing = refl; keeps = resolved_key resolution }
