-- What a host in memory and its sources mean: they tell everything.
-- Here each meaning is a value; the code keeps lists, places and numbers.
use Rattle.std.specs.Prelude.{◌≡◌, ◌++◌, ◌+◌, ◌^◌, ℕ, ◌/◌, List, length, take, drop, min, nat_le, not, Bool, ◌&&◌, ◌||◌, Option, Some}
use Rattle.std.specs.FinMap as finite
use Rattle.std.specs.Option.{is_none}
use Rattle.osm_host.specs.Held.{files_of}
use Rattle.osm_host.specs.Moments.{Moment}
use Rattle.osm_host.specs.Plans.{is_planned, after_call}
use Rattle.osm_host.specs.Tallies.{faults_in, given_in, names_in}
use Rattle.osm_host.specs.declared.memory.held.MemoryHost.{MemoryHost}
use Rattle.osm_host.specs.declared.memory.plan.FailAt.{FailAt}
use Rattle.osm_host.specs.declared.memory.source.MemorySource.{MemorySource}
use Rattle.osm_host.specs.declared.outside.Op.{Op}
use Rattle.osm_host.specs.declared.outside.Op.TheVariants.{Open}

-- the bytes that a source in memory has not given yet
abbrev pub left_of : MemorySource → List ℕ
left_of source = drop source.place source.bytes

-- what is left of a source in memory, which tells it
abbrev pub rest_of : MemorySource → Option (List ℕ)
rest_of source = Some (left_of source)

-- how many bytes a pull gives, by what is left, the buffer and the piece
abbrev pub pull_size : List ℕ → List ℕ → ℕ → ℕ
pull_size left buf piece = min (min (length left) (length buf)) piece

-- the first half of a piece, rounded down, was added
abbrev pub HasHalf : List ℕ → List ℕ → List ℕ → Type 0
HasHalf piece before now = now ≡ before ++ take (length piece / 2) piece

-- the six meanings of a host in memory
abbrev pub moment_of : MemoryHost → Moment
moment_of host = record {
  files = Some (files_of host.files);
  said = Some host.said;
  mute = host.mutes;
  count = faults_in host.tallies;
  gave = given_in host.tallies;
  known = names_in host.tallies;
}

-- how a host in memory is set up: the most bytes of a pull, the calls that fail from now on, and whether it is mute
pub record Setup : Type 0 where
  pub piece : ℕ
  pub fails : List FailAt
  pub muted : Bool

-- how this host is set up now
abbrev pub setup_of : MemoryHost → Setup
setup_of host = record { piece = host.piece; fails = host.plan.fails.items; muted = host.is_mute }

-- how a host is set up after a call of this kind on this name
abbrev pub setup_after : Op → List ℕ → Setup → Setup
setup_after op name setup =
    record { piece = setup.piece; fails = after_call op name setup.fails; muted = setup.muted }

-- the next call of this kind on this name is one that fails
abbrev pub is_due : Op → List ℕ → MemoryHost → Bool
is_due op name host = is_planned op name 1 host.plan.fails.items

-- the next opening of a source of this name fails: it is planned to, or there is no such file
abbrev pub open_fails : List ℕ → MemoryHost → Bool
open_fails name host = is_due Open name host || is_none (finite.get (files_of host.files) name)

-- a host that is not mute has room for these bytes, with 524,288 in all
abbrev pub can_say : MemoryHost → List ℕ → Bool
can_say host bytes = not host.is_mute && nat_le (length host.said + length bytes) (2 ^ 19)
