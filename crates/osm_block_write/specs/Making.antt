-- The maker of a block: what it counts and took, and for which runs it stands.
-- Here a run is a list; the code keeps no entity that it took.
use Rattle.std.specs.Prelude.{◌≡◌, ℕ, ◌+◌, ◌≤◌, List, [], ◌∷◌, length, take, Bool}
use Rattle.std.specs.List.{list_any}
use Rattle.osm_entity.specs.Entities.{EntityValue}
use Rattle.osm_entity.specs.declared.kind.Kind.{Kind}
use Rattle.osm_block_write.specs.declared.options.PbfOptions.{PbfOptions}
use Rattle.osm_block_write.specs.declared.taken.Taken.{Taken}
use Rattle.osm_block_write.specs.Messages.{has_tags}
use Rattle.osm_block_write.specs.Runs.{AreOfKind, greatest_run, total_weight}
use Rattle.osm_block_write.specs.Taking.{taken_of}

-- a maker: its options and kind, the number and the weight of its entities, what it has of them, and if one has tags
pub record MakerValue : Type 0 where
  pub options : PbfOptions
  pub kind : Kind
  pub count : ℕ
  pub weight : ℕ
  pub taken : Taken
  pub tagged : Bool

-- what every maker keeps: it isn't too full, its first text is the empty one, and it has few texts
pub record IsMaker (m : MakerValue) : Type 0 where
  pub few : m.count ≤ m.options.batchlimit
  pub light : m.weight ≤ greatest_run
  pub headed : take 1 m.taken.texts ≡ [] ∷ []
  pub small : length m.taken.texts ≤ 1 + m.weight

-- a maker stands for a run of its kind: it has its number of entities, its weight, and what is taken of it
pub record Holds (m : MakerValue) (run : List EntityValue) : Type 0 where
  pub count : m.count ≡ length run
  pub weight : m.weight ≡ total_weight run
  pub alike : AreOfKind m.kind run
  pub taken : m.taken ≡ taken_of m.options m.kind run
  pub tagged : m.tagged ≡ list_any has_tags run
