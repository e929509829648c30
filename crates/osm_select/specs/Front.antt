-- The nodes that come before all else in a list of items. No public clause cites these definitions.
use Rattle.std.specs.Prelude.{◌≡◌, ℕ, List, Bool, true, false, take}
use Rattle.std.specs.List.{list_all}
use Rattle.osm_entity.specs.Items.{ItemValue}
use Rattle.osm_entity.specs.declared.parts.Body.{Body}
use Rattle.osm_entity.specs.declared.parts.Body.TheVariants.{Node, Way, Relation}

-- a body is that of a node
abbrev pub is_node : Body → Bool
is_node (Node place) = true
is_node (Way refs) = false
is_node (Relation members) = false

-- the first items, as many as a count says, are nodes
abbrev pub StartWithNodes : ℕ → List ItemValue → Type 0
StartWithNodes count items = list_all (λ item. is_node item.entity.body) (take count items) ≡ true
