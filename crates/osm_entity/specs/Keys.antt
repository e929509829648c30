-- The order of keys, as sorted files have it.
-- Here a kind is a number; the code compares kinds in the order in which they are declared.
use Rattle.std.specs.Prelude.{ℕ, ◌==◌, ◌&&◌, ◌||◌, Bool, nat_lt, int_lt, if◌then◌else◌}
use Rattle.std.specs.declared.cmp.Ordering.{Ordering}
use Rattle.std.specs.declared.cmp.Ordering.TheVariants.{Less, Equal, Greater}
use Rattle.osm_entity.specs.declared.kind.Kind.{Kind}
use Rattle.osm_entity.specs.declared.kind.Kind.TheVariants.{Node, Way, Relation}
use Rattle.osm_entity.specs.declared.kind.Key.{Key}

-- nodes come first, then ways, then relations
abbrev pub kind_rank : Kind → ℕ
kind_rank Node = 0
kind_rank Way = 1
kind_rank Relation = 2

-- a key stands before another by its kind, and among one kind by its signed id
abbrev pub is_key_before : Key → Key → Bool
is_key_before a b =
    nat_lt (kind_rank a.kind) (kind_rank b.kind) || (kind_rank a.kind == kind_rank b.kind) && int_lt a.id b.id

-- how two keys compare: less where the first stands before the second, greater where the second stands before the first
abbrev pub key_order : Key → Key → Ordering
key_order a b = if is_key_before a b then Less else if is_key_before b a then Greater else Equal
