-- Which items a tag filter keeps, and the stream that it gives.
-- Here the items that are kept are a part of the whole list; the code keeps or drops each item as it comes.
use Rattle.std.specs.Prelude.{ℕ, List, [], ◌∷◌, Bool, true, not, ◌==◌, ◌&&◌, if◌then◌else◌, Option, Some, None, bytes_eq}
use Rattle.std.specs.List.{filter, list_any}
use Rattle.osm_entity.specs.Entities.{EntityValue}
use Rattle.osm_entity.specs.Items.{kind_of}
use Rattle.osm_entity.specs.Keys.{kind_rank}
use Rattle.osm_entity.specs.Streams.{Stream}
use Rattle.osm_entity.specs.declared.kind.Kind.{Kind}
use Rattle.osm_entity.specs.declared.options.TagTest.{TagTest}
use Rattle.osm_entity.specs.declared.parts.Tag.{Tag}

-- what is asked of a filter: whether it accepts what matches or rejects it, of which kind, and by which tests
pub record FilterOptions : Type 0 where
  pub accept : Bool
  pub kind : Kind
  pub tests : List TagTest

-- a value is wanted where it is one of the listed values, and any value is where none are listed
abbrev pub is_value_wanted : Option (List (List ℕ)) → List ℕ → Bool
is_value_wanted None value = true
is_value_wanted (Some values) value = list_any (bytes_eq value) values

-- a tag passes a test where it has the test's key, and a value that the test wants
abbrev pub passes_test : TagTest → Tag → Bool
passes_test test tag = bytes_eq tag.key test.key && is_value_wanted test.values tag.value

-- tags match where one of them passes one of the tests; with no test all match
abbrev pub tags_match : List TagTest → List Tag → Bool
tags_match [] tags = true
tags_match (test ∷ more) tags = list_any (λ t. list_any (passes_test t) tags) (test ∷ more)

-- of its kind a filter keeps what matches where it accepts, and what doesn't where it rejects; other kinds it keeps
abbrev pub filter_keeps : FilterOptions → EntityValue → Bool
filter_keeps options e =
    if kind_rank (kind_of e.body) == kind_rank options.kind
    then (if options.accept then tags_match options.tests e.tags else not (tags_match options.tests e.tags))
    else true

-- the stream of a filter: the items that it keeps, and the end of its input
abbrev pub filtered : FilterOptions → Stream → Stream
filtered options s = record { items = filter (λ item. filter_keeps options item.entity) s.items; end = s.end }
