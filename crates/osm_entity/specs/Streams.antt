-- Streams: a list of items and an end; and what it is for one stream to be before another.
-- Here a stream is whole; the code sees one message at a time.
use Rattle.std.specs.Prelude.{◌≡◌, List}
use Rattle.osm_entity.specs.Items.{ItemValue}
use Rattle.osm_entity.specs.Prefixes.{IsPrefix}
use Rattle.osm_entity.specs.declared.stream.End.{End}
use Rattle.osm_entity.specs.declared.stream.End.TheVariants.{Done}

-- a stream: its items, and how it ends
pub record Stream : Type 0 where
  pub items : List ItemValue
  pub end : End

-- a stream is before another if its items are a prefix of the other's, and it is the other where it is done
pub record IsBefore (a b : Stream) : Type 0 where
  pub items : IsPrefix a.items b.items
  pub done : a.end ≡ Done → a ≡ b
