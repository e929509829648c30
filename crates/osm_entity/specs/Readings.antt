-- What the bytes of a file say, in any format: its items up to its first wrong place, and how the reading ends.
-- Here a reading is whole; a reader of a format gives its items one by one.
use Rattle.std.specs.Prelude.{ℕ, List, ◌++◌, Bool, true, false, nat_lt, if◌then◌else◌}
use Rattle.osm_entity.specs.Items.{ItemValue}
use Rattle.osm_entity.specs.Streams.{Stream}
use Rattle.osm_entity.specs.declared.stream.End.{End}
use Rattle.osm_entity.specs.declared.stream.End.TheVariants.{Done, Broken}
use Rattle.osm_entity.specs.declared.verdict.Cause.{Cause}
use Rattle.osm_entity.specs.declared.verdict.Spot.{Spot}
use Rattle.osm_entity.specs.declared.verdict.Verdict.{Verdict}
use Rattle.osm_entity.specs.declared.verdict.Verdict.TheVariants.{Clean, Read, Input, TooLong}

-- a reading is whole, is cut off before the end of its file, or ends at a place that is wrong
pub data Ending : Type 0 where
  Whole : Ending
  Cut : Ending
  Bad : (cause : Cause) → (spot : Spot) → Ending

-- a reading: the items before its first wrong place, and how it ends
pub record Reading : Type 0 where
  pub items : List ItemValue
  pub ending : Ending

-- where no place is wrong, a file that ended cleanly was read whole, and else it was cut off
abbrev pub ending_of : Bool → Ending
ending_of true = Whole
ending_of false = Cut

-- items before those of a reading
abbrev pub after : List ItemValue → Reading → Reading
after items reading = record { items = items ++ reading.items; ending = reading.ending }

-- a reading ends its stream: done where it was whole
abbrev pub end_read : Ending → End
end_read Whole = Done
end_read Cut = Broken
end_read (Bad cause spot) = Broken

-- the stream that a reading gives
abbrev pub stream_read : Reading → Stream
stream_read reading = record { items = reading.items; end = end_read reading.ending }

-- the verdict of a reader that takes the first `limit` of the `count` bytes of a source, by the ending of their reading
abbrev pub verdict_read : ℕ → ℕ → Ending → Verdict
verdict_read limit count Whole = Clean
verdict_read limit count Cut = if nat_lt limit count then TooLong else Read
verdict_read limit count (Bad cause spot) = Input cause spot
