-- Parts of lists by their places.
-- Here a part is taken from its list; the code has where it lies.
use Rattle.std.specs.Prelude.{ℕ, ◌≡◌, ◌≤◌, ◌-◌, ◌++◌, List, length, take, drop}
use Rattle.osm_block_read.specs.declared.span.Span.{Span}

-- the part of a list from the start of a span to its end
abbrev pub part_in : {T : Type 0} → List T → Span → List T
part_in list span = take (span.end - span.start) (drop span.start list)

-- a span lies within a list of this length
pub record IsSpanIn (count : ℕ) (span : Span) : Type 0 where
  pub ordered : span.start ≤ span.end
  pub within : span.end ≤ count

-- a part was added behind a list, where the span has it
pub record IsPartAdded {T : Type 0} (old new part : List T) (span : Span) : Type 0 where
  pub joined : new ≡ old ++ part
  pub start : span.start ≡ length old
  pub end : span.end ≡ length new
