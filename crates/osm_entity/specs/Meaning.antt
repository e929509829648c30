-- What the tasks of a command mean: how each ends, and the bytes of each writer.
-- Here a meaning is told by task, all at once; the code moves messages from task to task.
use Rattle.std.specs.Prelude.{ℕ, List}
use Rattle.osm_entity.specs.Readings.{Ending, Whole as ReadWhole, Cut as ReadCut, Bad}
use Rattle.osm_entity.specs.declared.stream.End.{End}
use Rattle.osm_entity.specs.declared.stream.End.TheVariants.{Done, Broken}
use Rattle.osm_entity.specs.declared.verdict.Cause.{Cause}
use Rattle.osm_entity.specs.declared.verdict.Spot.{Spot}

-- how a task ends: its input was whole, an input was broken before it, its source was cut off, or its input is wrong
pub data Finish : Type 0 where
  Whole : Finish
  Passed : Finish
  Cut : Finish
  Wrong : (cause : Cause) → (spot : Spot) → Finish

-- what the tasks of a command mean: how each ends, and the bytes of each writer, by the number of the task
pub record Meaning : Type 0 where
  pub finish : ℕ → Finish
  pub bytes : ℕ → List ℕ

-- how a reader ends by its reading
abbrev pub finish_read : Ending → Finish
finish_read ReadWhole = Whole
finish_read ReadCut = Cut
finish_read (Bad cause spot) = Wrong cause spot

-- how a task ends whose one input ends so
abbrev pub finish_after : End → Finish
finish_after Done = Whole
finish_after Broken = Passed
