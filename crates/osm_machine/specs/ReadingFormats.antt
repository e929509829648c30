-- The formats of files that are read, and the task of reading a file of one.
-- Here a file is read whole; a machine gives its items one by one while its bytes come.
use Rattle.std.specs.Prelude.{ℕ, List, [], take, Bool, true, false}
use Rattle.osm_entity.specs.Meaning.{finish_read}
use Rattle.osm_entity.specs.Readings.{Reading, stream_read}
use Rattle.osm_entity.specs.Tasks.{TaskMeaning}
use Rattle.osm_entity.specs.declared.kind.Flow.{Flow}
use Rattle.osm_opl_line.specs.Reading.{opl_reading}
use Rattle.osm_pbf.specs.Reading.{pbf_reading}

-- the format of a file: OPL of a flow, or raw PBF
pub data Format : Type 0 where
  OplFile : (flow : Flow) → Format
  PbfFile : Format

-- what bytes say as a file of a format
abbrev pub format_reading : Format → List ℕ → Bool → Reading
format_reading (OplFile flow) bytes clean = opl_reading flow bytes clean
format_reading PbfFile bytes clean = pbf_reading bytes clean

-- what the first `limit` bytes of a source say, with the end where it came
abbrev pub limited_reading : Format → ℕ → List ℕ → Bool → Reading
limited_reading format limit bytes came = format_reading format (take limit bytes) came

-- the task that reads a file of a format: it has no input, gives the stream of the reading at its one output, and ends as
-- the reading does
abbrev pub reader_task : Format → ℕ → TaskMeaning
reader_task format limit = record {
  inputs = 0;
  outputs = 1;
  limit = limit;
  gives = λ bytes came f port. stream_read (limited_reading format limit bytes came);
  text = λ f. [];
  finish = λ bytes came f. finish_read (limited_reading format limit bytes came).ending;
  turn = λ x port. true;
  holds = false;
}
