-- How contracts see the answer of the code that reads a line.
-- Here an answer is what its line says; the code has the item with its texts and lists.
use Rattle.osm_opl_line.specs.Line.{LineValue, Skipped, Good, Bad}
use Rattle.osm_opl_line.specs.declared.reading.LineRead.{LineRead}
use Rattle.osm_opl_line.specs.declared.reading.LineRead.TheVariants.{Skipped as ReadSkipped, Item as ReadItem, Bad as ReadBad}

-- what a line says, as the code answers it
abbrev pub line_seen : LineRead → LineValue
line_seen ReadSkipped = Skipped
line_seen (ReadItem item) = Good item
line_seen (ReadBad cause) = Bad cause
