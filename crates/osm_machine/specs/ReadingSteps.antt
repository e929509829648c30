-- How a machine that reads goes on: its reader is asked for what is ready next.
-- Here the items of a reader are told for all files for which it stands; the code asks for one item.
use Rattle.std.specs.Prelude.{◌≡◌, ℕ, ◌+◌, ◌≤◌, length}
use Rattle.osm_machine.specs.Reading.{ready_items}
use Rattle.osm_machine.specs.ReadingFiles.{FileGave, IsSameFile, file_fed}
use Rattle.osm_machine.specs.declared.reader.FileReader.{FileReader}
use Rattle.osm_machine.specs.declared.ready.Ready.{Ready}

-- a reader was asked once: the item that it gave is ready, and is counted, and no more were given than a file has bytes
pub record AskedReader (old new : FileReader) (made now : ℕ) (ready : Ready) : Type 0 where
  pub gave : FileGave old new (ready_items ready)
  pub counted : now ≡ made + length (ready_items ready)
  pub within : now ≤ (file_fed new).limit
  pub same : IsSameFile old new
  pub fed : file_fed new ≡ file_fed old
