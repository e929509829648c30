-- Readers of files in any format: what they mean.
-- Here what came is one list of bytes, and what was given one list of items; the code keeps neither.
use Rattle.std.specs.Prelude.{◌≡◌, ℕ, ◌<◌, ◌^◌, List, ◌++◌, length, Bool}
use Rattle.osm_entity.specs.Items.{ItemValue}
use Rattle.osm_entity.specs.declared.verdict.Verdict.{Verdict}
use Rattle.osm_host.specs.Pulls.{FeedValue}
use Rattle.osm_opl.specs.Reader.{WantsPull, fed}
use Rattle.osm_opl.specs.Standing.{Stands}
use Rattle.osm_pbf.specs.Reader.{WantsPbf, pbf_fed}
use Rattle.osm_pbf.specs.Standing.{StandsForPbf}
use Rattle.osm_machine.specs.ReadingFormats.{Format, OplFile, PbfFile}
use Rattle.osm_machine.specs.declared.reader.FileReader.{FileReader}
use Rattle.osm_machine.specs.declared.reader.FileReader.TheVariants.{Opl, Pbf}

-- the format that a reader reads
abbrev pub file_format : FileReader → Format
file_format (Opl r) = OplFile r.flow
file_format (Pbf r) = PbfFile

-- what a reader keeps of its source
abbrev pub file_fed : FileReader → FeedValue
file_fed (Opl r) = fed r
file_fed (Pbf r) = pbf_fed r

-- the verdict of a reader
abbrev pub file_verdict : FileReader → Verdict
file_verdict (Opl r) = r.verdict
file_verdict (Pbf r) = r.verdict

-- a reader stands for all bytes that its source gave, for whether their end came, and for the items that it gave
abbrev pub FileStands : FileReader → List ℕ → Bool → List ItemValue → Type 0
FileStands (Opl r) bytes came items = Stands r bytes came items
FileStands (Pbf r) bytes came items = StandsForPbf r bytes came items

-- a reader wants a pull: it may be pulled, and gave all items of what it holds
abbrev pub FileWants : FileReader → Type 0
FileWants (Opl r) = WantsPull r
FileWants (Pbf r) = WantsPbf r

-- a reader reads a file of the same format as before, up to the same limit
pub record IsSameFile (old new : FileReader) : Type 0 where
  pub format : file_format new ≡ file_format old
  pub limit : (file_fed new).limit ≡ (file_fed old).limit

-- a reader gave these items: whatever it stood for, it stands for with them added
abbrev pub FileGave : FileReader → FileReader → List ItemValue → Type 0
FileGave old new more =
    (bytes : List ℕ) (came : Bool) (items : List ItemValue) → FileStands old bytes came items →
    FileStands new bytes came (items ++ more)

-- a reader gave this many items, of bytes for which it stands
pub record HasGiven (r : FileReader) (count : ℕ) : Type 0 where
  pub bytes : List ℕ
  pub came : Bool
  pub items : List ItemValue
  pub stands : FileStands r bytes came items
  pub counted : count ≡ length items
  pub sized : (file_fed r).limit < 2 ^ 64
