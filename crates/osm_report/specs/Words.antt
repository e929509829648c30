-- The words of each cause, as a fault line ends with them.
-- Here each has its words side by side; the code copies them into a line.
use Rattle.std.specs.Prelude.{ℕ, List, codes}
use Rattle.osm_entity.specs.declared.verdict.Cause.{Cause}
use Rattle.osm_entity.specs.declared.verdict.Cause.TheVariants.{BadText, BadField, TwiceField, BadNumber, BadEscape, BadTime, BadCoordinate, NoPlace, Deleted, TooHeavy, LineTooLong, ShortFile, HeaderTooLong, BlobTooLong, Compressed, BadWire, NoHeader, BadFeature, BadIndex, BadLengths, Unordered, BadPoly}
use Rattle.osm_tasks.specs.declared.fault.Needed.{Needed}
use Rattle.osm_tasks.specs.declared.fault.Needed.TheVariants.{File, Mode, Count}
use Rattle.osm_report.specs.declared.fault.DeviceCall.{DeviceCall}
use Rattle.osm_report.specs.declared.fault.DeviceCall.TheVariants.{Open, Read, Write, Keep, Spill}

-- what is wrong with an input
abbrev pub cause_words : Cause → List ℕ
cause_words BadText = codes "bad text"
cause_words BadField = codes "bad field"
cause_words TwiceField = codes "field repeated"
cause_words BadNumber = codes "bad number"
cause_words BadEscape = codes "bad escape"
cause_words BadTime = codes "bad time"
cause_words BadCoordinate = codes "bad coordinate"
cause_words NoPlace = codes "no place"
cause_words Deleted = codes "deleted object"
cause_words TooHeavy = codes "object too large"
cause_words LineTooLong = codes "line too long"
cause_words ShortFile = codes "file too short"
cause_words HeaderTooLong = codes "blob header too long"
cause_words BlobTooLong = codes "blob too long"
cause_words Compressed = codes "compressed blob"
cause_words BadWire = codes "bad message"
cause_words NoHeader = codes "no header"
cause_words BadFeature = codes "unknown feature"
cause_words BadIndex = codes "bad index"
cause_words BadLengths = codes "lengths differ"
cause_words Unordered = codes "out of order"
cause_words BadPoly = codes "bad polygon"

-- the option that a task lacks
abbrev pub needed_words : Needed → List ℕ
needed_words File = codes "file missing"
needed_words Mode = codes "mode missing"
needed_words Count = codes "count missing"

-- the call of a device that failed
abbrev pub call_words : DeviceCall → List ℕ
call_words Open = codes "open failed"
call_words Read = codes "read failed"
call_words Write = codes "write failed"
call_words Keep = codes "keep failed"
call_words Spill = codes "spill failed"
