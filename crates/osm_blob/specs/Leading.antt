-- The frame at the beginning of bytes: the length of its blob header, the blob header, and the blob.
-- Here each part is a part of one list; the code reads them where they lie.
use Rattle.std.specs.Prelude.{ℕ, ◌+◌, List, [], length, take, drop, Option, Some, None, Ok, Err, nat_lt, if◌then◌else◌}
use Rattle.std.specs.Int.{w32, from_be_bytes}
use Rattle.std.specs.declared.result.Result.{Result}
use Rattle.osm_entity.specs.declared.verdict.Cause.{Cause}
use Rattle.osm_entity.specs.declared.verdict.Cause.TheVariants.{BadWire, BlobTooLong, HeaderTooLong}
use Rattle.osm_blob.specs.Messages.{blob_said, blob_size, header_said}
use Rattle.osm_blob.specs.declared.messages.BlobHeader.{BlobHeader}
use Rattle.osm_blob.specs.declared.messages.What.{What}
use Rattle.osm_blob.specs.declared.messages.What.TheVariants.{Header, Block, Other}

-- what bytes begin with: they are too few to tell; or a whole and good frame, with what its blob holds, its raw content
-- and its size; or a frame that is bad for a cause, with what its blob holds where it is bad for what the blob says
pub data LeadingFrame : Type 0 where
  Short : LeadingFrame
  Whole : (what : What) → (raw : List ℕ) → (size : ℕ) → LeadingFrame
  Faulty : (cause : Cause) → (blamed : Option What) → LeadingFrame

-- a blob header has fewer bytes than this
abbrev pub header_limit : ℕ
header_limit = 65536

-- what takes the given number of bytes to tell: too few to tell where they are not all there
abbrev pub needing : ℕ → List ℕ → LeadingFrame → LeadingFrame
needing count bytes leading = if nat_lt (length bytes) count then Short else leading

-- a frame by what its blob says: whole and good, or bad for that
abbrev pub frame_by_blob : What → ℕ → Result (List ℕ) Cause → LeadingFrame
frame_by_blob what size (Ok raw) = Whole what raw size
frame_by_blob what size (Err cause) = Faulty cause (Some what)

-- a frame by what its blob holds: a header or a block by what the blob says; anything else is good, and not read
abbrev pub frame_by_what : What → ℕ → List ℕ → LeadingFrame
frame_by_what Header size blob = frame_by_blob Header size (blob_said blob)
frame_by_what Block size blob = frame_by_blob Block size (blob_said blob)
frame_by_what Other size blob = Whole Other [] size

-- a frame by the size of its blob, which begins at this place: BlobTooLong for a size that none has, else all of the
-- blob is needed
abbrev pub frame_by_size : List ℕ → ℕ → What → Option ℕ → LeadingFrame
frame_by_size bytes start what None = Faulty BlobTooLong None
frame_by_size bytes start what (Some size) =
    needing (start + size) bytes (frame_by_what what (start + size) (take size (drop start bytes)))

-- a frame by what its blob header says, which ends at this place: BadWire where it says nothing
abbrev pub frame_by_header : List ℕ → ℕ → Option BlobHeader → LeadingFrame
frame_by_header bytes start None = Faulty BadWire None
frame_by_header bytes start (Some header) = frame_by_size bytes start header.what (blob_size header.size)

-- a frame by the length of its blob header: HeaderTooLong from the limit on, else all of the blob header is needed
abbrev pub frame_by_length : List ℕ → ℕ → LeadingFrame
frame_by_length bytes count =
    if nat_lt count header_limit
    then needing (4 + count) bytes (frame_by_header bytes (4 + count) (header_said (take count (drop 4 bytes))))
    else Faulty HeaderTooLong None

-- what bytes begin with, by their first four, which are the length of a blob header, the highest byte first
unfoldable pub leading_frame : List ℕ → LeadingFrame
leading_frame bytes = needing 4 bytes (frame_by_length bytes (from_be_bytes w32 (take 4 bytes)))

-- how many bytes a whole frame has; 0 where there is none
abbrev pub leading_frame_size : LeadingFrame → ℕ
leading_frame_size Short = 0
leading_frame_size (Whole what raw size) = size
leading_frame_size (Faulty cause blamed) = 0
