-- What a raw PBF file says: its items up to its first bad frame, and how the reading ends.
-- Here the whole file is cut into frames at once; the code goes from frame to frame.
use Rattle.std.specs.Prelude.{ℕ, List, [], ◌∷◌, Bool, true, false, Option, Some, None, Ok, Err}
use Rattle.std.specs.declared.result.Result.{Result}
use Rattle.osm_entity.specs.Items.{ItemValue}
use Rattle.osm_entity.specs.Readings.{Reading, Ending, Whole, Cut, Bad as BadAt, after}
use Rattle.osm_entity.specs.declared.verdict.Cause.{Cause}
use Rattle.osm_entity.specs.declared.verdict.Cause.TheVariants.{NoHeader, ShortFile}
use Rattle.osm_entity.specs.declared.verdict.Spot.{Spot}
use Rattle.osm_entity.specs.declared.verdict.Spot.TheVariants.{Blob}
use Rattle.osm_blob.specs.Frames.{FrameStart, Frames, FramesStop, More, Bad, first_start, frames_from}
use Rattle.osm_blob.specs.declared.messages.What.{What}
use Rattle.osm_blob.specs.declared.messages.What.TheVariants.{Header, Block, Other}
use Rattle.osm_blob.specs.declared.reading.Frame.{Frame}
use Rattle.osm_block_read.specs.Block.{block_said}
use Rattle.osm_block_read.specs.Header.{header_fault}

-- no items, or what is wrong
abbrev pub no_items_or : Option Cause → Result (List ItemValue) Cause
no_items_or None = Ok []
no_items_or (Some cause) = Err cause

-- what a frame says, by whether a header came before it: a header no items, or its fault; a block its items, or its
-- fault, which is NoHeader before any header; and anything else no items
abbrev pub frame_said : Bool → What → List ℕ → Result (List ItemValue) Cause
frame_said came Header raw = no_items_or (header_fault raw)
frame_said true Block raw = block_said raw
frame_said false Block raw = Err NoHeader
frame_said came Other raw = Ok []

-- whether a header came, with this frame
abbrev pub header_came : Bool → What → Bool
header_came came Header = true
header_came came Block = came
header_came came Other = came

-- what is wrong with a frame that is bad for a cause, and for what its blob says where that is blamed: a block before
-- any header is bad for that, whatever its blob says
abbrev pub cause_blamed : Bool → Cause → Option What → Cause
cause_blamed false cause (Some Block) = NoHeader
cause_blamed came cause blamed = cause

-- the spot of a frame that begins here: its number, and its first byte
abbrev pub blob_spot : FrameStart → Spot
blob_spot start = Blob start.number start.byte

-- how a reading ends behind the last frame that is whole and good, where the next one would begin: at a bad frame, or
-- cut off where the file didn't end cleanly; or with ShortFile where bytes of a frame are left, with NoHeader where no
-- header came, and else whole
abbrev pub frames_ending : Bool → Bool → FrameStart → FramesStop → Ending
frames_ending clean came next (Bad cause blamed) = BadAt (cause_blamed came cause blamed) (blob_spot next)
frames_ending false came next (More left) = Cut
frames_ending true came next (More (byte ∷ left)) = BadAt ShortFile (blob_spot next)
frames_ending true true next (More []) = Whole
frames_ending true false next (More []) = BadAt NoHeader (blob_spot next)

-- a reading without items
abbrev pub only_ending : Ending → Reading
only_ending ending = record { items = []; ending = ending }

-- what the frame at a spot says, before the reading of those behind it: its items, or the reading ends there
abbrev pub said_before : Spot → Result (List ItemValue) Cause → Reading → Reading
said_before spot (Ok items) later = after items later
said_before spot (Err cause) later = only_ending (BadAt cause spot)

-- the reading of frames, by whether a header came before them, where the next one would begin, and why it doesn't come
abbrev pub read_frames : Bool → Bool → FrameStart → FramesStop → List Frame → Reading
read_frames clean came next stop [] = only_ending (frames_ending clean came next stop)
read_frames clean came next stop (frame ∷ frames) =
    said_before (Blob frame.number frame.byte) (frame_said came frame.what frame.raw)
    (read_frames clean (header_came came frame.what) next stop frames)

-- the reading of bytes that were cut into frames
abbrev pub frames_reading : Bool → Bool → Frames → Reading
frames_reading clean came file = read_frames clean came file.next file.stop file.frames

-- the reading of the bytes of a file from here on, by whether a header came before them
abbrev pub pbf_reading_from : Bool → FrameStart → List ℕ → Bool → Reading
pbf_reading_from came start bytes clean = frames_reading clean came (frames_from start bytes)

-- what bytes say as a raw PBF file; `clean` says that they are all of it
unfoldable pub pbf_reading : List ℕ → Bool → Reading
pbf_reading bytes clean = pbf_reading_from false first_start bytes clean
