-- The frames of a file's bytes, and the frames of bytes that come in pieces.
-- Here the whole file is cut at once; the code gives one frame after the other.
use Rattle.std.specs.Prelude.{ℕ, zero, suc, ◌+◌, List, [], ◌∷◌, ◌++◌, length, drop, Option}
use Rattle.osm_entity.specs.declared.verdict.Cause.{Cause}
use Rattle.osm_blob.specs.Leading.{LeadingFrame, Short, Whole, Faulty, leading_frame, leading_frame_size}
use Rattle.osm_blob.specs.declared.messages.What.{What}
use Rattle.osm_blob.specs.declared.reading.Frame.{Frame}

-- where a frame begins: its number, counted from 0, and how many bytes of the file stand before it
pub record FrameStart : Type 0 where
  pub number : ℕ
  pub byte : ℕ

-- the first frame begins the file
abbrev pub first_start : FrameStart
first_start = record { number = 0; byte = 0 }

-- where the frame behind one of this size begins
abbrev pub next_start : FrameStart → ℕ → FrameStart
next_start start size = record { number = start.number + 1; byte = start.byte + size }

-- why no further frame comes: the bytes that are left are too few to tell, or the next frame is bad for a cause, and
-- what its blob holds where it is bad for what the blob says
pub data FramesStop : Type 0 where
  More : (left : List ℕ) → FramesStop
  Bad : (cause : Cause) → (blamed : Option What) → FramesStop

-- the frames of bytes: those that are whole and good, up to the first bad one; where the next one begins; and why it
-- doesn't come
pub record Frames : Type 0 where
  pub frames : List Frame
  pub next : FrameStart
  pub stop : FramesStop

-- no frames
abbrev pub no_frames : FrameStart → FramesStop → Frames
no_frames start stop = record { frames = []; next = start; stop = stop }

-- frames before those further on
abbrev pub frames_before : List Frame → Frames → Frames
frames_before frames later = record { frames = frames ++ later.frames; next = later.next; stop = later.stop }

-- a whole and good frame that begins here
abbrev pub frame_at : FrameStart → What → List ℕ → Frame
frame_at start what raw = record { number = start.number; byte = start.byte; what = what; raw = raw }

-- what bytes begin with, and the frames behind that: a whole frame comes before them, and else there are none
abbrev pub leading_frame_before : FrameStart → List ℕ → LeadingFrame → Frames → Frames
leading_frame_before start bytes Short later = no_frames start (More bytes)
leading_frame_before start bytes (Whole what raw size) later = frames_before (frame_at start what raw ∷ []) later
leading_frame_before start bytes (Faulty cause blamed) later = no_frames start (Bad cause blamed)

-- the first frames of bytes that begin here, up to the given number
abbrev pub frames_within : ℕ → FrameStart → List ℕ → Frames
frames_within zero start bytes = no_frames start (More bytes)
frames_within (suc count) start bytes =
    let size = leading_frame_size (leading_frame bytes) in
    leading_frame_before start bytes (leading_frame bytes)
    (frames_within count (next_start start size) (drop size bytes))

-- the frames of bytes that begin here, of which there are no more than bytes
unfoldable pub frames_from : FrameStart → List ℕ → Frames
frames_from start bytes = frames_within (length bytes) start bytes

-- the frames of a file
abbrev pub frames_of : List ℕ → Frames
frames_of bytes = frames_from first_start bytes

-- frames, by why they stopped, when more bytes come
abbrev pub frames_after_stop : Frames → List ℕ → FramesStop → Frames
frames_after_stop first more (More left) = frames_before first.frames (frames_from first.next (left ++ more))
frames_after_stop first more (Bad cause blamed) = first

-- frames, when more bytes come: what was left goes on with these, and behind a bad frame they change nothing
abbrev pub frames_with_more : Frames → List ℕ → Frames
frames_with_more first more = frames_after_stop first more first.stop

-- frames, when piece after piece comes
abbrev pub frames_with_pieces : Frames → List (List ℕ) → Frames
frames_with_pieces frames [] = frames
frames_with_pieces frames (piece ∷ pieces) = frames_with_pieces (frames_with_more frames piece) pieces
