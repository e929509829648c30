-- What a reader of blobs is seen as, and the bytes and frames for which it stands.
-- Here the bytes are one list of all that was fed; the code keeps those of the frame in hand.
use Rattle.std.specs.Prelude.{◌≡◌, ℕ, ◌+◌, ◌≤◌, ◌<◌, ◌^◌, List, [], ◌∷◌, ◌++◌, length, drop, Option, Some, None, Ok, Err}
use Rattle.std.specs.declared.result.Result.{Result}
use Rattle.osm_entity.specs.declared.verdict.Cause.{Cause}
use Rattle.osm_entity.specs.declared.verdict.Cause.TheVariants.{ShortFile}
use Rattle.osm_blob.specs.Leading.{Short, Whole, Faulty, leading_frame}
use Rattle.osm_blob.specs.Frames.{FrameStart, More, Bad, first_start, frame_at, frames_before, frames_from, frames_of, next_start}
use Rattle.osm_blob.specs.declared.messages.What.{What}
use Rattle.osm_blob.specs.declared.reading.BlobError.{BlobError}
use Rattle.osm_blob.specs.declared.reading.BlobError.TheVariants.{Bad as Refused, Memory}
use Rattle.osm_blob.specs.declared.reading.Frame.{Frame}

-- a reader of blobs: where the next frame begins, the bytes from there on that were fed, and what the blob of the frame
-- holds that the last call refused for what its blob says
pub record BlobsValue : Type 0 where
  pub next : FrameStart
  pub unread : List ℕ
  pub blamed : Option What

-- a new reader of blobs
abbrev pub no_blobs : BlobsValue
no_blobs = record { next = first_start; unread = []; blamed = None }

-- a reader of blobs that was fed these bytes
abbrev pub blobs_fed : List ℕ → BlobsValue → BlobsValue
blobs_fed bytes b = record b { unread = b.unread ++ bytes }

-- a reader of blobs that passed a frame of this size
abbrev pub blobs_passed : ℕ → BlobsValue → BlobsValue
blobs_passed size b = record { next = next_start b.next size; unread = drop size b.unread; blamed = None }

-- what every reader of blobs keeps: the bytes up to the last that was fed are fewer than 2^64, and the frames before
-- the next one are no more than their bytes
pub record IsBlobs (b : BlobsValue) : Type 0 where
  pub sized : b.next.byte + length b.unread < 2 ^ 64
  pub counted : b.next.number ≤ b.next.byte

-- the whole frame at the beginning of the unread bytes was given and passed
pub record TookFrame (old new : BlobsValue) (frame : Frame) : Type 0 where
  pub size : ℕ
  pub leading : leading_frame old.unread ≡ Whole frame.what frame.raw size
  pub placed : frame ≡ frame_at old.next frame.what frame.raw
  pub passes : new ≡ blobs_passed size old

-- the unread bytes are too few to tell a further frame, and none is refused
pub record NeedsBytes (old new : BlobsValue) : Type 0 where
  pub leading : leading_frame old.unread ≡ Short
  pub same : new ≡ record old { blamed = None }

-- the frame at the beginning of the unread bytes is bad, and stays there
pub record RefusedFrame (old new : BlobsValue) (cause : Cause) : Type 0 where
  pub leading : leading_frame old.unread ≡ Faulty cause new.blamed
  pub same : new ≡ record old { blamed = new.blamed }

-- the answer of a reader of blobs that was asked for the next frame: the frame, none yet, a bad one, or out of memory
abbrev pub AnswersNext : BlobsValue → BlobsValue → Result (Option Frame) BlobError → Type 0
AnswersNext old new (Ok (Some frame)) = TookFrame old new frame
AnswersNext old new (Ok None) = NeedsBytes old new
AnswersNext old new (Err (Refused cause)) = RefusedFrame old new cause
AnswersNext old new (Err Memory) = new ≡ old

-- what is wrong with a file that ends with these bytes, which are no whole frame: ShortFile where there are any
abbrev pub end_fault : List ℕ → Option Cause
end_fault [] = None
end_fault (byte ∷ bytes) = Some ShortFile

-- a reader of blobs stands for all bytes that it was fed, and for the frames that it gave: whatever is fed yet, the
-- frames of all are these, and then those of what is unread
pub record StandsForFrames (b : BlobsValue) (bytes : List ℕ) (frames : List Frame) : Type 0 where
  pub goes : (more : List ℕ) → frames_of (bytes ++ more) ≡ frames_before frames (frames_from b.next (b.unread ++ more))

-- a reader of blobs gave all frames of the bytes that it was fed, and what is unread is too few to tell another
abbrev pub GaveAllFrames : BlobsValue → List ℕ → List Frame → Type 0
GaveAllFrames b bytes frames = frames_of bytes ≡ record { frames = frames; next = b.next; stop = More b.unread }

-- a reader of blobs gave all frames of the bytes that it was fed, and the next one is bad
abbrev pub GaveFramesToBad : BlobsValue → Cause → List ℕ → List Frame → Type 0
GaveFramesToBad b cause bytes frames =
    frames_of bytes ≡ record { frames = frames; next = b.next; stop = Bad cause b.blamed }

-- what an answer says of the bytes and frames for which the reader of blobs stood
abbrev pub StandsAfterNext : BlobsValue → Result (Option Frame) BlobError → List ℕ → List Frame → Type 0
StandsAfterNext b (Ok (Some frame)) bytes frames = StandsForFrames b bytes (frames ++ frame ∷ [])
StandsAfterNext b (Ok None) bytes frames = StandsForFrames b bytes frames × GaveAllFrames b bytes frames
StandsAfterNext b (Err (Refused cause)) bytes frames =
    StandsForFrames b bytes frames × GaveFramesToBad b cause bytes frames
StandsAfterNext b (Err Memory) bytes frames = StandsForFrames b bytes frames
