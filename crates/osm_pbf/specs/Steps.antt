-- How a PBF reader goes on by an item, by a frame, or by a piece.
-- Here what the frame in hand says is one list of items or a cause; the code takes them one by one.
use Rattle.std.specs.Prelude.{◌≡◌, ℕ, ◌+◌, ◌<◌, List, [], ◌∷◌, length, Bool, true, false, Option, Some, None, Ok, Err}
use Rattle.std.specs.declared.result.Result.{Result}
use Rattle.osm_entity.specs.Items.{ItemValue}
use Rattle.osm_entity.specs.Readings.{Ending, after, verdict_read}
use Rattle.osm_entity.specs.declared.sequence.NoMemory.{NoMemory}
use Rattle.osm_entity.specs.declared.verdict.Cause.{Cause}
use Rattle.osm_entity.specs.declared.verdict.Spot.TheVariants.{Blob}
use Rattle.osm_entity.specs.declared.verdict.Verdict.{Verdict}
use Rattle.osm_entity.specs.declared.verdict.Verdict.TheVariants.{Running, Read, TooLong as PastLimit}
use Rattle.osm_host.specs.declared.feed.Feed.{Feed}
use Rattle.osm_host.specs.declared.feed.Feed.TheVariants.{Open, Ended, Failed, TooLong}
use Rattle.osm_blob.specs.Frames.{More}
use Rattle.osm_blob.specs.declared.reading.Frame.{Frame}
use Rattle.osm_block_read.specs.declared.error.BlockError.{BlockError}
use Rattle.osm_block_read.specs.declared.error.BlockError.TheVariants.{Bad as BadBlock, Memory}
use Rattle.osm_pbf.specs.Reader.{HoldsNoItem, PbfReaderValue, SamePbfSource, pbf_reading_left, pbf_unread}
use Rattle.osm_pbf.specs.Reading.{blob_spot, cause_blamed, frame_said, frames_ending, header_came}

-- the answer of the frame in hand that was asked for an item, by what it said and what it says then: the next item, no
-- further one, what is wrong with it, or out of memory
abbrev pub AnswersItem : Result (List ItemValue) Cause → Result (List ItemValue) Cause →
    Result (Option ItemValue) BlockError → Type 0
AnswersItem old new (Ok (Some item)) = (rest : List ItemValue) × (old ≡ Ok (item ∷ rest)) × (new ≡ Ok rest)
AnswersItem old new (Ok None) = (old ≡ Ok []) × (new ≡ Ok [])
AnswersItem old new (Err (BadBlock cause)) = (old ≡ Err cause) × (new ≡ old)
AnswersItem old new (Err Memory) = new ≡ old

-- a PBF reader that took a frame in hand
abbrev pub pbf_passed : Frame → PbfReaderValue → PbfReaderValue
pbf_passed frame r = record r {
  came = header_came r.came frame.what;
  spot = Blob frame.number frame.byte;
  said = frame_said r.came frame.what frame.raw;
}

-- a PBF reader that has the next frame in hand, which is bad for this cause
abbrev pub pbf_refused : Cause → PbfReaderValue → PbfReaderValue
pbf_refused cause r = record r {
  spot = blob_spot r.blobs.next;
  said = Err (cause_blamed r.came cause r.blobs.blamed);
}

-- a PBF reader that handed all that it pulled to its reader of frames
abbrev pub pbf_handed : PbfReaderValue → PbfReaderValue
pbf_handed r = record r { blobs = record r.blobs { unread = pbf_unread r }; piece = [] }

-- how the reading of a PBF file ends that ends with what its reader holds
abbrev pub pbf_ending_left : PbfReaderValue → Ending
pbf_ending_left r = frames_ending true r.came r.blobs.next (More r.blobs.unread)

-- the verdict where nothing is left that gives an item, by how it stands with the source, and how its file ends here
abbrev pub pbf_verdict_left : Feed → Ending → Verdict
pbf_verdict_left Open ending = Running
pbf_verdict_left Ended ending = verdict_read 0 0 ending
pbf_verdict_left Failed ending = Read
pbf_verdict_left TooLong ending = PastLimit

-- a PBF reader passed these items: what it held said them, and then what it holds
pub record PassedItems (old new : PbfReaderValue) (items : List ItemValue) : Type 0 where
  pub same : SamePbfSource old new
  pub verdict : new.verdict ≡ old.verdict
  pub reads : (more : List ℕ) (clean : Bool) →
      pbf_reading_left old more clean ≡ after items (pbf_reading_left new more clean)

-- one, while the frame in hand is good
abbrev pub one_while_good : Result (List ItemValue) Cause → ℕ
one_while_good (Ok items) = 1
one_while_good (Err cause) = 0

-- how much a PBF reader has to do before it is pulled again
abbrev pub pbf_work_left : PbfReaderValue → ℕ
pbf_work_left r = one_while_good r.said + (length r.blobs.unread + (length r.piece + length r.piece))

-- a PBF reader took a frame or a piece, and has less to do
pub record StepsOn (old new : PbfReaderValue) : Type 0 where
  pub passes : PassedItems old new []
  pub falls : pbf_work_left new < pbf_work_left old

-- a PBF reader has no frame and no piece to take
pub record ComesToRest (old new : PbfReaderValue) : Type 0 where
  pub passes : PassedItems old new []
  pub holds : HoldsNoItem new

-- the answer of a PBF reader that was to take a frame or a piece: it did, there was none, or out of memory
abbrev pub AnswersStep : PbfReaderValue → PbfReaderValue → Result Bool NoMemory → Type 0
AnswersStep old new (Ok true) = StepsOn old new
AnswersStep old new (Ok false) = ComesToRest old new
AnswersStep old new (Err e) = PassedItems old new []
