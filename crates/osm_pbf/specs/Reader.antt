-- What a PBF reader is seen as, and what it keeps.
-- Here the bytes that it holds are lists, and the frame in hand is what it says yet; the code keeps them where they
-- came, and checks a block only when its first item is asked for.
use Rattle.std.specs.Prelude.{◌≡◌, ℕ, ◌+◌, ◌^◌, ◌≤◌, ◌<◌, List, [], ◌++◌, length, Bool, Ok}
use Rattle.std.specs.declared.result.Result.{Result}
use Rattle.osm_entity.specs.Items.{ItemValue}
use Rattle.osm_entity.specs.Readings.{Reading}
use Rattle.osm_entity.specs.declared.verdict.Cause.{Cause}
use Rattle.osm_entity.specs.declared.verdict.Spot.{Spot}
use Rattle.osm_entity.specs.declared.verdict.Verdict.{Verdict}
use Rattle.osm_entity.specs.declared.verdict.Verdict.TheVariants.{Running}
use Rattle.osm_host.specs.Pulls.{FeedValue}
use Rattle.osm_host.specs.declared.feed.Feed.{Feed}
use Rattle.osm_host.specs.declared.feed.Feed.TheVariants.{Open}
use Rattle.osm_blob.specs.Blobs.{BlobsValue}
use Rattle.osm_blob.specs.Leading.{Short, leading_frame}
use Rattle.osm_pbf.specs.Reading.{pbf_reading_from, said_before}

-- a PBF reader: its limit, what came of its source, whether a header came, the spot of the frame in hand and what that
-- says yet, the reader of the frames behind it, what was pulled last and not cut yet, and its verdict
pub record PbfReaderValue : Type 0 where
  pub limit : ℕ
  pub given : ℕ
  pub feed : Feed
  pub came : Bool
  pub spot : Spot
  pub said : Result (List ItemValue) Cause
  pub blobs : BlobsValue
  pub piece : List ℕ
  pub verdict : Verdict

-- the bytes behind the frame in hand that were pulled
abbrev pub pbf_unread : PbfReaderValue → List ℕ
pbf_unread r = r.blobs.unread ++ r.piece

-- what a PBF reader keeps of its source
abbrev pub pbf_fed : PbfReaderValue → FeedValue
pbf_fed r = record {
  limit = r.limit;
  given = r.given;
  feed = r.feed;
}

-- what every PBF reader keeps: it reads no byte past its limit
pub record IsPbfReader (r : PbfReaderValue) : Type 0 where
  pub sized : r.limit < 2 ^ 64
  pub limited : r.blobs.next.byte + length (pbf_unread r) ≤ r.limit
  pub counted : r.blobs.next.byte + length (pbf_unread r) ≤ r.given
  pub within : r.feed ≡ Open → r.given ≤ r.limit

-- nothing that a PBF reader holds gives a further item: the frame in hand says no more, and the bytes behind it are too
-- few to tell another
pub record HoldsNoItem (r : PbfReaderValue) : Type 0 where
  pub said : r.said ≡ Ok []
  pub piece : r.piece ≡ []
  pub leading : leading_frame r.blobs.unread ≡ Short

-- a PBF reader may be pulled: it runs, and no earlier pull failed, ended or passed the limit
pub record CanPullPbf (r : PbfReaderValue) : Type 0 where
  pub running : r.verdict ≡ Running
  pub feeds : r.feed ≡ Open

-- a PBF reader wants a pull: it may be pulled, and nothing that it holds gives a further item
pub record WantsPbf (r : PbfReaderValue) : Type 0 where
  pub can : CanPullPbf r
  pub holds : HoldsNoItem r

-- the limit of a PBF reader and what came of its source stay; what is unread never grows
pub record SamePbfSource (old new : PbfReaderValue) : Type 0 where
  pub limit : new.limit ≡ old.limit
  pub given : new.given ≡ old.given
  pub feed : new.feed ≡ old.feed
  pub left : length (pbf_unread new) ≤ length (pbf_unread old)

-- the reading of what a PBF reader holds, when more comes: what the frame in hand says yet, and the frames behind it
abbrev pub pbf_reading_left : PbfReaderValue → List ℕ → Bool → Reading
pbf_reading_left r more clean =
    said_before r.spot r.said (pbf_reading_from r.came r.blobs.next (pbf_unread r ++ more) clean)
