-- What a PBF reader stands for: the bytes that its source gave, whether their end came, and the items that it gave.
-- Here the bytes are one list, and their reading is that of the whole file; the code keeps neither.
use Rattle.std.specs.Prelude.{◌≡◌, ◌≢◌, ℕ, List, [], ◌++◌, length, take, Bool, false}
use Rattle.osm_entity.specs.Items.{ItemValue}
use Rattle.osm_entity.specs.Readings.{Reading, Cut, after, verdict_read}
use Rattle.osm_entity.specs.declared.verdict.Verdict.TheVariants.{Running}
use Rattle.osm_host.specs.Counts.{raised}
use Rattle.osm_host.specs.Feeds.{FitsFeed, MayCome, reached_end}
use Rattle.osm_host.specs.declared.feed.Feed.TheVariants.{Open}
use Rattle.osm_pbf.specs.Reader.{PbfReaderValue, pbf_reading_left}
use Rattle.osm_pbf.specs.Reading.{pbf_reading}

-- the reading of the bytes that a source gave, up to the limit of their PBF reader
abbrev pub pbf_reader_reading : PbfReaderValue → List ℕ → Bool → Reading
pbf_reader_reading r bytes came = pbf_reading (take r.limit bytes) came

-- whatever comes yet, the reading of a PBF file is these items and then the reading of what its reader holds
abbrev pub GoesOnPbf : PbfReaderValue → List ℕ → List ItemValue → Type 0
GoesOnPbf r bytes items =
    (more : List ℕ) (clean : Bool) → MayCome r.feed more clean →
    pbf_reading (take r.limit bytes ++ more) clean ≡ after items (pbf_reading_left r more clean)

-- the reading of a PBF file is these items, and its reader's verdict is that of its ending; an open source cuts nothing
-- off
pub record IsOverPbf (r : PbfReaderValue) (bytes : List ℕ) (came : Bool) (items : List ItemValue) : Type 0 where
  pub all : (pbf_reader_reading r bytes came).items ≡ items
  pub verdict : r.verdict ≡ verdict_read r.limit (length bytes) (pbf_reader_reading r bytes came).ending
  pub stopped : (pbf_reader_reading r bytes came).ending ≡ Cut → r.feed ≢ Open

-- a PBF reader stands for all bytes that its source gave, for whether their end came, and for the items that it gave
pub record StandsForPbf (r : PbfReaderValue) (bytes : List ℕ) (came : Bool) (items : List ItemValue) : Type 0 where
  pub count : r.given ≡ raised 0 (length bytes)
  pub ended : came ≡ reached_end r.feed
  pub fits : FitsFeed r.feed r.limit (length bytes)
  pub running : r.verdict ≡ Running → GoesOnPbf r bytes items
  pub over : r.verdict ≢ Running → IsOverPbf r bytes came items

-- a PBF reader gave these items: whatever it stood for, it stands for with them added
abbrev pub GavePbfItems : PbfReaderValue → PbfReaderValue → List ItemValue → Type 0
GavePbfItems old new more =
    (bytes : List ℕ) (came : Bool) (items : List ItemValue) → StandsForPbf old bytes came items →
    StandsForPbf new bytes came (items ++ more)

-- the items that are still to come of what a PBF reader holds
abbrev pub pbf_items_left : PbfReaderValue → List ItemValue
pbf_items_left r = (pbf_reading_left r [] false).items
