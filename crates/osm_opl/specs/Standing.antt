-- What a reader stands for: the bytes that its source gave, whether their end came, and the items that it gave.
-- Here the bytes are one list, and their reading is that of the whole file; the code keeps neither.
use Rattle.std.specs.Prelude.{◌≡◌, ◌≢◌, ℕ, ◌+◌, List, ◌++◌, length, take, Bool, ◌==◌}
use Rattle.std.specs.List.{slice_split}
use Rattle.osm_entity.specs.Ascii.{newline}
use Rattle.osm_entity.specs.Items.{ItemValue}
use Rattle.osm_entity.specs.declared.kind.Flow.{Flow}
use Rattle.osm_entity.specs.declared.verdict.Verdict.TheVariants.{Running}
use Rattle.osm_host.specs.Counts.{raised}
use Rattle.osm_host.specs.Feeds.{FitsFeed, MayCome, reached_end}
use Rattle.osm_host.specs.declared.feed.Feed.TheVariants.{Open}
use Rattle.osm_entity.specs.Readings.{Reading, Cut, after, verdict_read}
use Rattle.osm_opl_line.specs.Reading.{lines_of, read_lines, opl_reading}
use Rattle.osm_opl.specs.Reader.{ReaderValue}
use Rattle.osm_opl.specs.Unread.{unread_bytes}

-- the reading of bytes whose first line has this number
abbrev pub reading_from : Flow → ℕ → List ℕ → Bool → Reading
reading_from flow number bytes clean =
    read_lines flow clean number (lines_of clean (slice_split (λ b. b == newline) bytes))

-- the reading of the bytes that a source gave, up to the limit of their reader
abbrev pub reader_reading : ReaderValue → List ℕ → Bool → Reading
reader_reading r bytes came = opl_reading r.flow (take r.limit bytes) came

-- whatever comes yet, the reading of a file is these items and then the reading of what is unread
abbrev pub GoesOn : ReaderValue → List ℕ → List ItemValue → Type 0
GoesOn r bytes items =
    (more : List ℕ) (clean : Bool) → MayCome r.feed more clean → opl_reading r.flow (take r.limit bytes ++ more) clean
    ≡ after items (reading_from r.flow (r.lines + 1) (unread_bytes r.unread ++ more) clean)

-- the reading of a file is these items, and its reader's verdict is that of its ending; an open source cuts nothing off
pub record IsOver (r : ReaderValue) (bytes : List ℕ) (came : Bool) (items : List ItemValue) : Type 0 where
  pub all : (reader_reading r bytes came).items ≡ items
  pub verdict : r.verdict ≡ verdict_read r.limit (length bytes) (reader_reading r bytes came).ending
  pub stopped : (reader_reading r bytes came).ending ≡ Cut → r.feed ≢ Open

-- a reader stands for all bytes that its source gave, for whether their end came, and for the items that it gave
pub record Stands (r : ReaderValue) (bytes : List ℕ) (came : Bool) (items : List ItemValue) : Type 0 where
  pub count : r.given ≡ raised 0 (length bytes)
  pub ended : came ≡ reached_end r.feed
  pub fits : FitsFeed r.feed r.limit (length bytes)
  pub running : r.verdict ≡ Running → GoesOn r bytes items
  pub over : r.verdict ≢ Running → IsOver r bytes came items

-- a reader gave these items: whatever it stood for, it stands for with them added
abbrev pub GaveItems : ReaderValue → ReaderValue → List ItemValue → Type 0
GaveItems old new more =
    (bytes : List ℕ) (came : Bool) (items : List ItemValue) → Stands old bytes came items →
    Stands new bytes came (items ++ more)
