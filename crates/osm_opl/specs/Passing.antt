-- How a reader goes on by one line.
-- Here a line is what it says; the code has its bytes.
use Rattle.std.specs.Prelude.{◌≡◌, ◌≢◌, ℕ, ◌+◌, ◌≤◌, ◌<◌, List, [], ◌++◌, length, Bool, true, false}
use Rattle.osm_entity.specs.declared.verdict.Cause.TheVariants.{LineTooLong}
use Rattle.osm_entity.specs.declared.verdict.Spot.TheVariants.{Line as AtLine}
use Rattle.osm_entity.specs.declared.verdict.Verdict.TheVariants.{Input}
use Rattle.osm_opl_line.specs.Line.{LineValue, Skipped, Good, Bad, opl_line}
use Rattle.osm_opl_line.specs.Reading.{before, is_line}
use Rattle.osm_host.specs.Feeds.{MayCome, reached_end}
use Rattle.osm_opl.specs.Reader.{ReaderValue}
use Rattle.osm_opl.specs.Standing.{reading_from}
use Rattle.osm_opl.specs.Unread.{IsUnread, first_line, unread_bytes, left_past}
use Rattle.osm_opl.specs.declared.unread.Found.{Found}
use Rattle.osm_opl.specs.declared.unread.Found.TheVariants.{Line, TooLong, Unfinished}

-- whether a line is bad
abbrev pub is_bad : LineValue → Bool
is_bad Skipped = false
is_bad (Good item) = false
is_bad (Bad cause) = true

-- a reader that passed the line which came off: a bad one ends it
abbrev pub passed : LineValue → ReaderValue → ReaderValue
passed Skipped r = record r { lines = r.lines + 1 }
passed (Good item) r = record r { lines = r.lines + 1 }
passed (Bad cause) r = record r { verdict = Input cause (AtLine (r.lines + 1)) }

-- a line came off, and the reading is what it says and then that of the rest; of a bad line only where no more comes
pub record TakesLine (old new : ReaderValue) (value : LineValue) : Type 0 where
  pub same : new ≡ record old { unread = new.unread }
  pub shorter : length (unread_bytes new.unread) < length (unread_bytes old.unread)
  pub reads : (number : ℕ) (more : List ℕ) (clean : Bool) → MayCome old.feed more clean →
      (is_bad value ≡ true → more ≡ []) → reading_from old.flow number (unread_bytes old.unread ++ more) clean
      ≡ before number value (reading_from old.flow (number + 1) (unread_bytes new.unread ++ more) clean)

-- a reader read no byte
pub record SameRest (old new : ReaderValue) : Type 0 where
  pub same : new ≡ record old { unread = new.unread }
  pub rest : unread_bytes new.unread ≡ unread_bytes old.unread

-- a reader of what is behind what is held and the first bytes of the piece
abbrev pub unread_past : ReaderValue → ℕ → ReaderValue
unread_past r past = record r { unread = left_past r.unread past }

-- a line was found, which the reader takes by passing over it, whatever it says
pub record FindsLine (old new : ReaderValue) (count past : ℕ) : Type 0 where
  pub same : SameRest old new
  pub apart : new.unread.held ≢ [] → count ≡ 0
  pub within : count ≤ length new.unread.piece
  pub fits : past ≤ length new.unread.piece
  pub shorter : length (unread_bytes (left_past new.unread past)) < length (unread_bytes old.unread)
  pub takes : (value : LineValue) → value ≡ opl_line new.flow (first_line new.unread count) →
      TakesLine old (unread_past new past) value

-- a line that is too long was found, which the reader takes by passing over it
pub record FindsLong (old new : ReaderValue) (past : ℕ) : Type 0 where
  pub same : new ≡ record old { unread = new.unread }
  pub fits : past ≤ length new.unread.piece
  pub shorter : length (unread_bytes (left_past new.unread past)) < length (unread_bytes old.unread)
  pub takes : TakesLine old (unread_past new past) (Bad LineTooLong)

-- no line is left in the unread bytes, and all of them are held
pub record HasNoLine (old new : ReaderValue) : Type 0 where
  pub same : new ≡ record old { unread = new.unread }
  pub held : new.unread.held ≡ unread_bytes old.unread
  pub piece : new.unread.piece ≡ []
  pub kept : IsUnread new.unread
  pub none : is_line (reached_end new.feed) new.unread.held ≡ false

-- what a reader found
abbrev pub FindsIn : ReaderValue → ReaderValue → Found → Type 0
FindsIn old new (Line count past) = FindsLine old new count past
FindsIn old new (TooLong past) = FindsLong old new past
FindsIn old new Unfinished = HasNoLine old new
