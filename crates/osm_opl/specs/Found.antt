-- What stands at the beginning of the unread bytes.
-- Here a line is a list of bytes before its newline; the code reads it where it lies.
use Rattle.std.specs.Prelude.{◌≡◌, ◌≢◌, ◌⊎◌, ℕ, ◌+◌, ◌≤◌, ◌<◌, List, [], ◌∷◌, ◌++◌, length, take, Option}
use Rattle.osm_entity.specs.Ascii.{newline}
use Rattle.std.specs.Io.KnownBytes.{prepend_known}
use Rattle.osm_opl_line.specs.Line.{longest_line}
use Rattle.osm_opl.specs.Unread.{UnreadValue, HasNoNewline, IsUnread, first_line, unread_bytes, left_past}
use Rattle.osm_opl.specs.declared.unread.Found.{Found}
use Rattle.osm_opl.specs.declared.unread.Found.TheVariants.{Line, TooLong, Unfinished}

-- the same bytes begin with a line, which lies in one of their two lists, and its newline
pub record HasLine (old new : UnreadValue) (count past : ℕ) : Type 0 where
  pub kept : unread_bytes new ≡ unread_bytes old
  pub apart : new.held ≢ [] → count ≡ 0
  pub within : count ≤ length new.piece
  pub fits : past ≤ length new.piece
  pub unended : HasNoNewline (first_line new count)
  pub cut : unread_bytes new ≡ first_line new count ++ newline ∷ unread_bytes (left_past new past)

-- a line that is too long, and what stands behind it: its newline, or nothing
pub record LongLine (u : UnreadValue) (past : ℕ) : Type 0 where
  pub line : List ℕ
  pub unended : HasNoNewline line
  pub long : longest_line < length line
  pub fits : past ≤ length u.piece
  pub cut : (unread_bytes u ≡ line ++ newline ∷ unread_bytes (left_past u past))
      ⊎ ((unread_bytes u ≡ line) × (unread_bytes (left_past u past) ≡ []))

-- no line ends in the unread bytes, and all are held
pub record IsHeld (old new : UnreadValue) : Type 0 where
  pub held : new.held ≡ unread_bytes old
  pub piece : new.piece ≡ []
  pub kept : IsUnread new

-- what was found at the beginning of the unread bytes
abbrev pub FoundIn : UnreadValue → UnreadValue → Found → Type 0
FoundIn old new (Line count past) = HasLine old new count past
FoundIn old new (TooLong past) = (new ≡ old) × LongLine new past
FoundIn old new Unfinished = IsHeld old new

-- a source gave a count of bytes, and the first of them, up to the room, came behind what was unread
pub record Filled {S : Type 0} (rest : S → Option (List ℕ)) (before now : S) (room count : ℕ)
    (old new : UnreadValue) : Type 0 where
  pub bytes : List ℕ
  pub told : rest before ≡ prepend_known bytes (rest now)
  pub size : count ≡ length bytes
  pub piece : new.piece ≡ old.piece ++ take room bytes
  pub held : new.held ≡ old.held
