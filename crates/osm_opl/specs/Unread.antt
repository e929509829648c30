-- The bytes that were pulled and not read yet.
-- Here they are two lists; the code keeps the second where a pull put it.
use Rattle.std.specs.Prelude.{◌≡◌, ℕ, ◌+◌, ◌≤◌, ◌<◌, List, [], ◌∷◌, ◌++◌, length, take, drop, false, ◌==◌, All}
use Rattle.osm_entity.specs.Ascii.{newline}
use Rattle.osm_opl_line.specs.Line.{longest_line}

-- no line ends in these bytes
abbrev pub HasNoNewline : List ℕ → Type 0
HasNoNewline bytes = All (λ b. (b == newline) ≡ false) bytes

-- unread bytes: the beginning of a line that goes on in the piece, and the piece, which pulls gave
pub record UnreadValue : Type 0 where
  pub held : List ℕ
  pub piece : List ℕ

-- all bytes that were pulled and not read yet
abbrev pub unread_bytes : UnreadValue → List ℕ
unread_bytes u = u.held ++ u.piece

-- the line that is what is held and these first bytes of the piece
abbrev pub first_line : UnreadValue → ℕ → List ℕ
first_line u count = u.held ++ take count u.piece

-- what is unread behind what is held and the first bytes of the piece
abbrev pub left_past : UnreadValue → ℕ → UnreadValue
left_past u past = record { held = []; piece = drop past u.piece }

-- what is held ends no line, and isn't too long for one
pub record IsUnread (u : UnreadValue) : Type 0 where
  pub unended : HasNoNewline u.held
  pub short : length u.held ≤ longest_line

-- the first line of these bytes has this length, and a newline ends it
pub record EndsAt (bytes : List ℕ) (count : ℕ) : Type 0 where
  pub within : count < length bytes
  pub unended : HasNoNewline (take count bytes)
  pub cut : bytes ≡ take count bytes ++ newline ∷ drop (count + 1) bytes
