-- Which regular files a host opened: what is no regular file has no identity, and may be opened as often as one likes.
-- Here they are two lists of identities; the code asks the system for the device and the inode of an opened file.
use Rattle.std.specs.Prelude.{◌≡◌, List, [], ◌∷◌, ◌++◌, Contains, Option, Some, None}
use Rattle.osm_host_std.specs.declared.openings.Identity.{Identity}
use Rattle.osm_host_std.specs.declared.openings.Openings.{Openings}

-- these files have the one of this identity
abbrev pub IsAmong : List Identity → Option Identity → Type 0
IsAmong files None = ⊥
IsAmong files (Some identity) = Contains files identity

-- these files, and the one that was just opened
abbrev pub with_file : List Identity → Option Identity → List Identity
with_file files None = files
with_file files (Some identity) = files ++ identity ∷ []

-- a file that was opened neither to be read nor to be written
pub record IsFree (openings : Openings) (identity : Option Identity) : Type 0 where
  pub unread : IsAmong openings.read.items identity → ⊥
  pub unwritten : IsAmong openings.written.items identity → ⊥

-- a source opens a file that is not written, and it is then among those that are read
pub record AddsSource (before now : Openings) (identity : Option Identity) : Type 0 where
  pub unwritten : IsAmong before.written.items identity → ⊥
  pub reads : now.read.items ≡ with_file before.read.items identity
  pub writes : now.written.items ≡ before.written.items

-- a sink opens a file that was not opened before, and it is then among those that are written
pub record AddsSink (before now : Openings) (identity : Option Identity) : Type 0 where
  pub free : IsFree before identity
  pub reads : now.read.items ≡ before.read.items
  pub writes : now.written.items ≡ with_file before.written.items identity

-- no file was opened
pub record SameOpenings (before now : Openings) : Type 0 where
  pub reads : now.read.items ≡ before.read.items
  pub writes : now.written.items ≡ before.written.items
