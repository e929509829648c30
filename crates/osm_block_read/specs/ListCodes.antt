-- Tags and members by their codes.
-- Here each is one record of numbers; the code adds it to the list of all.
use Rattle.std.specs.Prelude.{ℕ, ℤ, pos}
use Rattle.osm_wire.specs.Integers.{int32, uint32}
use Rattle.osm_block_read.specs.declared.entry.EntryMember.{EntryMember}
use Rattle.osm_block_read.specs.declared.entry.EntryTag.{EntryTag}

-- the tag of the codes of a key and a value
abbrev pub tag_of_codes : ℕ → ℕ → EntryTag
tag_of_codes key value = record { key = pos (uint32 key); value = pos (uint32 value) }

-- the member of the code of a kind, an id, and the code of a role
abbrev pub member_of_codes : ℕ → ℤ → ℕ → EntryMember
member_of_codes kind id role = record { kind = int32 kind; id = id; role = int32 role }
