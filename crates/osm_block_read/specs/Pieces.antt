-- The item of a piece of a block, and what every piece keeps.
-- Here a piece has its item; the code makes it from numbers and the texts of the block.
use Rattle.std.specs.Prelude.{◌≡◌, None}
use Rattle.osm_entity.specs.Items.{ItemValue}
use Rattle.osm_block_read.specs.Entries.{entry_item}
use Rattle.osm_block_read.specs.Faults.{entry_fault}
use Rattle.osm_block_read.specs.Seen.{entry_seen}
use Rattle.osm_block_read.specs.declared.piece.Piece.TheInside.{Inside}

-- the item that a piece says
abbrev pub piece_item : Inside → ItemValue
piece_item p = entry_item p.setting (entry_seen p.entry)

-- nothing is wrong with the entity of a piece
pub record IsPiece (p : Inside) : Type 0 where
  pub fine : entry_fault p.setting (entry_seen p.entry) ≡ None
