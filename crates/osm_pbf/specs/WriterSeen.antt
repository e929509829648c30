-- How contracts see a PBF writer, and what its fields keep.
use Rattle.std.specs.Prelude.{◌≡◌, nat_lt}
use Rattle.osm_pbf.specs.Writer.{IsWriter, WriterValue}
use Rattle.osm_pbf.specs.declared.writing.PbfWriter.TheInside.{Inside}

-- a writer is seen as its options and its maker
abbrev pub writer_seen : Inside → WriterValue
writer_seen w = record { options = w.options; maker = w.maker }

-- the fields of a writer: its kind is that of its maker, and its run is open where its maker has entities
pub record IsKept (w : Inside) : Type 0 where
  pub writer : IsWriter (writer_seen w)
  pub kind : w.maker.kind ≡ w.kind
  pub opened : w.opened ≡ nat_lt 0 w.maker.count
