-- How contracts see a reader of blobs.
use Rattle.std.specs.Prelude.{◌≤◌, drop, vec_len}
use Rattle.osm_blob.specs.Blobs.{BlobsValue, IsBlobs}
use Rattle.osm_blob.specs.declared.reading.BlobReader.TheInside.{Inside}

-- a reader of blobs is seen as its place, the buffer behind its start, and what it blames
abbrev pub blobs_seen : Inside → BlobsValue
blobs_seen b = record {
  next = record { number = b.number; byte = b.byte };
  unread = drop b.start b.buffer.items;
  blamed = b.blamed;
}

-- the start lies in the buffer
pub record IsStarted (b : Inside) : Type 0 where
  pub start : b.start ≤ vec_len b.buffer
  pub value : IsBlobs (blobs_seen b)
