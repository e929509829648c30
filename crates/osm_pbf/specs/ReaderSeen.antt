-- How contracts see a PBF reader.
use Rattle.osm_pbf.specs.Reader.{PbfReaderValue}
use Rattle.osm_pbf.specs.declared.reading.PbfReader.TheInside.{Inside}

-- a PBF reader is seen as its fields
abbrev pub pbf_reader_seen : Inside → PbfReaderValue
pbf_reader_seen r = record {
  limit = r.limit;
  given = r.given;
  feed = r.feed;
  came = r.came;
  spot = r.spot;
  said = r.left;
  blobs = r.blobs;
  piece = r.piece;
  verdict = r.verdict;
}
