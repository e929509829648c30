-- How contracts see an OPL reader.
use Rattle.osm_opl.specs.Reader.{ReaderValue}
use Rattle.osm_opl.specs.declared.reading.OplReader.TheInside.{Inside}

-- a reader is seen as its fields, but for its allocator
abbrev pub reader_seen : Inside → ReaderValue
reader_seen r = record {
  flow = r.flow;
  limit = r.limit;
  given = r.given;
  feed = r.feed;
  lines = r.lines;
  unread = r.unread;
  verdict = r.verdict;
}
