-- A maker as contracts see it: the record of what it counts and took.
use Rattle.osm_block_write.specs.Making.{MakerValue}
use Rattle.osm_block_write.specs.declared.maker.BlockMaker.TheInside.{Inside}

-- a maker without its room
abbrev pub maker_seen : Inside → MakerValue
maker_seen m = record {
  options = m.options;
  kind = m.kind;
  count = m.count;
  weight = m.weight;
  taken = m.taken;
  tagged = m.tagged;
}
