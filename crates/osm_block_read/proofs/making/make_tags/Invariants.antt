use Rattle.std.proofs.Common.{◌≡◌, map, take}
use Rattle.osm_block_read.specs.Entries.{entry_tag}
use Rattle.osm_block_read.proofs.making.make_tags.Given as goal

abbrev pub invariant-loop-tag : goal.invariant-loop-tag
invariant-loop-tag l = l.made ≡ map (entry_tag l.setting) (take l.tag-index l.tags)
