use Rattle.std.proofs.Common.{◌≡◌, ◌-◌, ◌^◌, map, min, take}
use Rattle.std.specs.Prelude.{sum_by}
use Rattle.osm_entity.specs.Entities.{tag_weight}
use Rattle.osm_block_read.specs.Entries.{entry_tag}
use Rattle.osm_block_read.proofs.setting.Setting.weight_of_tags.Given as goal

abbrev pub invariant-loop-tag : goal.invariant-loop-tag
invariant-loop-tag l = l.total ≡ min (sum_by tag_weight (map (entry_tag l.self) (take l.tag-index l.tags))) (2 ^ 64 - 1)
