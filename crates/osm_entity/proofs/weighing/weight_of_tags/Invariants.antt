use Rattle.std.proofs.Common.{◌≡◌, take}
use Rattle.std.specs.Prelude.{sum_by}
use Rattle.osm_entity.specs.Entities.{tag_weight}
use Rattle.osm_entity.proofs.weighing.weight_of_tags.Given as goal

abbrev pub invariant-loop-tag : goal.invariant-loop-tag
invariant-loop-tag l = l.total ≡ sum_by tag_weight (take l.tag-index l.tags)
