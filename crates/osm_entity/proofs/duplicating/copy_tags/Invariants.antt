use Rattle.std.proofs.Common.{◌≡◌, take}
use Rattle.osm_entity.proofs.duplicating.copy_tags.Given as goal

abbrev pub invariant-loop-tag : goal.invariant-loop-tag
invariant-loop-tag l = l.copy ≡ take l.tag-index l.tags
