use Rattle.std.proofs.Common.{take}
use Rattle.std.specs.Prelude.{All}
use Rattle.osm_entity.specs.Writable.{IsTagText}
use Rattle.osm_entity.proofs.holding.hold_tags.Given as goal

abbrev pub invariant-loop-tag : goal.invariant-loop-tag
invariant-loop-tag l = All IsTagText (take l.tag-index l.tags)
