use Rattle.std.proofs.Common.{◌≡◌, take}
use Rattle.osm_select.specs.IdSets.{among, either}
use Rattle.osm_select.proofs.links.mark.Given as goal

abbrev pub invariant-loop-id : goal.invariant-loop-id
invariant-loop-id l = record {
  marked : among l.marked ≡ either (among l.initial.marked) (among (take l.id-index l.ids));
  queue : among l.queue ≡ either (among l.initial.queue) (among (take l.id-index l.ids));
}
