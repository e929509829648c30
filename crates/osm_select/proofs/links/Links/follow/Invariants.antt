use Rattle.std.specs.HashMap.{hash_map_len}
use Rattle.osm_select.specs.IdSets.{among}
use Rattle.osm_select.specs.Links.{linked}
use Rattle.osm_select.proofs.LinkLemmas.{Following}
use Rattle.osm_select.proofs.links.Links.follow.Given as goal

abbrev pub invariant-loop-ids : goal.invariant-loop-ids
invariant-loop-ids l = Following (linked l.initial.self) (among l.initial.marked) (among l.marked) (among l.queue)
    (linked l.self)

abbrev pub decreases-loop-ids : goal.decreases-loop-ids
decreases-loop-ids l = hash_map_len l.self.by
