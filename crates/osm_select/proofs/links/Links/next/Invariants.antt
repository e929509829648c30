use Rattle.std.proofs.Common.{length, ◌≡◌}
use Rattle.std.specs.HashMap.{hash_map_len}
use Rattle.osm_select.specs.Links.{linked}
use Rattle.osm_select.proofs.LinkLemmas.{Passed}
use Rattle.osm_select.proofs.links.Links.next.Given as goal

abbrev pub invariant-loop-id : goal.invariant-loop-id
invariant-loop-id l = record {
  passed : Passed l.initial.queue l.queue (linked l.initial.self) (linked l.self);
  fewer : hash_map_len l.self.by ≡ hash_map_len l.initial.self.by;
}

abbrev pub decreases-loop-id : goal.decreases-loop-id
decreases-loop-id l = length l.queue
