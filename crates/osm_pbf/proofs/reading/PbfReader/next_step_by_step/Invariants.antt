use Rattle.std.proofs.Common.{[]}
use Rattle.osm_pbf.specs.Steps.{PassedItems, pbf_work_left}
use Rattle.osm_pbf.proofs.reading.PbfReader.next_step_by_step.Given as goal

abbrev pub invariant-loop-self : goal.invariant-loop-self
invariant-loop-self l = PassedItems l.initial.self l.self []

abbrev pub decreases-loop-self : goal.decreases-loop-self
decreases-loop-self l = pbf_work_left l.self
