-- There is room for each task before, and an entry for each reader before.
use Rattle.std.proofs.Common.{◌≡◌, [], take, replicate}
use Rattle.std.specs.Prelude.{flat_map}
use Rattle.osm_machine.specs.Devices.{SourceSeen}
use Rattle.osm_machine.specs.Sinks.{SinkSeen}
use Rattle.osm_run.specs.Commands.{plan_of}
use Rattle.osm_run.specs.Course.{entry}
use Rattle.osm_run.specs.Opened.{course_at_rest, devices_seen}
use Rattle.osm_run.specs.Plan.{uses}
use Rattle.osm_run.specs.Went.{NoDevice}
use Rattle.osm_run.proofs.opening.room_for.Given as goal

abbrev pub invariant-loop-at : goal.invariant-loop-at
invariant-loop-at g l =
    ((source_as : g.row.S.Denot → SourceSeen) (sink_as : g.row.K.Denot → SinkSeen) →
    devices_seen source_as sink_as l.devices.items ≡ replicate l.at NoDevice)
    × (l.ends ≡ flat_map (entry (course_at_rest [])) (uses (take l.at (plan_of l.tasks))))
