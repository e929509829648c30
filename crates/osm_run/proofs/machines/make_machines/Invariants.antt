use Rattle.std.proofs.Common.{◌≡◌, ◌++◌, ℕ, ◌<◌, ◌≤◌, length}
use Rattle.std.specs.Prelude.{get_or}
use Rattle.std.specs.Vec.Iter.{into_iter_items, into_iter_len}
use Rattle.osm_machine.specs.Devices.{source_seen}
use Rattle.osm_machine.specs.Sinks.{sink_seen}
use Rattle.osm_machine.specs.TaskMeanings.{IsMachineOf}
use Rattle.osm_run.specs.Commands.{area_at, kind_at}
use Rattle.osm_run.specs.Opened.{devices_seen}
use Rattle.osm_run.specs.Went.{device_at, sink_in, source_in}
use Rattle.osm_run.proofs.machines.make_machines.Given as goal

abbrev pub invariant-loop-device : goal.invariant-loop-device
invariant-loop-device g l = record {
  whole : l.yielded ++ into_iter_items l.device-iterator ≡ into_iter_items l.initial.device-iterator;
  rest : into_iter_len l.device-iterator ≡ length (into_iter_items l.device-iterator);
  place : l.at ≡ length l.yielded;
  count : length l.machines.items ≡ length l.yielded;
  areas_count : length l.areas.items ≡ length l.initial.areas.items;
  areas_left : (t : ℕ) → l.at ≤ t → area_at l.areas.items t ≡ area_at l.initial.areas.items t;
  each : (t : ℕ) (d : _) → t < length l.yielded → IsMachineOf (kind_at l.tasks t) (area_at l.initial.areas.items t)
      (source_in (device_at (devices_seen
      (source_seen g.S.Source.name g.S.Source.rest g.S.Source.given g.S.Source.faults)
      (sink_seen g.K.Sink.name g.K.Sink.taken g.K.Sink.faults) l.yielded) t))
      (sink_in (device_at (devices_seen
      (source_seen g.S.Source.name g.S.Source.rest g.S.Source.given g.S.Source.faults)
      (sink_seen g.K.Sink.name g.K.Sink.taken g.K.Sink.faults) l.yielded) t))
      (get_or l.machines.items t d);
}
