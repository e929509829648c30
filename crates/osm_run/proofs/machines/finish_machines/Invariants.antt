use Rattle.std.proofs.Common.{◌≡◌, ◌++◌, length}
use Rattle.std.specs.Vec.Iter.{into_iter_items, into_iter_len}
use Rattle.osm_machine.specs.Devices.{source_seen}
use Rattle.osm_machine.specs.Sinks.{sink_seen}
use Rattle.osm_run.specs.Leaving.{HasRoomFor}
use Rattle.osm_run.specs.Opened.{devices_seen}
use Rattle.osm_run.specs.Went.{devices_of, machine_ends, verdicts_of}
use Rattle.osm_run.proofs.machines.finish_machines.Given as goal

abbrev pub invariant-loop-machine : goal.invariant-loop-machine
invariant-loop-machine g l = record {
  whole : l.yielded ++ into_iter_items l.machine-iterator ≡ into_iter_items l.initial.machine-iterator;
  rest : into_iter_len l.machine-iterator ≡ length (into_iter_items l.machine-iterator);
  place : l.task ≡ length l.yielded;
  room : HasRoomFor l.task (length (into_iter_items l.initial.machine-iterator)) l.left;
  devices : devices_seen (source_seen g.S.Source.name g.S.Source.rest g.S.Source.given g.S.Source.faults)
      (sink_seen g.K.Sink.name g.K.Sink.taken g.K.Sink.faults) l.left.devices.items ≡ devices_of l.yielded;
  verdicts : l.left.verdicts.items ≡ verdicts_of l.yielded;
  ends : l.left.ends.items ≡ machine_ends l.yielded;
}
