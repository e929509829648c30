use Rattle.std.proofs.Common.{◌≡◌, vec_len}
use Rattle.osm_threads.specs.Meetings.{HaveMetSoFar}
use Rattle.osm_threads.specs.Rows.{inlets_of, outlets_of}
use Rattle.osm_threads.proofs.meeting.meet_all.Given as goal

abbrev pub invariant-loop-pipe : goal.invariant-loop-pipe
invariant-loop-pipe g l = record {
  so : HaveMetSoFar l.pipes l.pipe-index (inlets_of l.initial.tasks.items) (outlets_of l.initial.tasks.items)
      (inlets_of l.tasks.items) (outlets_of l.tasks.items);
  count : vec_len l.tasks ≡ vec_len l.initial.tasks;
}
