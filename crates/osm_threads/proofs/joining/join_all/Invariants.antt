use Rattle.std.proofs.Common.{◌≡◌, vec_len}
use Rattle.osm_threads.specs.Rows.{AreMade, inlets_of, outlets_of}
use Rattle.osm_threads.proofs.joining.join_all.Given as goal

abbrev pub invariant-loop-pipe : goal.invariant-loop-pipe
invariant-loop-pipe g l = record {
  made : AreMade l.pipes l.pipe-index (inlets_of l.tasks.items) (outlets_of l.tasks.items);
  count : vec_len l.tasks ≡ vec_len l.initial.tasks;
}
