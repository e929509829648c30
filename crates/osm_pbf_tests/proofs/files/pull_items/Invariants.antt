use Rattle.std.proofs.Common.{◌≡◌}
use Rattle.osm_pbf.specs.Reader.{CanPullPbf}
use Rattle.osm_pbf_tests.proofs.files.pull_items.Given as goal

abbrev pub invariant-loop-pull : goal.invariant-loop-pull
invariant-loop-pull g l = record {
  can : CanPullPbf l.from;
  name : g.K.Sink.name l.to ≡ g.K.Sink.name l.initial.to;
}
