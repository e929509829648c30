-- The source gave the first bytes of the buffer.
use Rattle.std.proofs.Common.{◌≡◌, ◌+◌, ◌-◌, ◌≤◌, length, take}
use Rattle.osm_host.specs.Pulls.{SourceGave, source_value}
use Rattle.osm_run.proofs.areas.read_source.Given as goal

abbrev pub invariant-loop-count : goal.invariant-loop-count
invariant-loop-count g l = record {
  gave : SourceGave
      (source_value g.S.Source.rest g.S.Source.given g.S.Source.faults l.initial.source)
      (source_value g.S.Source.rest g.S.Source.given g.S.Source.faults l.source)
      (take l.count l.buffer.items);
  within : l.count ≤ length l.buffer.items;
  few : l.count ≤ 16777216 + 65536;
  faults : g.S.Source.faults l.source ≡ g.S.Source.faults l.initial.source;
  name : g.S.Source.name l.source ≡ g.S.Source.name l.initial.source;
}

abbrev pub decreases-loop-count : goal.decreases-loop-count
decreases-loop-count g l = 16777216 + 65536 + 1 - l.count
