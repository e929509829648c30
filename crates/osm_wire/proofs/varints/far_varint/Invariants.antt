use Rattle.std.proofs.Common.{◌≡◌, ◌<◌, ◌^◌, ◌*◌, take}
use Rattle.osm_wire.specs.Varints.{varint_value}
use Rattle.osm_wire.proofs.VarintLemmas.{GoOn}
use Rattle.osm_wire.proofs.varints.far_varint.Given as goal

abbrev pub invariant-loop-size : goal.invariant-loop-size
invariant-loop-size l = record {
  more : GoOn l.bytes l.size;
  value : l.number ≡ varint_value (take l.size l.bytes);
  small : l.number < 2 ^ (7 * l.size);
}
