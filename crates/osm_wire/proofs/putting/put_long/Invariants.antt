use Rattle.std.proofs.Common.{◌≡◌, ◌<◌, ◌≤◌, ◌-◌, ◌*◌, ◌^◌, ◌++◌, length, take}
use Rattle.osm_wire.specs.Written.{shortest_varint, varint_within}
use Rattle.osm_wire.proofs.putting.put_long.Given as goal

abbrev pub invariant-loop-rest : goal.invariant-loop-rest
invariant-loop-rest l = record {
  room : length l.bytes ≡ 10;
  within : l.size ≤ 9;
  small : l.rest < 2 ^ (7 * (10 - l.size));
  value : shortest_varint l.fn.n ≡ take l.size l.bytes ++ varint_within (10 - l.size) l.rest;
}

abbrev pub decreases-loop-rest : goal.decreases-loop-rest
decreases-loop-rest l = 10 - l.size
