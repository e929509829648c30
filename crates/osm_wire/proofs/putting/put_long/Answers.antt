use Rattle.std.proofs.Common.{◌∙◌, ◌+◌, ◌%◌, refl, arith, length-set}
use Rattle.osm_wire.specs.Written.{shortest_varint}
use Rattle.osm_wire.proofs.WrittenLemmas.{varint-step}
use Rattle.osm_wire.proofs.putting.put_long.Goals as goal

pub loop-rest-init : goal.loop-rest-init
unfolding shortest_varint
loop-rest-init c = record { room = refl; within = omega arith; small = omega (arith, c.ranges.n.fits); value = refl }

pub loop-rest-preserved : goal.loop-rest-preserved
loop-rest-preserved c =
    let step =
    varint-step c.args.n c.loop-rest.size c.loop-rest.rest c.loop-rest.bytes c.loop-rest.invariant.within
    (omega (arith, c.loop-rest.invariant.room, c.loop-rest.invariant.within))
    c.loop-rest-test.true c.loop-rest.invariant.small c.loop-rest.invariant.value in
    record {
      room = length-set c.loop-rest.bytes c.loop-rest.size (c.loop-rest.rest % 128 + 128) ∙ c.loop-rest.invariant.room;
      within = step.0;
      small = step.1;
      value = step.2;
    }
