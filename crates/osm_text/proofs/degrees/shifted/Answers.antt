use Rattle.std.proofs.Common.{◌-◌, arith}
use Rattle.osm_text.proofs.DegreesLemmas.{moved-up, moved-down}
use Rattle.osm_text.proofs.degrees.shifted.Goals as goal

pub returns-then-up-down-clause-value : goal.returns-then-up-down-clause-value
returns-then-up-down-clause-value c =
    rw (moved-up c.args.number c.args.up c.args.down (c.args.up - c.args.down) (omega arith)) at c.times.ensures.value

pub returns-else-up-down-clause-value : goal.returns-else-up-down-clause-value
returns-else-up-down-clause-value c =
    rw (moved-down c.args.number c.args.up c.args.down (c.args.down - c.args.up) (omega arith)) at c.parts.ensures.value
