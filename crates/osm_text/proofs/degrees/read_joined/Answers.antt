use Rattle.std.proofs.Common.{◌+◌, length, arith}
use Rattle.osm_text.proofs.DegreesLemmas.{below-within, read-joined}
use Rattle.osm_text.proofs.degrees.read_joined.Goals as goal

pub returns-clause-value : goal.returns-clause-value
returns-clause-value c =
    read-joined c.args.before.now c.args.after.now c.in_ok-leading.leading c.read_on-2.result
    (omega arith) (omega arith) c.in_ok-leading.ensures.value c.read_on-2.ensures.value

pub returns-clause-size : goal.returns-clause-size
returns-clause-size c =
    below-within c.read_on-2.result (length c.args.before.now + length c.args.after.now) 38 (omega arith)
    c.read_on-2.ensures.size
