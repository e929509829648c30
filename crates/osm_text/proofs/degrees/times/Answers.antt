use Rattle.std.proofs.Common.{arith}
use Rattle.osm_text.proofs.DegreesLemmas.{limited-tens, limited-large}
use Rattle.osm_text.proofs.degrees.times.Goals as goal

pub returns-then-tens-gt18-clause-value : goal.returns-then-tens-gt18-clause-value
returns-then-tens-gt18-clause-value c = limited-tens c.args.number c.args.tens (omega arith) (omega arith)

pub returns-then-number-gt-LIMIT-clause-value : goal.returns-then-number-gt-LIMIT-clause-value
returns-then-number-gt-LIMIT-clause-value c = limited-large c.args.number c.args.tens (omega arith)
