use Rattle.std.proofs.Common.{◌≤◌, ◌^◌, arith, refl}
use Rattle.osm_text.proofs.DegreesLemmas.{divided-none, pow-some, pow-within}
use Rattle.osm_text.proofs.degrees.parts.Goals as goal

pub returns-then-tens-ge38-clause-value : goal.returns-then-tens-ge38-clause-value
returns-then-tens-ge38-clause-value c = rw (divided-none c.args.number c.args.tens 38 (omega arith) (omega arith)) refl

pub pow-scale-requires : goal.pow-scale-requires
pow-scale-requires c =
    let bound : 10 ^ c.args.tens ≤ 10 ^ 37 = pow-within c.args.tens 37 (omega arith) in omega arith

pub nonzero_div-number : goal.nonzero_div-number
nonzero_div-number c = let some = pow-some c.args.tens in omega arith
