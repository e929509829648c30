use Rattle.std.proofs.Common.{arith, to_z, of_z}
use Rattle.std.proofs.lemmas.Bool.{and_from}
use Rattle.std.proofs.lemmas.Int.{ints}
use Rattle.std.specs.Int.{w64}
use Rattle.osm_area.proofs.BoundsLemmas.{hold-parts, lies_between-wider}
use Rattle.osm_area.proofs.bounds.widened.Goals as goal

pub returns-clause-others : goal.returns-clause-others
returns-clause-others c q within =
    let parts = hold-parts c.args.bounds.now q within in
    and_from _ _
    (lies_between-wider c.args.bounds.now.left c.args.bounds.now.right (to_z w64 (of_z w64 c.lower.result))
    (to_z w64 (of_z w64 c.higher.result)) q.lon (omega (arith, ints)) (omega (arith, ints)) parts.0)
    (lies_between-wider c.args.bounds.now.bottom c.args.bounds.now.top (to_z w64 (of_z w64 c.lower-2.result))
    (to_z w64 (of_z w64 c.higher-2.result)) q.lat (omega (arith, ints)) (omega (arith, ints)) parts.1)
