use Rattle.std.proofs.Common.{◌∷◌, arith}
use Rattle.osm_opl_line.proofs.DraftLemmas.{IsDraft-step, fields_from-drafted}
use Rattle.osm_opl_line.proofs.cutting.take_fields.Goals as goal

pub loop-letter-preserved : goal.loop-letter-preserved
loop-letter-preserved c =
    let before = rw c.in-Some.ensures.some at c.loop-letter.invariant.drafted.1 in
    let after = IsDraft-step c.in_ok-take.ensures.refused c.in_ok-take.ensures.ok before in
    record {
      drafted = (c.in-Some.letter ∷ c.loop-letter.invariant.drafted.0, after);
      read = c.in_ok-take.ensures.ok.read c.loop-letter.invariant.read;
      short = omega (arith, c.in-Some.ensures.shorter);
      utf8 = (c.in-Some.ensures.utf8 c.loop-letter.invariant.utf8 c.in_ok-take.ensures.ascii).1;
    }

pub returns-clause-fields : goal.returns-clause-fields
returns-clause-fields c =
    let end = rw c.in_default.ensures.none at c.loop-letter.invariant.drafted.1 in
    λ flow id. fields_from-drafted flow id end
