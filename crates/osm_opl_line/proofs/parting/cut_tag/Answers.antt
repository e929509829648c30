use Rattle.std.proofs.Common.{arith}
use Rattle.std.proofs.lemmas.Bool.{eqb-true}
use Rattle.osm_opl_line.specs.Contents.{is_equals}
use Rattle.osm_opl_line.proofs.PartLemmas.{IsUtf8-cut}
use Rattle.osm_opl_line.proofs.parting.cut_tag.Goals as goal

pub returns-in-Some-clause-utf8 : goal.returns-in-Some-clause-utf8
returns-in-Some-clause-utf8 c =
    IsUtf8-cut is_equals c.args.part.now c.in-Some.at (λ b is. omega (arith, eqb-true b 61 is)) c.in-Some.ensures
