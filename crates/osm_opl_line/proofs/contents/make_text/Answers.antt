use Rattle.std.proofs.Common.{arith, take}
use Rattle.std.proofs.lemmas.List.{length-take-le}
use Rattle.osm_opl_line.proofs.MadeTextLemmas.{length-unescaped}
use Rattle.osm_opl_line.proofs.contents.make_text.Goals as goal

pub returns-in-Ok-clause-shorter : goal.returns-in-Ok-clause-shorter
returns-in-Ok-clause-shorter c =
    omega (
      arith,
      length-unescaped (take c.args.len c.args.bytes.now) c.in-Ok.text c.in-Ok.ensures.value,
      length-take-le c.args.len c.args.bytes.now c.requires.within,
    )
