use Rattle.std.proofs.Common.{arith}
use Rattle.osm_text.proofs.SplitLemmas.{IsUtf8-parts}
use Rattle.osm_text.proofs.UnescapedLengthLemmas.{length-parts, width-code}
use Rattle.osm_text.proofs.unescaping.read_escape.Goals as goal

pub returns-clause-utf8 : goal.returns-clause-utf8
returns-clause-utf8 c text =
    (IsUtf8-parts 37 c.args.after.now c.in_ok-code.code.now c.in_ok-code.rest.now (omega arith)
    c.in_ok-code.ensures.some text).1

pub returns-clause-room : goal.returns-clause-room
returns-clause-room c =
    omega (
      arith,
      length-parts c.args.after.now c.in_ok-code.code.now c.in_ok-code.rest.now c.in_ok-code.ensures.some,
      width-code c.in_ok-code.code.now c.in_ok-c.c c.in_ok-c.ensures,
    )
