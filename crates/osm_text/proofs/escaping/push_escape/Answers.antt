use Rattle.std.proofs.Common.{arith}
use Rattle.osm_text.proofs.EscapeLemmas.{hex_escape-one, hex_escape-two}
use Rattle.osm_text.proofs.escaping.push_escape.Goals as goal

pub returns-then-byte-lt16-clause-ok : goal.returns-then-byte-lt16-clause-ok
returns-then-byte-lt16-clause-ok c =
    rw (hex_escape-one c.args.byte (omega arith), ← c.hex_digit.ensures) c.append.ensures.ok

pub returns-clause-ok : goal.returns-clause-ok
returns-clause-ok c =
    rw (hex_escape-two c.args.byte (omega arith) (omega arith), ← c.hex_digit-2.ensures, ← c.hex_digit-3.ensures)
    c.append-2.ensures.ok
