use Rattle.std.proofs.Common.{arith}
use Rattle.osm_opl_line.proofs.PieceLemmas.{IsUtf8-after_first}
use Rattle.osm_opl_line.proofs.pieces.next_piece.Goals as goal

pub returns-in-len1-up-clause-utf8 : goal.returns-in-len1-up-clause-utf8
returns-in-len1-up-clause-utf8 c = λ whole ascii.
    c.cut_at_blank.ensures.utf8
    (IsUtf8-after_first c.skip_blanks.result.now (omega arith) ascii (c.skip_blanks.ensures.utf8 whole))
