use Rattle.std.proofs.Common.{sym}
use Rattle.osm_opl_line.specs.Fields.{is_blank}
use Rattle.osm_opl_line.proofs.PartLemmas.{IsUtf8-cut}
use Rattle.osm_opl_line.proofs.PieceLemmas.{ascii-from_blank, pieces-cut, pieces-last}
use Rattle.osm_opl_line.proofs.pieces.cut_at_blank.Goals as goal

pub returns-in-Some-clause-cut : goal.returns-in-Some-clause-cut
returns-in-Some-clause-cut c = pieces-cut c.args.bytes.now c.in-Some.at (sym c.in-Some.ensures)

pub returns-in-Some-clause-utf8 : goal.returns-in-Some-clause-utf8
returns-in-Some-clause-utf8 c = IsUtf8-cut is_blank c.args.bytes.now c.in-Some.at ascii-from_blank c.in-Some.ensures

pub returns-in-None-clause-cut : goal.returns-in-None-clause-cut
returns-in-None-clause-cut c = pieces-last c.args.bytes.now (sym c.in-None.ensures)
