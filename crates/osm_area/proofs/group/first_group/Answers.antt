use Rattle.std.proofs.Common.{sym, arith}
use Rattle.std.proofs.lemmas.List.{take_all}
use Rattle.osm_area.proofs.group.first_group.Goals as goal

pub returns : goal.returns
returns c = sym (take_all 1025 c.args.path.now (omega (arith, c.if-path-gt-GROUP.false)))
