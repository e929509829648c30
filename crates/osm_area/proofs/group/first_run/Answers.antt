use Rattle.std.proofs.Common.{sym, arith}
use Rattle.std.proofs.lemmas.List.{take_all}
use Rattle.osm_area.proofs.group.first_run.Goals as goal

pub returns : goal.returns
returns c = sym (take_all 33 c.args.path.now (omega (arith, c.if-path-gt-RUN.false)))
