use Rattle.std.proofs.Common.{sym}
use Rattle.osm_host.proofs.Held.{files_found, files_missing}
use Rattle.osm_host.proofs.memory.files.bytes_of.Goals as goal

pub returns-in-Some : goal.returns-in-Some
returns-in-Some c = files_found c.args.files.now c.args.name.now c.in-Some.at c.index-files-at.result c.in-Some.ensures

pub returns-in-None : goal.returns-in-None
returns-in-None c = files_missing c.args.files.now c.args.name.now (sym c.in-None.ensures)
