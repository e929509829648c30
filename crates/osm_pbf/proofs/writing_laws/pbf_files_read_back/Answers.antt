use Rattle.osm_pbf.proofs.FilesBackLemmas.{done-back, item-same, stream-back}
use Rattle.osm_pbf.proofs.writing_laws.pbf_files_read_back.Goals as goal

pub returns-clause-items : goal.returns-clause-items
returns-clause-items c = stream-back

pub returns-clause-done : goal.returns-clause-done
returns-clause-done c = done-back

pub returns-clause-same : goal.returns-clause-same
returns-clause-same c = item-same
