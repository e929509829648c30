use Rattle.osm_machine.proofs.ReadingFileLemmas.{came-few, limited-few}
use Rattle.osm_machine.proofs.reading_laws.files_have_few_items.Goals as goal

pub returns-clause-bytes : goal.returns-clause-bytes
returns-clause-bytes c = came-few

pub returns-clause-limit : goal.returns-clause-limit
returns-clause-limit c = limited-few
