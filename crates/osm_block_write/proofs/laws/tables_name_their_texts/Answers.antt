use Rattle.osm_block_write.proofs.TableLawLemmas.{named, once}
use Rattle.osm_block_write.proofs.laws.tables_name_their_texts.Goals as goal

pub returns-clause-named : goal.returns-clause-named
returns-clause-named c = named

pub returns-clause-once : goal.returns-clause-once
returns-clause-once c = once
