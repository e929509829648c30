use Rattle.osm_pbf.proofs.StandingLemmas.{gives_all, gives_first}
use Rattle.osm_pbf.proofs.reading_laws.pbf_readers_give_the_items_of_their_files.Goals as goal

pub returns-clause-first : goal.returns-clause-first
returns-clause-first c = gives_first

pub returns-clause-wants : goal.returns-clause-wants
returns-clause-wants c = gives_all

pub returns-clause-over : goal.returns-clause-over
returns-clause-over c = λ r bytes came items s. s.over
