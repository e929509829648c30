use Rattle.osm_opl.proofs.StandingLemmas.{gives_all, gives_front}
use Rattle.osm_opl.proofs.laws.readers_give_the_items_of_their_files.Goals as goal

pub returns-clause-front : goal.returns-clause-front
returns-clause-front c = gives_front

pub returns-clause-pulls : goal.returns-clause-pulls
returns-clause-pulls c = gives_all

pub returns-clause-over : goal.returns-clause-over
returns-clause-over c = λ r bytes came items s. s.over
