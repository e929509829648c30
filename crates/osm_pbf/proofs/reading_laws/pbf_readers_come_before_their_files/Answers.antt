use Rattle.osm_pbf.proofs.StandingLemmas.{bad_stays, before_later, before_now}
use Rattle.osm_pbf.proofs.reading_laws.pbf_readers_come_before_their_files.Goals as goal

pub returns-clause-now : goal.returns-clause-now
returns-clause-now c = before_now

pub returns-clause-later : goal.returns-clause-later
returns-clause-later c = before_later

pub returns-clause-bad : goal.returns-clause-bad
returns-clause-bad c = bad_stays
