use Rattle.osm_run.proofs.RefusalLemmas.{refused_circle, refused_first, refused_same, refused_shown}
use Rattle.osm_run.proofs.words_laws.words_are_refused_rightly.Goals as goal

pub returns-clause-first : goal.returns-clause-first
returns-clause-first c = refused_first

pub returns-clause-circle : goal.returns-clause-circle
returns-clause-circle c = refused_circle

pub returns-clause-shown : goal.returns-clause-shown
returns-clause-shown c = refused_shown

pub returns-clause-same : goal.returns-clause-same
returns-clause-same c = refused_same
