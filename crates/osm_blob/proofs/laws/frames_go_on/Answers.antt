use Rattle.osm_blob.specs.Frames.{first_start}
use Rattle.osm_blob.proofs.FramesLemmas.{frames_from-more, frames_of-bad, frames_of-pieces}
use Rattle.osm_blob.proofs.laws.frames_go_on.Goals as goal

pub returns-clause-more : goal.returns-clause-more
returns-clause-more c = frames_from-more first_start

pub returns-clause-pieces : goal.returns-clause-pieces
returns-clause-pieces c = frames_of-pieces

pub returns-clause-bad : goal.returns-clause-bad
returns-clause-bad c = frames_of-bad
