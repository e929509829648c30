use Rattle.osm_blob.proofs.LeadingLemmas.{leading_frame-few, leading_frame-size, leading_frame-stays}
use Rattle.osm_blob.proofs.laws.leading_frames_stay.Goals as goal

pub returns-clause-stays : goal.returns-clause-stays
returns-clause-stays c = leading_frame-stays

pub returns-clause-short : goal.returns-clause-short
returns-clause-short c = leading_frame-few

pub returns-clause-whole : goal.returns-clause-whole
returns-clause-whole c = leading_frame-size
