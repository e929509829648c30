use Rattle.osm_pbf.proofs.WritingLemmas.{holds-none}
use Rattle.osm_pbf.proofs.writing.PbfWriter.new.Goals as goal

pub returns-clause-holds : goal.returns-clause-holds
returns-clause-holds c = holds-none c.args.options c.in_ok-new.field-0 c.in_ok-new.ensures.holds
