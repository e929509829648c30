use Rattle.osm_pbf.proofs.WritingLemmas.{prefix-onward, text-before, text-done, text-none, took-onward}
use Rattle.osm_pbf.proofs.writing_laws.pbf_files_grow.Goals as goal

pub returns-clause-header : goal.returns-clause-header
returns-clause-header c = text-none

pub returns-clause-before : goal.returns-clause-before
returns-clause-before c = text-before

pub returns-clause-done : goal.returns-clause-done
returns-clause-done c = text-done

pub returns-clause-some : goal.returns-clause-some
returns-clause-some c = took-onward

pub returns-clause-more : goal.returns-clause-more
returns-clause-more c = prefix-onward
