-- The law on the files of a run that was out of memory.
use Rattle.osm_run.proofs.MemoryLemmas.{memory_prefixes}
use Rattle.osm_run.proofs.laws.memory_leaves_prefixes.Goals as goal

pub returns : goal.returns
returns c = memory_prefixes
