use Rattle.std.proofs.Common.{refl}
use Rattle.osm_host.specs.Held.{files_of}
use Rattle.osm_host.proofs.memory.calls.MemoryHostHost.keep.Goals as goal

pub returns-then-fails-clause-files : goal.returns-then-fails-clause-files
returns-then-fails-clause-files c = (files_of c.args.self.now.files, refl, λ n differ. refl)
