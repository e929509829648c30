use Rattle.std.proofs.Common.{arith}
use Rattle.osm_text.proofs.ScanningLemmas.{first-of_reserved}
use Rattle.osm_text.proofs.escaping.ReservedByteTest.run_of_16.Goals as goal

pub returns : goal.returns
returns c =
    first-of_reserved c.args.bytes.now c.args.at 16 c.first_set.result c.requires (omega arith) c.first_set.ensures
