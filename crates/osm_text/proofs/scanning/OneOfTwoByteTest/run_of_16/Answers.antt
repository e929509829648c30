use Rattle.std.proofs.Common.{arith}
use Rattle.osm_text.proofs.ScanningLemmas.{first-of_two}
use Rattle.osm_text.proofs.scanning.OneOfTwoByteTest.run_of_16.Goals as goal

pub returns : goal.returns
returns c =
    first-of_two c.args.bytes.now c.args.at 16 c.args.self.now.one c.args.self.now.other c.first_set.result c.requires
    (omega arith) c.first_set.ensures
