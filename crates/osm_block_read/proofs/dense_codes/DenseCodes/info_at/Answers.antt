use Rattle.std.proofs.Common.{rules}
use Rattle.osm_block_read.proofs.DenseLemmas.{dense-info}
use Rattle.osm_block_read.proofs.dense_codes.DenseCodes.info_at.Goals as goal

pub returns : goal.returns
returns c =
    rw (dense-info c.args.self.now c.args.at c.args.sums.now c.requires.even c.requires.at c.requires.sums)
    (search rules)
