use Rattle.std.proofs.Common.{◌+◌, arith}
use Rattle.osm_opl_line.proofs.BytesLemmas.{plain-covered}
use Rattle.osm_opl_line.proofs.cutting.plain_length.Goals as goal

pub loop-at-preserved : goal.loop-at-preserved
loop-at-preserved c =
    record {
      within = omega arith;
      plain = plain-covered c.args.line.now c.loop-at.at c.loop-at.at (c.loop-at.at + 16) (omega arith)
          c.loop-at.invariant.plain (c.is_plain_at.ensures c.if-not-is_plain_at.false);
    }
