use Rattle.std.proofs.Common.{arith}
use Rattle.osm_text.proofs.ScanningLemmas.{none-in_run, position-in_run}
use Rattle.osm_text.proofs.scanning.first_position.Goals as goal

pub returns-then-run-lt-LANES : goal.returns-then-run-lt-LANES
returns-then-run-lt-LANES g c =
    position-in_run _ c.args.bytes.now c.loop-at.at c.loop-at.at 16
    c.run_of_16-run.result c.loop-at.invariant.none (omega arith) (omega arith) c.run_of_16-run.ensures
    (omega arith)

pub loop-at-preserved : goal.loop-at-preserved
loop-at-preserved g c =
    record {
      within = omega arith;
      none = none-in_run _ c.args.bytes.now c.loop-at.at c.loop-at.at 16
          c.run_of_16-run.result c.loop-at.invariant.none (omega arith) (omega arith) c.run_of_16-run.ensures
          (omega arith);
    }
