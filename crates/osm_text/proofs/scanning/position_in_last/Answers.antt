use Rattle.std.proofs.Common.{arith}
use Rattle.osm_text.proofs.ScanningLemmas.{none-in_run, position-in_run, position-none}
use Rattle.osm_text.proofs.scanning.position_in_last.Goals as goal

pub returns-then-at-bytes : goal.returns-then-at-bytes
returns-then-at-bytes g c =
    position-none _ c.args.bytes.now
    (λ k below. c.requires.none k (omega (arith, c.if-at-bytes.true)))

pub returns-then-run-lt-LANES : goal.returns-then-run-lt-LANES
returns-then-run-lt-LANES g c =
    position-in_run _ c.args.bytes.now c.args.at _ 16
    c.run_of_16-run.result c.requires.none (omega arith) (omega arith) c.run_of_16-run.ensures (omega arith)

pub returns-else-run-lt-LANES : goal.returns-else-run-lt-LANES
returns-else-run-lt-LANES g c =
    let none = none-in_run _ c.args.bytes.now c.args.at _ 16
    c.run_of_16-run.result c.requires.none (omega arith) (omega arith) c.run_of_16-run.ensures (omega arith) in
    position-none _ c.args.bytes.now (λ k below. none k (omega arith))
