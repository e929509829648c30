use Rattle.std.proofs.Common.{◌≡◌, ◌+◌, arith}
use Rattle.osm_text.proofs.ScanningLemmas.{none-in_run, position-in_run, position-none}
use Rattle.osm_text.proofs.scanning.position_in_few.Goals as goal

pub returns-then-run-lt-FEW_LANES : goal.returns-then-run-lt-FEW_LANES
returns-then-run-lt-FEW_LANES g c =
    let here : 0 + c.run_of_4-run.result ≡ c.run_of_4-run.result = omega arith in
    rw here at (position-in_run _ c.args.bytes.now 0 0 4 c.run_of_4-run.result
    (λ k below. absurd (omega arith)) (omega arith) (omega arith) c.run_of_4-run.ensures (omega arith))

pub returns-then-run-lt-FEW_LANES-2 : goal.returns-then-run-lt-FEW_LANES-2
returns-then-run-lt-FEW_LANES-2 g c =
    let front = none-in_run _ c.args.bytes.now 0 0 4 c.run_of_4-run.result
    (λ k below. absurd (omega arith)) (omega arith) (omega arith) c.run_of_4-run.ensures (omega arith) in
    position-in_run _ c.args.bytes.now 4 _ 4 c.run_of_4-run-2.result
    (λ k below. front k (omega arith)) (omega arith) (omega arith) c.run_of_4-run-2.ensures (omega arith)

pub returns-else-run-lt-FEW_LANES-2 : goal.returns-else-run-lt-FEW_LANES-2
returns-else-run-lt-FEW_LANES-2 g c =
    let front = none-in_run _ c.args.bytes.now 0 0 4 c.run_of_4-run.result
    (λ k below. absurd (omega arith)) (omega arith) (omega arith) c.run_of_4-run.ensures (omega arith) in
    let none = none-in_run _ c.args.bytes.now 4 _ 4 c.run_of_4-run-2.result
    (λ k below. front k (omega arith)) (omega arith) (omega arith) c.run_of_4-run-2.ensures (omega arith) in
    position-none _ c.args.bytes.now (λ k below. none k (omega arith))
