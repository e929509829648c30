use Rattle.std.proofs.Common.{◌≡◌, [], take, drop}
use Rattle.osm_tasks.specs.Refusals.{words_fault}
use Rattle.osm_tasks.proofs.checking.words_fault.Given as goal

abbrev pub invariant-loop-at : goal.invariant-loop-at
invariant-loop-at l =
    words_fault l.task l.name l.inputs l.outputs [] l.words ≡
    words_fault l.task l.name l.inputs l.outputs (take l.at l.words) (drop l.at l.words)
