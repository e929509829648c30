use Rattle.std.proofs.Common.{◌≡◌, ◌++◌, drop, length}
use Rattle.osm_words.specs.Split.{tasks_at, tasks_fault}
use Rattle.osm_words.proofs.splitting.split_tasks.Given as goal

abbrev pub invariant-loop-at : goal.invariant-loop-at
invariant-loop-at l = record {
  tasks : tasks_at 0 l.words ≡ l.tasks ++ tasks_at l.at (drop l.at l.words);
  fault : tasks_fault 0 0 l.words ≡ tasks_fault (length l.tasks) l.at (drop l.at l.words);
}
