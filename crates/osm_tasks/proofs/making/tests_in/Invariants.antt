use Rattle.std.proofs.Common.{◌≡◌, take, map, filter}
use Rattle.osm_tasks.specs.Given.{is_tag_test, test_of}
use Rattle.osm_tasks.proofs.making.tests_in.Given as goal

abbrev pub invariant-loop-word : goal.invariant-loop-word
invariant-loop-word l = l.tests ≡ map test_of (filter is_tag_test (take l.word-index l.words))
