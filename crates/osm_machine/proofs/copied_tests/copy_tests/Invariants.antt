use Rattle.std.proofs.Common.{◌≡◌, take}
use Rattle.osm_machine.proofs.copied_tests.copy_tests.Given as goal

abbrev pub invariant-loop-test : goal.invariant-loop-test
invariant-loop-test l = l.copy ≡ take l.test-index l.tests
