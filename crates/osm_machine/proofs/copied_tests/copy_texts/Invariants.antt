use Rattle.std.proofs.Common.{◌≡◌, take}
use Rattle.osm_machine.proofs.copied_tests.copy_texts.Given as goal

abbrev pub invariant-loop-text : goal.invariant-loop-text
invariant-loop-text l = l.copy ≡ take l.text-index l.texts
