use Rattle.std.proofs.Common.{◌≡◌, length, true}
use Rattle.std.specs.Option.{option_map}
use Rattle.osm_wire.specs.Entries.{all_bytes}
use Rattle.osm_block_read.specs.HeaderTests.{tests_of}
use Rattle.osm_block_read.specs.Told.{bytes_to_come}
use Rattle.osm_block_read.proofs.header.test_features.Given as goal

abbrev pub invariant-loop-feature : goal.invariant-loop-feature
invariant-loop-feature l =
    option_map (tests_of l.are_texts l.are_known) (bytes_to_come l.features)
    ≡ option_map (tests_of true true) (all_bytes 4 l.message)

abbrev pub decreases-loop-feature : goal.decreases-loop-feature
decreases-loop-feature l = length l.features.fields
