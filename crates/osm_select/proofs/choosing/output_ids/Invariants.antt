use Rattle.std.proofs.Common.{◌≡◌, take}
use Rattle.std.specs.Prelude.{filter}
use Rattle.osm_select.specs.Kept.{sets_of}
use Rattle.osm_select.specs.Parts.{has_item, keys_of}
use Rattle.osm_select.proofs.choosing.output_ids.Given as goal

abbrev pub invariant-loop-place : goal.invariant-loop-place
invariant-loop-place l = sets_of l.keys ≡ keys_of (filter (has_item (sets_of l.kept)) (take l.place l.items))
