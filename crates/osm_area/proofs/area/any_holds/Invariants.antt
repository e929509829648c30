use Rattle.std.proofs.Common.{◌≡◌, take}
use Rattle.osm_area.specs.Areas.{sections_hold}
use Rattle.osm_area.proofs.area.any_holds.Given as goal

-- the sections up to this one have said so
abbrev pub invariant-loop-section : goal.invariant-loop-section
invariant-loop-section l = l.inside ≡ sections_hold (take l.section-index l.sections) l.place
