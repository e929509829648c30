use Rattle.std.proofs.Common.{◌≡◌, Bool, true, false, refl, arith}
use Rattle.osm_area.specs.Areas.{holds}
use Rattle.osm_area.specs.declared.area.Area.TheVariants.{Box}
use Rattle.osm_area.specs.declared.bounds.Bounds.{Bounds}
use Rattle.osm_area.proofs.BoundsLemmas.{is_in_ring-out}
use Rattle.osm_area.proofs.laws.boxes_hold_their_rings.Goals as goal

-- what is not false is true
unless-false : (within inside : Bool) → (within ≡ false → inside ≡ false) → inside ≡ true → within ≡ true
unless-false true inside out is = refl
unless-false false inside out is = grind (arith, out refl)

pub returns : goal.returns
returns c left right top bottom ring place within inside =
    let bounds : Bounds = record { left = left; right = right; top = top; bottom = bottom } in
    unless-false (holds (Box left right top bottom) place) _ (λ out. is_in_ring-out bounds place ring out within)
    inside
