-- Sections, taken one by one: each later one decides where its ring holds the place.
use Rattle.std.proofs.Common.{◌≡◌, Bool, true, false, cond, List, [], ◌∷◌, ◌++◌, reverse, refl}
use Rattle.std.specs.Prelude.{Option, Some}
use Rattle.std.specs.List.{find}
use Rattle.std.specs.Option.{option_map_or}
use Rattle.std.proofs.lemmas.List.{reverse-append}
use Rattle.osm_entity.specs.declared.parts.Place.{Place}
use Rattle.osm_area.specs.Rings.{is_in_ring}
use Rattle.osm_area.specs.Areas.{sections_hold}
use Rattle.osm_area.specs.declared.area.Section.{Section}

-- the section that is found first decides
found-first : (here : Bool) (section : Section) (others : Option Section) →
    option_map_or (λ s. s.add) (cond here (Some section) others) false ≡
    cond here section.add (option_map_or (λ s. s.add) others false)
found-first true section others = refl
found-first false section others = refl

-- a section behind others
pub sections_hold-more : (sections : List Section) (section : Section) (place : Place) →
    sections_hold (sections ++ section ∷ []) place ≡
    cond (is_in_ring section.ring place) section.add (sections_hold sections place)
sections_hold-more sections section place =
    rw (reverse-append sections (section ∷ []))
    (found-first (is_in_ring section.ring place) section (find (λ s. is_in_ring s.ring place) (reverse sections)))
