use Rattle.std.proofs.Common.{◌≡◌, ◌≤◌, ◌^◌, ℤ, IsTrue, rules, refl, to_z, of_z, w64, unsigned_abs}
use Rattle.std.proofs.lemmas.Bool.{le-leb}
use Rattle.std.proofs.lemmas.Int.{to_z-of_z}
use Rattle.osm_area.specs.Edges.{is_ring_place}
use Rattle.osm_poly.proofs.point.read_place.Goals as goal

-- degrees within the limit are those of a place of a ring
is_ring_place-within : (east north : ℤ) → unsigned_abs east ≤ 10 ^ 12 → unsigned_abs north ≤ 10 ^ 12 →
    IsTrue (is_ring_place (record { lon = east; lat = north }))
is_ring_place-within east north within_east within_north =
    rw (le-leb (unsigned_abs east) (10 ^ 12) within_east, le-leb (unsigned_abs north) (10 ^ 12) within_north) refl

pub returns-clause-size : goal.returns-clause-size
returns-clause-size c =
    let east : to_z w64 (of_z w64 c.in_ok-lon.lon) ≡ c.in_ok-lon.lon = search (rules, refl, to_z-of_z) in
    let north : to_z w64 (of_z w64 c.in_ok-lat.lat) ≡ c.in_ok-lat.lat = search (rules, refl, to_z-of_z) in
    rw (east, north)
    (is_ring_place-within c.in_ok-lon.lon c.in_ok-lat.lat c.in_ok-lon.ensures.size c.in_ok-lat.ensures.size)
