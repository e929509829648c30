use Rattle.std.proofs.Common.{◌≡◌, ◌*◌, ◌^◌, to_z, of_z, arith, lit<}
use Rattle.std.specs.Int.{w128}
use Rattle.std.proofs.lemmas.Int.{to_z-of_z, fits_signed_mul}
use Rattle.osm_area.proofs.edge.product.Goals as goal

pub returns : goal.returns
returns c =
    let one : to_z w128 (of_z w128 c.args.offset) ≡ c.args.offset = to_z-of_z w128 _ c.ranges.offset in
    let other : to_z w128 (of_z w128 c.args.extent) ≡ c.args.extent = to_z-of_z w128 _ c.ranges.extent in
    let fits =
    fits_signed_mul w128 c.args.offset c.args.extent (2 ^ 64) (2 * 10 ^ 12) (omega (arith, c.requires.offset))
    c.requires.extent (lit< tt) in
    rw (one, other) (to_z-of_z w128 _ fits)
