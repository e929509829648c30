use Rattle.std.proofs.Common.{◌<◌, length, pos, arith, sym}
use Rattle.osm_entity.specs.declared.parts.Place.{Place}
use Rattle.osm_area.proofs.SideLemmas.{path-east_ends}
use Rattle.osm_area.proofs.edge.eastern_counts_odd.Goals as goal

pub returns : goal.returns
returns c =
    let zero : Place = record { lon = pos 0; lat = pos 0 } in
    let some : 0 < length c.args.path.now = omega (arith, c.in-len1-up.len_at_least) in
    let ends = path-east_ends c.args.place.now c.args.path.now zero some c.requires in
    rw (c.is_no_higher.ensures, c.is_no_higher-2.ensures) (sym ends)
