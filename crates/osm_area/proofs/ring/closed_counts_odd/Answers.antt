use Rattle.std.proofs.Common.{pos, arith, sym}
use Rattle.osm_entity.specs.declared.parts.Place.{Place}
use Rattle.osm_area.proofs.PathLemmas.{is_in_ring-path}
use Rattle.osm_area.proofs.ring.closed_counts_odd.Goals as goal

pub returns : goal.returns
returns c =
    let zero : Place = record { lon = pos 0; lat = pos 0 } in
    let odd = is_in_ring-path c.args.place.now c.args.corners.now zero (omega (arith, c.in-len1-up.len_at_least)) in
    let counted = c.edge_counts.ensures in
    let others = c.groups_count_odd.ensures in
    rw (counted, others) (sym odd)
