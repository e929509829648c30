use Rattle.std.proofs.Common.{◌∙◌, ap, sym}
use Rattle.std.proofs.lemmas.Bool.{and_parts}
use Rattle.osm_area.specs.Rings.{is_in_ring}
use Rattle.osm_area.proofs.BoundsLemmas.{is_in_ring-out}
use Rattle.osm_area.proofs.ring.Ring.holds.Goals as goal

pub closed_counts_odd-requires-clause-places : goal.closed_counts_odd-requires-clause-places
closed_counts_odd-requires-clause-places c =
    rw c.as_slice-corners.ensures (and_parts _ _ (and_parts _ _ c.self.invariant).0).0

pub closed_counts_odd-requires-clause-fits : goal.closed_counts_odd-requires-clause-fits
closed_counts_odd-requires-clause-fits c =
    rw (c.as_slice-groups.ensures, c.as_slice-corners.ensures) (and_parts _ _ c.self.invariant).1

pub returns-then-not-are_round : goal.returns-then-not-are_round
returns-then-not-are_round c =
    let out = sym c.are_round.ensures ∙ c.if-not-are_round.true in
    let within = (and_parts _ _ (and_parts _ _ c.self.invariant).0).1 in
    sym (is_in_ring-out c.self.inside.bounds c.args.place.now c.self.inside.corners out within) ∙
    ap (λ ring. is_in_ring ring c.args.place.now) c.self.view_is

pub returns : goal.returns
returns c =
    c.closed_counts_odd.ensures ∙
    ap (λ ring. is_in_ring ring c.args.place.now) (c.as_slice-corners.ensures ∙ c.self.view_is)
