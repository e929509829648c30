use Rattle.std.proofs.Common.{◌≡◌, drop}
use Rattle.std.specs.Prelude.{count_by}
use Rattle.osm_graph.specs.Matching.{is_closing, is_opening, is_still_open, latest, matching_place}
use Rattle.osm_graph.proofs.matching.matching_place.Given as goal

abbrev pub invariant-loop-place : goal.invariant-loop-place
invariant-loop-place l = record {
  latest : matching_place l.earlier ≡ latest (λ place. is_still_open (drop place l.earlier)) l.place;
  opened : l.opened ≡ count_by is_opening (drop l.place l.earlier);
  closed : l.closed ≡ count_by is_closing (drop l.place l.earlier);
}
